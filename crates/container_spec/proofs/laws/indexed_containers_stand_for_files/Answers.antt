use Rattle.container_spec.proofs.IndexedFiles.{indexed_is_container, indexed_stays}
use Rattle.container_spec.proofs.PlacesFound.{places_are_found}
use Rattle.container_spec.proofs.laws.indexed_containers_stand_for_files.Goals as goal

pub returns-clause-indexed : goal.returns-clause-indexed
returns-clause-indexed c = indexed_is_container

pub returns-clause-stays : goal.returns-clause-stays
returns-clause-stays c = indexed_stays

pub returns-clause-found : goal.returns-clause-found
returns-clause-found c = places_are_found
