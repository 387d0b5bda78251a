use Rattle.container_spec.proofs.OneContainers.{one_container, one_container_of_file, contained_is_not_refused, accepted_is_not_refused, several_is_not_one}
use Rattle.container_spec.proofs.FilesRefused.{one_file_refusal}
use Rattle.container_spec.proofs.ScansSizes.{container_is_short, container_of_file_is_short}
use Rattle.container_spec.proofs.laws.files_have_one_container.Goals as goal

pub returns-clause-one : goal.returns-clause-one
returns-clause-one c = one_container

pub returns-clause-encoded : goal.returns-clause-encoded
returns-clause-encoded c = one_container_of_file

pub returns-clause-apart : goal.returns-clause-apart
returns-clause-apart c = contained_is_not_refused

pub returns-clause-accepted : goal.returns-clause-accepted
returns-clause-accepted c = accepted_is_not_refused

pub returns-clause-several : goal.returns-clause-several
returns-clause-several c = several_is_not_one

pub returns-clause-refusal : goal.returns-clause-refusal
returns-clause-refusal c = one_file_refusal

pub returns-clause-short : goal.returns-clause-short
returns-clause-short c = container_is_short

pub returns-clause-encoded_short : goal.returns-clause-encoded_short
returns-clause-encoded_short c = container_of_file_is_short
