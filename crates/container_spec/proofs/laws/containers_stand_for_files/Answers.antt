use Rattle.container_spec.proofs.BoxesOnce.{refused_is_none, stands_for_one}
use Rattle.container_spec.proofs.ScansRestored.{file_is_restored, container_is_restored}
use Rattle.container_spec.proofs.RestoredScans.{restored_is_container}
use Rattle.container_spec.proofs.PadsTold.{first_can_pad, second_can_pad}
use Rattle.container_spec.proofs.MigratedMeanings.{migrated_means_the_same}
use Rattle.container_spec.proofs.laws.containers_stand_for_files.Goals as goal

pub returns-clause-none : goal.returns-clause-none
returns-clause-none c = refused_is_none

pub returns-clause-meaning : goal.returns-clause-meaning
returns-clause-meaning c = stands_for_one

pub returns-clause-restored : goal.returns-clause-restored
returns-clause-restored c = file_is_restored

pub returns-clause-encoded : goal.returns-clause-encoded
returns-clause-encoded c = container_is_restored

pub returns-clause-spelling : goal.returns-clause-spelling
returns-clause-spelling c = restored_is_container

pub returns-clause-first : goal.returns-clause-first
returns-clause-first c = first_can_pad

pub returns-clause-second : goal.returns-clause-second
returns-clause-second c = second_can_pad

pub returns-clause-migrated : goal.returns-clause-migrated
returns-clause-migrated c = migrated_means_the_same
