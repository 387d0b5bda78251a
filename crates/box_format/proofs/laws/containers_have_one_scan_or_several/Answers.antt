use Rattle.box_format.proofs.Singles.{one_is_container, one_or_several}
use Rattle.box_format.proofs.SingleBytes.{migrated_is, migrated_stays, relaid_is}
use Rattle.box_format.proofs.laws.containers_have_one_scan_or_several.Goals as goal

pub returns-clause-one : goal.returns-clause-one
returns-clause-one c = one_is_container

pub returns-clause-either : goal.returns-clause-either
returns-clause-either c = one_or_several

pub returns-clause-migrated : goal.returns-clause-migrated
returns-clause-migrated c = migrated_is

pub returns-clause-stays : goal.returns-clause-stays
returns-clause-stays c = migrated_stays

pub returns-clause-relaid : goal.returns-clause-relaid
returns-clause-relaid c = relaid_is
