use Rattle.lepton_run.proofs.BothWays.{migrated_back}
use Rattle.lepton_run.proofs.laws.migrated_stands_for_the_same.Goals as goal

pub returns : goal.returns
returns c = migrated_back
