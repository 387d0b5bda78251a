use Rattle.lepton_run.proofs.RangesBack.{ranges_alone, whole_again}
use Rattle.lepton_run.proofs.laws.ranges_are_read_alone.Goals as goal

pub returns-clause-slice : goal.returns-clause-slice
returns-clause-slice c = ranges_alone

pub returns-clause-whole : goal.returns-clause-whole
returns-clause-whole c = whole_again
