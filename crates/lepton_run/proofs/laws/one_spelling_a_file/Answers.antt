use Rattle.lepton_run.proofs.BothWays.{spelled_so}
use Rattle.lepton_run.proofs.laws.one_spelling_a_file.Goals as goal

pub returns : goal.returns
returns c = spelled_so
