use Rattle.lepton_run.proofs.BothWays.{undone}
use Rattle.lepton_run.proofs.laws.decode_undoes_encode.Goals as goal

pub returns : goal.returns
returns c = undone
