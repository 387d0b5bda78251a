use Rattle.bool_coder.proofs.ReadBack.{read_again}
use Rattle.bool_coder.proofs.laws.is_read_again.Goals as goal

pub returns : goal.returns
returns c = read_again
