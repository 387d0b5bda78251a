use Rattle.bool_coder.proofs.ReadBack.{read_in_turn}
use Rattle.bool_coder.proofs.laws.is_read_in_turn.Goals as goal

pub returns : goal.returns
returns c = read_in_turn
