use Rattle.bit_list.proofs.Cursors.{in_parts}
use Rattle.bit_list.proofs.laws.taken_in_parts.Goals as goal

pub returns : goal.returns
returns c = λ m n bytes cursor. in_parts m n bytes cursor
