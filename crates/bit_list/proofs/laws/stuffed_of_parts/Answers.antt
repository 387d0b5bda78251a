use Rattle.bit_list.proofs.Stuffing.{stuffed-append}
use Rattle.bit_list.proofs.laws.stuffed_of_parts.Goals as goal

pub returns : goal.returns
returns c = λ a b. stuffed-append a b
