use Rattle.bit_list.proofs.Stuffing.{one_reading}
use Rattle.bit_list.proofs.laws.stuffed_has_one_reading.Goals as goal

pub returns : goal.returns
returns c = λ a b x y e same. one_reading a b x y e same
