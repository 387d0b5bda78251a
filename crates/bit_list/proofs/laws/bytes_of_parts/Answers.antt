use Rattle.bit_list.proofs.Wholes.{bytes_cut}
use Rattle.bit_list.proofs.laws.bytes_of_parts.Goals as goal

pub returns : goal.returns
returns c = λ begun xs ys. bytes_cut begun xs ys
