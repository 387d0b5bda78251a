use Rattle.bit_list.proofs.Wholes.{begun_cut}
use Rattle.bit_list.proofs.laws.begun_of_parts.Goals as goal

pub returns : goal.returns
returns c = λ begun xs ys. begun_cut begun xs ys
