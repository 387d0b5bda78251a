use Rattle.bool_coder.proofs.ReadBack.{one_list}
use Rattle.bool_coder.proofs.laws.one_list_a_stream.Goals as goal

pub returns : goal.returns
returns c = one_list
