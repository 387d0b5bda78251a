use Rattle.bit_list.proofs.Rounds.{taken_again}
use Rattle.bit_list.proofs.laws.put_is_taken_again.Goals as goal

pub returns : goal.returns
returns c = λ bits prefix rest whole. taken_again bits prefix rest whole
