use Rattle.bit_list.proofs.Wholes.{bytes_count, begun_count, padding_count}
use Rattle.bit_list.proofs.laws.eight_bits_a_byte.Goals as goal

pub returns-clause-bytes : goal.returns-clause-bytes
returns-clause-bytes c = λ begun bits short. bytes_count begun bits short

pub returns-clause-begun : goal.returns-clause-begun
returns-clause-begun c = λ begun bits short. begun_count begun bits short

pub returns-clause-padded : goal.returns-clause-padded
returns-clause-padded c = λ begun bit short. padding_count begun bit short
