use Rattle.bit_list.proofs.Wholes.{bytes_after-bits_of, bits_of-bytes_after, none_begun}
use Rattle.bit_list.proofs.laws.bits_are_bytes.Goals as goal

pub returns-clause-bytes : goal.returns-clause-bytes
returns-clause-bytes c = λ bytes fits. bytes_after-bits_of bytes fits

pub returns-clause-bits : goal.returns-clause-bits
returns-clause-bits c = λ bits whole. bits_of-bytes_after bits whole

pub returns-clause-begun : goal.returns-clause-begun
returns-clause-begun c = λ bits whole. none_begun bits whole
