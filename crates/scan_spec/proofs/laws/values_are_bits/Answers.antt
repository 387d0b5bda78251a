use Rattle.scan_spec.proofs.ValueLemmas.{value_again, bits_again_of_value, length-mag}
use Rattle.scan_spec.proofs.laws.values_are_bits.Goals as goal

pub returns-clause-value : goal.returns-clause-value
returns-clause-value c = λ value. value_again value

pub returns-clause-bits : goal.returns-clause-bits
returns-clause-bits c = λ bits. bits_again_of_value bits

pub returns-clause-size : goal.returns-clause-size
returns-clause-size c = λ value. length-mag value
