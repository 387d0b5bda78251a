use Rattle.bit_list.specs.NumbersOfBits.{number_again}
use Rattle.bit_list.proofs.LowBits.{bits_again, number_below}
use Rattle.bit_list.proofs.laws.bits_are_numbers.Goals as goal

pub returns-clause-number : goal.returns-clause-number
returns-clause-number c = λ k n below. number_again k n below

pub returns-clause-bits : goal.returns-clause-bits
returns-clause-bits c = λ bits. bits_again bits

pub returns-clause-below : goal.returns-clause-below
returns-clause-below c = λ bits. number_below bits
