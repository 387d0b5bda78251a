use Rattle.bit_list.proofs.Peeking.{peeked_first, length-peeked}
use Rattle.bit_list.proofs.laws.peeked_bits_are_taken.Goals as goal

pub returns-clause-first : goal.returns-clause-first
returns-clause-first c = peeked_first

pub returns-clause-many : goal.returns-clause-many
returns-clause-many c = length-peeked
