use Rattle.bit_list.specs.BitsInside.{cursor_of_fetched}
use Rattle.bit_list.proofs.Peeking.{number_seen, taken_seen}
use Rattle.bit_list.proofs.bit_in.BitIn.peek9.Goals as goal

pub returns-then-self-ge9-clause-number : goal.returns-then-self-ge9-clause-number
returns-then-self-ge9-clause-number c =
    rw (← c.self.view_is)
    (taken_seen c.self.inside.bytes.now (cursor_of_fetched c.self.inside.at) _ c.top_bits.result c.top_bits.ensures.below c.top_bits.ensures.bits)

pub returns-clause-number : goal.returns-clause-number
returns-clause-number c =
    rw (← c.self.view_is)
    (number_seen c.self.inside.bytes.now (cursor_of_fetched c.self.inside.at) c.peek_by_units.result c.peek_by_units.ensures.below c.peek_by_units.ensures.bits)
