use Rattle.bit_list.proofs.bit_in.BitIn.advance.Goals as goal

pub returns-clause-bits : goal.returns-clause-bits
returns-clause-bits c passed = rw (← c.self.view_is) (_, c.top_bits.ensures.bits)
