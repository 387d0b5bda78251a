use Rattle.std.proofs.Common.{◌-◌, refl, sym, ◌∙◌, arith}
use Rattle.bit_list.specs.NumbersOfBits.{length-low_bits}
use Rattle.bit_list.proofs.Machine.{partial_of}
use Rattle.bit_list.proofs.bit_out.BitOut.partial.Goals as goal

pub overflow_cast-result : goal.overflow_cast-result
overflow_cast-result c =
    let free = 8 - c.self.inside.count in
    let byte = (partial_of c.self.inside.number c.self.inside.count free _ (omega (arith, c.self.invariant.few)) c.self.invariant.below refl).byte in
    omega arith

pub returns-clause-count : goal.returns-clause-count
returns-clause-count c = rw (← c.self.view_is) (sym (length-low_bits c.self.inside.count c.self.inside.number))

pub returns-clause-bits : goal.returns-clause-bits
returns-clause-bits c =
    let free = 8 - c.self.inside.count in
    (partial_of c.self.inside.number c.self.inside.count free _ (omega (arith, c.self.invariant.few)) c.self.invariant.below refl).bits ∙ c.self.view_is

pub returns-clause-clear : goal.returns-clause-clear
returns-clause-clear c =
    let free = 8 - c.self.inside.count in
    (partial_of c.self.inside.number c.self.inside.count free _ (omega (arith, c.self.invariant.few)) c.self.invariant.below refl).clear
