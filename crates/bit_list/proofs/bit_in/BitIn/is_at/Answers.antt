use Rattle.std.proofs.Common.{◌≡◌, true, false, ap, refl, sym, ◌∙◌, length}
use Rattle.std.proofs.lemmas.Bool.{eq-eqb}
use Rattle.bit_list.specs.Bits.{number_of}
use Rattle.bit_list.specs.NumbersOfBits.{length-low_bits, number_again}
use Rattle.bit_list.specs.BitsInside.{cursor_of}
use Rattle.bit_list.specs.Units.{Cursor, Reading}
use Rattle.bit_list.proofs.bit_in.BitIn.is_at.Goals as goal

pub returns-clause-apart : goal.returns-clause-apart
returns-clause-apart c = λ f e.
    let here = c.begun.result in
    let there = c.begun-2.result in
    let same : cursor_of here ≡ cursor_of there =
    c.begun.ensures.cursor ∙ ap (λ (r : Reading). r.cursor) c.self.view_is ∙ e ∙ sym (c.begun-2.ensures.cursor ∙ ap (λ (r : Reading). r.cursor) c.other.view_is) in
    let bits = ap (λ (k : Cursor). k.left) same in
    let count : here.count ≡ there.count = sym (length-low_bits here.count here.number) ∙ ap length bits ∙ length-low_bits there.count there.number in
    let number : here.number ≡ there.number =
    sym (number_again here.count here.number c.begun.ensures.kept.bits.below) ∙ ap number_of bits ∙ number_again there.count there.number c.begun-2.ensures.kept.bits.below in
    let first = eq-eqb here.number there.number number in
    let second = eq-eqb here.count there.count count in
    let third = eq-eqb here.skip there.skip (ap (λ (k : Cursor). k.skip) same) in
    let fourth = eq-eqb here.last there.last (ap (λ (k : Cursor). k.last) same) in
    let fifth = eq-eqb here.next there.next (ap (λ (k : Cursor). k.next) same) in
    let differ = sym f ∙ c.eq.ensures in
    absurd (differs (differ ∙ rw (first, second, third, fourth, fifth) refl)) where
      differs : false ≡ true → ⊥
      differs e = cc
