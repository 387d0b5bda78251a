use Rattle.std.proofs.Common.{◌≡◌, ℕ, ◌+◌, ◌-◌, [], ◌∷◌, ◌++◌, List, Bool, refl, sym, ap, ◌∙◌, arith}
use Rattle.bit_list.specs.Bits.{bytes_after, padding, stuffed}
use Rattle.bit_list.proofs.Machine.{joined_word, padded_byte}
use Rattle.bit_list.proofs.bit_out.BitOut.pad.Goals as goal

pub overflow_cast-self-inside : goal.overflow_cast-self-inside
overflow_cast-self-inside c =
    let free = 8 - c.self.inside.count in
    let few = c.self.invariant.few in
    let whole : c.self.inside.count + free ≡ 8 = omega arith in
    let g = joined_word c.self.inside.number c.self.inside.count free c.repeated.result _ whole c.self.invariant.below c.repeated.ensures.below refl in
    omega (arith, g.1)

pub returns-clause-bytes : goal.returns-clause-bytes
returns-clause-bytes c =
    let free = 8 - c.self.inside.count in
    let few = c.self.invariant.few in
    let whole : c.self.inside.count + free ≡ 8 = omega arith in
    let g = joined_word c.self.inside.number c.self.inside.count free c.repeated.result _ whole c.self.invariant.below c.repeated.ensures.below refl in
    let byte = padded_byte c.self.inside.number c.self.inside.count free c.repeated.result c.args.bit whole (omega arith) few c.self.invariant.below c.repeated.ensures.below c.repeated.ensures.bits in
    c.put_byte.ensures.bytes
    ∙ ap (λ (n : ℕ). c.args.out.now ++ stuffed (n ∷ [])) g.0
    ∙ ap (λ (bs : List ℕ). c.args.out.now ++ stuffed bs) (sym byte)
    ∙ ap (λ (bits : List Bool). c.args.out.now ++ stuffed (bytes_after bits (padding bits c.args.bit))) c.self.view_is
