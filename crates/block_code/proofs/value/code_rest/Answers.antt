use Rattle.std.proofs.Common.{rules, ap, ◌≡◌, ℕ, ◌-◌, ◌∷◌, arith, ◌∙◌, sym, subst, FitsSigned, w32, suc, List, Bool, refl}
use Rattle.std.proofs.lemmas.Int.{to_z-of_z}
use Rattle.block_spec.specs.BitEvents.{bits_events}
use Rattle.block_spec.specs.Values.{rest_events}
use Rattle.coef_context.specs.BinBases.{bins_at}
use Rattle.block_code.proofs.ValueSizes.{rest_is, top_asked, length_is}
use Rattle.block_code.proofs.value.code_rest.Goals as goal

pub code_bits-requires-clause-number : goal.code_bits-requires-clause-number
code_bits-requires-clause-number g c is = rw (c.magnitude_of.ensures, c.from.ensures) (top_asked c.args.value c.args.size c.requires.some (c.requires.value is))

pub returns-clause-coded : goal.returns-clause-coded
returns-clause-coded g c =
    let fits : FitsSigned w32 c.signed.result = search rules in
    let low = ap (λ (bin : ℕ → ℕ). bits_events (λ bit above. bin bit) 0 (c.from.result - 1) c.in_ok-magnitude.magnitude) c.low.ensures.value in
    let coded = subst (λ (es : List (ℕ × Bool)). g.C.Coder.codes c.code.new.self es c.code_bits.new.coder) low c.in_ok-magnitude.ensures.coded in
    let joined = g.met.C.Coder.joined _ _ _ _ _ c.in_ok-negative.ensures.coded coded in
    let e : rest_events (bins_at c.args.bases) c.args.size c.signed.result ≡ (c.sign.result, c.in_ok-negative.negative) ∷ bits_events (λ bit above. (bins_at c.args.bases).low c.args.size bit) 0 (c.from.result - 1) c.in_ok-magnitude.magnitude =
    rest_is (bins_at c.args.bases) c.args.size c.signed.result c.requires.some ∙ rw (c.signed.ensures.negative, c.signed.ensures.magnitude, c.sign.ensures.value, c.from.ensures) refl in
    rw (to_z-of_z w32 c.signed.result fits) (subst (λ (es : List (ℕ × Bool)). g.C.Coder.codes c.args.coder.now es c.code_bits.new.coder) (sym e) joined)

pub returns-clause-size : goal.returns-clause-size
returns-clause-size g c =
    let fits : FitsSigned w32 c.signed.result = search rules in
    let e : c.args.size ≡ suc (c.from.result - 1) = omega arith in
    rw (to_z-of_z w32 c.signed.result fits, c.signed.ensures.magnitude) (length_is c.in_ok-magnitude.magnitude (c.from.result - 1) c.in_ok-magnitude.ensures.within.0 c.in_ok-magnitude.ensures.within.1 ∙ sym e)
