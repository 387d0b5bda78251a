use Rattle.std.proofs.Common.{rules, ◌≡◌, ◌∷◌, [], List, ℕ, Bool, FitsSigned, w32, refl, subst}
use Rattle.std.proofs.lemmas.Int.{to_z-of_z}
use Rattle.block_spec.specs.Values.{rest_events}
use Rattle.coef_context.specs.BinBases.{bins_at}
use Rattle.block_code.proofs.ValueSizes.{one_asked}
use Rattle.block_code.proofs.value.code_sign.Goals as goal

pub returns-clause-coded : goal.returns-clause-coded
returns-clause-coded g c =
    let fits : FitsSigned w32 c.signed.result = search rules in
    let e : (c.sign.result, c.in_ok-negative.negative) ∷ [] ≡ rest_events (bins_at c.args.bases) 1 c.signed.result = rw (c.signed.ensures.negative, c.sign.ensures.value) refl in
    rw (to_z-of_z w32 c.signed.result fits) (subst (λ (es : List (ℕ × Bool)). g.C.Coder.codes c.args.coder.now es c.code.new.self) e c.in_ok-negative.ensures.coded)

pub returns-clause-same : goal.returns-clause-same
returns-clause-same g c is =
    let fits : FitsSigned w32 c.signed.result = search rules in
    rw (to_z-of_z w32 c.signed.result fits)
    (one_asked c.args.value c.in_ok-negative.negative c.signed.result (c.requires.value is) (rw c.sign_of.ensures at (c.in_ok-negative.ensures.same is)) c.signed.ensures.magnitude c.signed.ensures.negative)

pub returns-clause-size : goal.returns-clause-size
returns-clause-size g c =
    let fits : FitsSigned w32 c.signed.result = search rules in
    rw (to_z-of_z w32 c.signed.result fits, c.signed.ensures.magnitude) refl
