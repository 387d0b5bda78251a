use Rattle.std.proofs.Common.{rules, ◌≡◌, ℕ, ◌++◌, sym, subst, List, Bool, FitsSigned, w32}
use Rattle.std.proofs.lemmas.Int.{to_z-of_z}
use Rattle.block_spec.specs.Values.{category_of, rest_events, step_events, value_events}
use Rattle.coef_context.specs.BinBases.{bins_at}
use Rattle.block_code.proofs.ValueSizes.{value_of_zero, size_of_zero, zero_asked}
use Rattle.block_code.proofs.value.code_value.Goals as goal

pub returns-then-size-eq0-clause-coded : goal.returns-then-size-eq0-clause-coded
returns-then-size-eq0-clause-coded g c =
    let e = value_of_zero (bins_at c.args.bases) c.args.first c.args.steps in
    subst (λ (es : List (ℕ × Bool)). g.C.Coder.codes c.args.coder.now es c.code_size.new.coder) (sym e) (rw c.if-size-eq0.true at c.in_ok-size.ensures.coded)

pub returns-then-size-eq0-clause-within : goal.returns-then-size-eq0-clause-within
returns-then-size-eq0-clause-within g c = rw (size_of_zero, ← c.if-size-eq0.true) c.in_ok-size.ensures.within

pub returns-then-size-eq0-clause-same : goal.returns-then-size-eq0-clause-same
returns-then-size-eq0-clause-same g c is = zero_asked c.args.value c.in_ok-size.size c.if-size-eq0.true (rw c.size_of.ensures at (c.in_ok-size.ensures.same is))

pub returns-clause-coded : goal.returns-clause-coded
unfolding value_events
returns-clause-coded g c =
    let fits : FitsSigned w32 c.in_ok-x.x = search rules in
    let joined = g.met.C.Coder.joined _ _ _ _ _ c.in_ok-size.ensures.coded c.in_ok-x.ensures.coded in
    let e : c.in_ok-size.size ≡ category_of c.in_ok-x.x = sym c.in_ok-x.ensures.size in
    rw (to_z-of_z w32 c.in_ok-x.x fits)
    (subst (λ (s : ℕ). g.C.Coder.codes c.args.coder.now (step_events (bins_at c.args.bases).step c.args.first c.args.steps s ++ rest_events (bins_at c.args.bases) s c.in_ok-x.x) c.code_rest.new.coder) e joined)
