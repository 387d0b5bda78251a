use Rattle.std.proofs.Common.{rules, ℕ, subst, arith, List, Bool, FitsSigned, w32}
use Rattle.std.proofs.lemmas.Int.{to_z-of_z}
use Rattle.coef_context.specs.BinBases.{bins_at}
use Rattle.block_code.proofs.ValueSizes.{from_first, goes_on, not_asked, stops, zero_coded}
use Rattle.block_code.proofs.values.code_small.Goals as goal

pub returns-then-not-some-clause-coded : goal.returns-then-not-some-clause-coded
returns-then-not-some-clause-coded g c =
    subst (λ (es : List (ℕ × Bool)). g.C.Coder.codes c.args.coder.now es c.code_nonzero.new.coder)
    (zero_coded (g.B.Band.bins c.args.band.now c.args.place c.args.remain) c.args.first 10 (c.in_ok-some.ensures.zero c.if-not-some.true) (omega arith))
    (rw (c.bases-bases.ensures.bins, c.if-not-some.true) at c.in_ok-some.ensures.coded)

pub returns-then-not-some-clause-same : goal.returns-then-not-some-clause-same
returns-then-not-some-clause-same g c is = not_asked c.args.value c.in_ok-some.some c.if-not-some.true (rw c.size_of-size.ensures at (c.in_ok-some.ensures.same is))

pub returns-then-not-above_one-clause-coded : goal.returns-then-not-above_one-clause-coded
returns-then-not-above_one-clause-coded g c =
    let fits : FitsSigned w32 c.in_ok-one.one = search rules in
    let bins = bins_at c.bases-bases.result in
    let some = rw c.if-not-some.false at c.in_ok-some.ensures.coded in
    let rest = c.in_ok-one.ensures.coded in
    let here = rw (c.step.ensures.value, c.if-not-above_one.true) at c.in_ok-above_one.ensures.coded in
    let at1 = subst (λ (es : List (ℕ × Bool)). g.C.Coder.codes c.code_nonzero.new.coder es c.code_sign.new.coder) (stops bins 1 10 c.in_ok-one.one (omega arith) c.in_ok-one.ensures.size) (g.met.C.Coder.joined _ _ _ _ _ here rest) in
    rw (to_z-of_z w32 c.in_ok-one.one fits, ← c.bases-bases.ensures.bins)
    (subst (λ (es : List (ℕ × Bool)). g.C.Coder.codes c.args.coder.now es c.code_sign.new.coder) (from_first bins c.args.first 10 c.in_ok-one.one c.requires.first (omega (arith, c.in_ok-one.ensures.size))) (g.met.C.Coder.joined _ _ _ _ _ some at1))

pub returns-then-not-above_two-clause-coded : goal.returns-then-not-above_two-clause-coded
returns-then-not-above_two-clause-coded g c =
    let fits : FitsSigned w32 c.in_ok-two.two = search rules in
    let bins = bins_at c.bases-bases.result in
    let some = rw c.if-not-some.false at c.in_ok-some.ensures.coded in
    let rest = c.in_ok-two.ensures.coded in
    let here = rw (c.step-2.ensures.value, c.if-not-above_two.true) at c.in_ok-above_two.ensures.coded in
    let at2 = subst (λ (es : List (ℕ × Bool)). g.C.Coder.codes c.code_branching.new.self es c.code_rest.new.coder) (stops bins 2 10 c.in_ok-two.two (omega arith) c.in_ok-two.ensures.size) (g.met.C.Coder.joined _ _ _ _ _ here rest) in
    let more1 = rw (c.step.ensures.value, c.if-not-above_one.false) at c.in_ok-above_one.ensures.coded in
    let from1 = subst (λ (es : List (ℕ × Bool)). g.C.Coder.codes c.code_nonzero.new.coder es c.code_rest.new.coder) (goes_on bins 1 10 c.in_ok-two.two (omega (arith, c.in_ok-two.ensures.size))) (g.met.C.Coder.joined _ _ _ _ _ more1 at2) in
    rw (to_z-of_z w32 c.in_ok-two.two fits, ← c.bases-bases.ensures.bins)
    (subst (λ (es : List (ℕ × Bool)). g.C.Coder.codes c.args.coder.now es c.code_rest.new.coder) (from_first bins c.args.first 10 c.in_ok-two.two c.requires.first (omega (arith, c.in_ok-two.ensures.size))) (g.met.C.Coder.joined _ _ _ _ _ some from1))

pub returns-then-not-above_three-clause-coded : goal.returns-then-not-above_three-clause-coded
returns-then-not-above_three-clause-coded g c =
    let fits : FitsSigned w32 c.in_ok-three.three = search rules in
    let bins = bins_at c.bases-bases.result in
    let some = rw c.if-not-some.false at c.in_ok-some.ensures.coded in
    let rest = c.in_ok-three.ensures.coded in
    let here = rw (c.step-3.ensures.value, c.if-not-above_three.true) at c.in_ok-above_three.ensures.coded in
    let at3 = subst (λ (es : List (ℕ × Bool)). g.C.Coder.codes c.code_branching-2.new.self es c.code_rest-then-not-above_three.new.coder) (stops bins 3 10 c.in_ok-three.three (omega arith) c.in_ok-three.ensures.size) (g.met.C.Coder.joined _ _ _ _ _ here rest) in
    let more2 = rw (c.step-2.ensures.value, c.if-not-above_two.false) at c.in_ok-above_two.ensures.coded in
    let from2 = subst (λ (es : List (ℕ × Bool)). g.C.Coder.codes c.code_branching.new.self es c.code_rest-then-not-above_three.new.coder) (goes_on bins 2 10 c.in_ok-three.three (omega (arith, c.in_ok-three.ensures.size))) (g.met.C.Coder.joined _ _ _ _ _ more2 at3) in
    let more1 = rw (c.step.ensures.value, c.if-not-above_one.false) at c.in_ok-above_one.ensures.coded in
    let from1 = subst (λ (es : List (ℕ × Bool)). g.C.Coder.codes c.code_nonzero.new.coder es c.code_rest-then-not-above_three.new.coder) (goes_on bins 1 10 c.in_ok-three.three (omega (arith, c.in_ok-three.ensures.size))) (g.met.C.Coder.joined _ _ _ _ _ more1 from2) in
    rw (to_z-of_z w32 c.in_ok-three.three fits, ← c.bases-bases.ensures.bins)
    (subst (λ (es : List (ℕ × Bool)). g.C.Coder.codes c.args.coder.now es c.code_rest-then-not-above_three.new.coder) (from_first bins c.args.first 10 c.in_ok-three.three c.requires.first (omega (arith, c.in_ok-three.ensures.size))) (g.met.C.Coder.joined _ _ _ _ _ some from1))

pub returns-clause-coded : goal.returns-clause-coded
returns-clause-coded g c =
    let fits : FitsSigned w32 c.in_ok-x.x = search rules in
    let bins = bins_at c.bases-bases.result in
    let some = rw c.if-not-some.false at c.in_ok-some.ensures.coded in
    let rest = c.in_ok-x.ensures.coded in
    let more3 = rw (c.step-3.ensures.value, c.if-not-above_three.false) at c.in_ok-above_three.ensures.coded in
    let from3 = subst (λ (es : List (ℕ × Bool)). g.C.Coder.codes c.code_branching-2.new.self es c.code_value.new.coder) (goes_on bins 3 10 c.in_ok-x.x (omega (arith, c.in_ok-x.ensures.within.0))) (g.met.C.Coder.joined _ _ _ _ _ more3 rest) in
    let more2 = rw (c.step-2.ensures.value, c.if-not-above_two.false) at c.in_ok-above_two.ensures.coded in
    let from2 = subst (λ (es : List (ℕ × Bool)). g.C.Coder.codes c.code_branching.new.self es c.code_value.new.coder) (goes_on bins 2 10 c.in_ok-x.x (omega (arith, c.in_ok-x.ensures.within.0))) (g.met.C.Coder.joined _ _ _ _ _ more2 from3) in
    let more1 = rw (c.step.ensures.value, c.if-not-above_one.false) at c.in_ok-above_one.ensures.coded in
    let from1 = subst (λ (es : List (ℕ × Bool)). g.C.Coder.codes c.code_nonzero.new.coder es c.code_value.new.coder) (goes_on bins 1 10 c.in_ok-x.x (omega (arith, c.in_ok-x.ensures.within.0))) (g.met.C.Coder.joined _ _ _ _ _ more1 from2) in
    rw (to_z-of_z w32 c.in_ok-x.x fits, ← c.bases-bases.ensures.bins)
    (subst (λ (es : List (ℕ × Bool)). g.C.Coder.codes c.args.coder.now es c.code_value.new.coder) (from_first bins c.args.first 10 c.in_ok-x.x c.requires.first (omega (arith, c.in_ok-x.ensures.within.0))) (g.met.C.Coder.joined _ _ _ _ _ some from1))
