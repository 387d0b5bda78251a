use Rattle.std.proofs.Common.{ℕ, ◌+◌, ◌-◌, ◌≤◌, subst, refl, ◌∙◌, List, Bool, arith}
use Rattle.block_code.proofs.Counting.{six_bits, count_is}
use Rattle.block_code.proofs.counts.code_six_bits.Goals as goal

pub returns-clause-coded : goal.returns-clause-coded
returns-clause-coded g c =
    let joined = g.met.C.Coder.joined _ _ _ _ _ c.in_ok-high.ensures.coded c.in_ok-number.ensures.coded in
    let least : 64 ≤ c.in_ok-number.number = omega (arith, c.in_ok-high.ensures.above, c.in_ok-number.ensures.above) in
    let at : ℕ → ℕ = λ node. c.args.base + (node - 1) in
    subst (λ (es : List (ℕ × Bool)). g.C.Coder.codes c.args.coder.now es c.code_three_more-2.new.coder)
    (six_bits at c.in_ok-high.high c.in_ok-number.number c.in_ok-number.ensures.above ∙ count_is at 6 64 c.in_ok-number.number refl least) joined
