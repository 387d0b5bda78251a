use Rattle.std.proofs.Common.{ℕ, ◌+◌, ◌-◌, ◌≤◌, subst, refl, List, Bool, arith}
use Rattle.block_code.proofs.Counting.{count_is}
use Rattle.block_code.proofs.counts.code_three_bits.Goals as goal

pub returns-clause-coded : goal.returns-clause-coded
returns-clause-coded g c =
    let least : 8 ≤ c.in_ok-number.number = omega (arith, c.in_ok-number.ensures.above) in
    subst (λ (es : List (ℕ × Bool)). g.C.Coder.codes c.args.coder.now es c.code_three_more.new.coder)
    (count_is (λ node. c.args.base + (node - 1)) 3 8 c.in_ok-number.number refl least) c.in_ok-number.ensures.coded
