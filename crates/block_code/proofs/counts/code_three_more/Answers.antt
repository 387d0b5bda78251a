use Rattle.std.proofs.Common.{ℕ, ◌+◌, ◌-◌, subst, List, Bool}
use Rattle.block_code.proofs.Counting.{three_bits}
use Rattle.block_code.proofs.counts.code_three_more.Goals as goal

pub returns-clause-coded : goal.returns-clause-coded
returns-clause-coded g c =
    let joined = g.met.C.Coder.joined _ _ _ _ _ c.in_ok-first.ensures.coded (g.met.C.Coder.joined _ _ _ _ _ c.in_ok-second.ensures.coded c.in_ok-third.ensures.coded) in
    subst (λ (es : List (ℕ × Bool)). g.C.Coder.codes c.args.coder.now es c.code_next-3.new.coder)
    (three_bits (λ node. c.args.base + (node - 1)) c.args.above c.in_ok-first.first c.in_ok-second.second c.in_ok-third.third c.in_ok-first.ensures.above c.in_ok-second.ensures.above c.in_ok-third.ensures.above) joined
