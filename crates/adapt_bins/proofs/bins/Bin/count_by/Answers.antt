use Rattle.std.proofs.Common.{rules, ◌≡◌, ◌<◌, arith, get_or, ap, ap₂, ◌∙◌}
use Rattle.adapt_bins.specs.Counts.{counts, counted}
use Rattle.adapt_bins.specs.Shares.{pairs, share_at}
use Rattle.adapt_bins.proofs.CountedShares.{is_bin, counts_bit}
use Rattle.adapt_bins.proofs.bins.Bin.count_by.Goals as goal

pub invariant_of-self : goal.invariant_of-self
invariant_of-self c =
    let within : c.one_more-both.result < pairs = omega (arith, c.one_more-both.ensures) in
    let share : get_or c.args.shares.now c.from.result 0 ≡ share_at c.one_more-both.result =
    ap (λ i. get_or c.args.shares.now i 0) c.from.ensures ∙ c.requires.each c.one_more-both.result within in
    is_bin c.one_more-both.result _ _ _ c.parted-zeros.ensures.zeros c.parted-zeros.ensures.ones share c.if-prob-eq0.false

pub returns-else-prob-eq0 : goal.returns-else-prob-eq0
returns-else-prob-eq0 c =
    let within : c.one_more-both.result < pairs = omega (arith, c.one_more-both.ensures) in
    let share : get_or c.args.shares.now c.from.result 0 ≡ share_at c.one_more-both.result =
    ap (λ i. get_or c.args.shares.now i 0) c.from.ensures ∙ c.requires.each c.one_more-both.result within in
    let low : c.self.inside.zeros < 256 = search rules in
    let high : c.self.inside.ones < 256 = search rules in
    ap₂ counts c.parted-zeros.ensures.zeros c.parted-zeros.ensures.ones
    ∙ counts_bit c.self.inside.zeros c.self.inside.ones c.one_more-both.result _ c.args.bit c.self.invariant.zeros low
    high c.one_more-both.ensures share c.if-prob-eq0.false
    ∙ ap (λ k. counted k c.args.bit) c.self.view_is
