use Rattle.std.proofs.Common.{◌≡◌, ℕ, length, rules, ap, ◌∙◌}
use Rattle.std.specs.Prelude.{set}
use Rattle.handover.specs.PadSums.{pads_with}
use Rattle.handover.specs.ScanSums.{sum_in}
use Rattle.handover.proofs.PadsSummed.{added}
use Rattle.handover.proofs.scan_pads.add_sum.Goals as goal

pub returns : goal.returns
returns c =
    let long : length c.args.pads.now ≡ 4 = search rules in
    let same = c.from-scan.ensures in
    ap (λ (i : ℕ). set c.args.pads.now i c.with.result) same
    ∙ added c.args.pads.now c.args.scan c.args.others.now c.with.result long c.requires
    (c.with.ensures ∙ ap (λ (i : ℕ). pads_with (sum_in c.args.pads.now i) c.args.others.now) same)
