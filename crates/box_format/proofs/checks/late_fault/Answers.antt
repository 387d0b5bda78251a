use Rattle.std.proofs.Common.{◌<◌, take, sym, arith, inl, inr}
use Rattle.std.specs.Prelude.{◌⊎◌}
use Rattle.box_format.specs.Versions.{layout_of, fewest_scans, most_scans}
use Rattle.box_format.specs.Fields.{scans_in}
use Rattle.box_format.proofs.ScansFaults.{late_outside}
use Rattle.box_format.proofs.checks.late_fault.Goals as goal

pub returns-then-scans-fewest : goal.returns-then-scans-fewest
returns-then-scans-fewest c =
    let l = layout_of c.args.version in
    let count = c.scans_in-scans.ensures in
    let low = c.fewest_scans-fewest.ensures.value in
    let high = c.most_scans-most.ensures.value in
    let outside : (scans_in l c.args.bytes.now < fewest_scans l)
    ⊎ (most_scans l < scans_in l c.args.bytes.now) =
    elim c.then-scans-fewest.either [
      | inl few ↦ inl (omega (arith, count, low, few))
      | inr many ↦ let h = many.1 in inr (omega (arith, count, high, h))
    ] in
    sym (late_outside c.args.version (take (scans_in l c.args.bytes.now) c.args.plans.now)
    c.args.bytes.now outside)
