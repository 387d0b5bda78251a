use Rattle.std.proofs.Common.{◌<◌, ◌||◌, ◌+◌, Bool, drop, length, sym, ap, ◌∙◌, arith}
use Rattle.box_format.specs.Versions.{layout_of}
use Rattle.box_format.specs.Fields.{scans_in}
use Rattle.box_format.specs.Checks.{some_are_wrong}
use Rattle.box_format.proofs.RawParts.{raws_from}
use Rattle.box_format.proofs.ScansFaults.{plan_next, wrong_next}
use Rattle.box_format.proofs.checks.some_are_wrong.Goals as goal

pub returns-then-is_wrong : goal.returns-then-is_wrong
returns-then-is_wrong c =
    let bytes = c.args.bytes.now in
    let plans = c.args.plans.now in
    let j = c.loop-scan.scan in
    let count = c.scans_in-scan-end.ensures in
    let long = c.requires in
    let below : j < scans_in (layout_of c.args.version) bytes = omega (arith, count) in
    let there : j < length plans = omega (arith, count, long) in
    let plan = c.index-plans-from.result in
    let rest = drop (j + 1) plans in
    sym (wrong_next c.args.version bytes plan (drop j plans) rest j below
    (plan_next plans j c.from.result plan there c.from.ensures c.index-plans-from.is)
    ∙ ap (λ (b : Bool). b || some_are_wrong (layout_of c.args.version).most rest (raws_from c.args.version bytes (j + 1)))
    (sym c.is_wrong.ensures ∙ c.if-is_wrong.true)) ∙ c.loop-scan.invariant

pub loop-scan-preserved : goal.loop-scan-preserved
loop-scan-preserved c =
    let bytes = c.args.bytes.now in
    let plans = c.args.plans.now in
    let j = c.loop-scan.scan in
    let count = c.scans_in-scan-end.ensures in
    let long = c.requires in
    let below : j < scans_in (layout_of c.args.version) bytes = omega (arith, count) in
    let there : j < length plans = omega (arith, count, long) in
    let plan = c.index-plans-from.result in
    let rest = drop (j + 1) plans in
    sym (wrong_next c.args.version bytes plan (drop j plans) rest j below
    (plan_next plans j c.from.result plan there c.from.ensures c.index-plans-from.is)
    ∙ ap (λ (b : Bool). b || some_are_wrong (layout_of c.args.version).most rest (raws_from c.args.version bytes (j + 1)))
    (sym c.is_wrong.ensures ∙ c.if-is_wrong.false)) ∙ c.loop-scan.invariant
