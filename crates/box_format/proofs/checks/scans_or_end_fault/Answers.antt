use Rattle.std.proofs.Common.{sym, ◌∙◌, arith}
use Rattle.std.specs.Prelude.{Some, None}
use Rattle.box_format.specs.Fields.{raws_as}
use Rattle.box_format.proofs.ScansFaults.{few_segments, late_faulty, late_wrong}
use Rattle.box_format.proofs.checks.scans_or_end_fault.Goals as goal

pub returns-then-are_wrong_scans : goal.returns-then-are_wrong_scans
returns-then-are_wrong_scans c =
    let n = c.requires.count in
    let low = c.requires.some in
    let high = c.requires.few in
    late_wrong c.args.version c.args.plans.now c.args.bytes.now
    (record { some = omega (arith, n, low); few = omega (arith, n, high) })
    (sym c.are_wrong_scans.ensures ∙ c.if-are_wrong_scans.true)

pub scans_fault-requires-clause-few : goal.scans_fault-requires-clause-few
scans_fault-requires-clause-few c =
    few_segments c.args.version c.args.plans.now (raws_as c.args.version c.args.bytes.now)
    (sym c.are_wrong_scans.ensures ∙ c.if-are_wrong_scans.false)

pub returns-in-Some : goal.returns-in-Some
returns-in-Some c =
    let n = c.requires.count in
    let low = c.requires.some in
    let high = c.requires.few in
    late_faulty c.args.version c.args.plans.now c.args.bytes.now (Some c.in-Some.refusal)
    (record { some = omega (arith, n, low); few = omega (arith, n, high) })
    (sym c.are_wrong_scans.ensures ∙ c.if-are_wrong_scans.false)
    (sym c.scans_fault.ensures ∙ c.in-Some.is)

pub returns-in-None : goal.returns-in-None
returns-in-None c =
    let n = c.requires.count in
    let low = c.requires.some in
    let high = c.requires.few in
    c.after_end.ensures
    ∙ late_faulty c.args.version c.args.plans.now c.args.bytes.now None
    (record { some = omega (arith, n, low); few = omega (arith, n, high) })
    (sym c.are_wrong_scans.ensures ∙ c.if-are_wrong_scans.false)
    (sym c.scans_fault.ensures ∙ c.in-None.is)
