use Rattle.std.proofs.Common.{◌<◌, ◌-◌, arith, length}
use Rattle.segment_code.proofs.ScansOfSegments.{none_before, segment_here, segment_later}
use Rattle.segment_code.proofs.file_decoder.segment_at.Goals as goal

pub loop-scan-init : goal.loop-scan-init
loop-scan-init c = none_before c.args.view.now c.args.segment

pub returns-then-segment-before-clause-scan : goal.returns-then-segment-before-clause-scan
returns-then-segment-before-clause-scan c =
    let below = c.if-segment-before.true in
    let count = c.segments-count.ensures.count in
    (segment_here c.args.view.now c.args.segment c.loop-scan.scan c.loop-scan.before c.scan.result
    c.loop-scan.invariant c.scan.ensures (omega (arith, below, count))).2

pub returns-then-segment-before-clause-segment : goal.returns-then-segment-before-clause-segment
returns-then-segment-before-clause-segment c =
    let test = c.if-segment-before.true in
    let count = c.segments-count.ensures.count in
    let below : c.args.segment - c.loop-scan.before < length c.scan.result.parts.handovers =
    omega (arith, test, count) in
    let here = segment_here c.args.view.now c.args.segment c.loop-scan.scan c.loop-scan.before
    c.scan.result c.loop-scan.invariant c.scan.ensures below in (
      c.scan.result,
      c.scan.ensures,
      below,
      here.0,
      here.1,
    )

pub loop-scan-preserved : goal.loop-scan-preserved
loop-scan-preserved c =
    let past = c.if-segment-before.false in
    segment_later c.args.view.now c.args.segment c.loop-scan.scan c.loop-scan.before
    c.segments-count.result c.scan.result c.loop-scan.invariant c.scan.ensures
    c.segments-count.ensures.count (omega (arith, past))
