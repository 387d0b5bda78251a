use Rattle.std.proofs.Common.{arith}
use Rattle.segment_crew.proofs.BlocksCounted.{blocks_end, blocks_next}
use Rattle.segment_crew.proofs.worth.blocks_in.Goals as goal

pub overflow_add-blocks : goal.overflow_add-blocks
overflow_add-blocks c =
    let before = c.loop-scan.invariant.few in
    let here = c.blocks_had-blocks.ensures.few in
    let few = c.scans-scan-end.ensures.few in
    let on = c.loop-scan-test.true in
    omega (arith, before, here, few, on)

pub loop-scan-preserved : goal.loop-scan-preserved
loop-scan-preserved c =
    let next = blocks_next c.args.view.now c.loop-scan.scan c.scan.result c.scan.ensures in
    let before = c.loop-scan.invariant in
    let here = c.blocks_had-blocks.ensures in
    record {
      value = omega (arith, next, before.value, here.value);
      few = omega (arith, before.few, here.few);
    }

pub returns-clause-value : goal.returns-clause-value
returns-clause-value c =
    let past = c.loop-scan-test.false in
    let end = blocks_end c.args.view.now c.loop-scan.scan (omega (arith, c.scans-scan-end.ensures.count, past)) in
    let before = c.loop-scan.invariant.value in
    omega (arith, end, before)
