use Rattle.std.proofs.Common.{arith}
use Rattle.jpeg_marker.proofs.Spaces.{space_more}
use Rattle.jpeg_marker.proofs.table.code_space.Goals as goal

pub overflow_add-space : goal.overflow_add-space
overflow_add-space c = omega (arith, (space_more c.args.counts.now c.loop-i.i c.loop-i.space c.from.result c.told-counts c.fits-counts c.loop-i-test.true c.from.ensures c.loop-i.invariant).0)

pub loop-i-preserved : goal.loop-i-preserved
loop-i-preserved c = (space_more c.args.counts.now c.loop-i.i c.loop-i.space c.from.result c.told-counts c.fits-counts c.loop-i-test.true c.from.ensures c.loop-i.invariant).1
