use Rattle.std.proofs.Common.{arith}
use Rattle.jpeg_marker.proofs.Choices.{rising_is, rising_each}
use Rattle.jpeg_marker.proofs.plan.coded_after.Goals as goal

pub bounds-all-from : goal.bounds-all-from
bounds-all-from c = let low = rising_each 0 4 c.args.indexes.now c.loop-index.index-index (rising_is 0 4 c.args.indexes.now c.requires) c.loop-index-test.true in let same = c.from.ensures in omega arith
