use Rattle.std.proofs.Common.{◌%◌}
use Rattle.sample_jpeg.proofs.DrawnTurns.{times_step}
use Rattle.sample_jpeg.proofs.draws.Draws.block.Goals as goal

pub loop-preserved : goal.loop-preserved
loop-preserved c =
    times_step (c.draw-times.result % 8) c.loop.counter c.loop.self.state _ c.loop.block _ _ _ c.loop-test.true c.set_once.ensures.block
    c.set_once.ensures.state c.loop.invariant
