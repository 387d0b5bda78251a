use Rattle.std.proofs.Common.{arith}
use Rattle.sample_jpeg.proofs.DrawnTurns.{at_end, at_next}
use Rattle.sample_jpeg.proofs.file.put_mcus.Goals as goal

pub loop-preserved : goal.loop-preserved
loop-preserved c = record {
  empty = c.in_ok-put_mcu.ensures.empty;
  at = at_next c.args.mcus c.args.draws.now.state c.args.writer.now c.args.file.now.items c.loop.counter c.loop.draws.state _ c.loop.writer _ c.loop.file.items _
      c.loop-test.true c.loop.invariant.at c.in_ok-put_mcu.ensures.puts c.in_ok-put_mcu.ensures.state;
}

pub returns : goal.returns
returns c =
    at_end c.args.mcus c.args.draws.now.state c.args.writer.now c.args.file.now.items c.loop.counter c.loop.draws.state c.loop.writer c.loop.file.items
    (omega (arith, c.loop-test.false)) c.loop.invariant.at
