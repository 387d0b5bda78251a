use Rattle.std.proofs.Common.{◌∙◌, arith}
use Rattle.outside_core.proofs.Moves.{Appends-written}
use Rattle.outside_core.proofs.TextTaken.{next_after, onward_later}
use Rattle.outside_core.proofs.transfer.write_all.Goals as goal

pub loop-written-preserved : goal.loop-written-preserved
loop-written-preserved g c =
    let told = c.in_ok-written.ensures in
    record {
      in_range = omega (arith, told.count);
      so_far = Appends-written _ _ _ _ _ _ c.loop-written.invariant.so_far told.appended;
      next = next_after g.K.Sink.takes c.loop-written.sink c.put.new.sink c.args.bytes.now c.loop-written.written c.in_ok-written.field-0 c.loop-written.invariant.next told.onward;
      onward = onward_later g.K.Sink.takes c.args.sink.now c.loop-written.sink c.put.new.sink c.args.bytes.now c.loop-written.written c.in_ok-written.field-0 c.loop-written.invariant.onward told.onward;
      unfailed = told.unfailed ∙ c.loop-written.invariant.unfailed;
    }
