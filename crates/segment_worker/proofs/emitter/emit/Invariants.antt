use Rattle.std.proofs.Common.{◌≡◌, ◌≤◌, length}
use Rattle.segment_worker.specs.Contents.{stretch}
use Rattle.segment_worker.specs.Emitting.{IsEmitting}
use Rattle.segment_worker.proofs.emitter.emit.Given as goal

abbrev pub invariant-loop : goal.invariant-loop
invariant-loop g l = record {
  emitting : IsEmitting g.K.Sink.held g.K.Sink.takes g.K.Sink.faults l.board (stretch l.view l.first l.count) l.window l.seat
      l.decoder l.initial.sink l.sink l.came l.pads;
  current : l.current ≡ l.seat.view.cur;
  some : 1 ≤ length l.buffer;
}
