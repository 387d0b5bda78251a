use Rattle.segment_code.specs.FileDecoding.{steps_left}
use Rattle.segment_worker.specs.OwnSegments.{IsPassing}
use Rattle.segment_worker.proofs.emitter_own.emit_own.Given as goal

abbrev pub invariant-loop-more : goal.invariant-loop-more
invariant-loop-more g l =
    IsPassing g.K.Sink.held g.K.Sink.takes g.K.Sink.faults l.window l.initial.seat l.seat l.initial.decoder l.decoder
    l.initial.sink l.sink l.came

abbrev pub decreases-loop-more : goal.decreases-loop-more
decreases-loop-more g l = steps_left l.decoder
