use Rattle.segment_code.specs.FileDecoding.{steps_left}
use Rattle.segment_worker.specs.LoneSegments.{UnderWay}
use Rattle.segment_worker.proofs.alone.emit_segment.Given as goal

abbrev pub invariant-loop-more : goal.invariant-loop-more
invariant-loop-more g l =
    UnderWay g.K.Sink.held g.K.Sink.takes g.K.Sink.faults l.window l.initial.decoder l.decoder l.initial.sink l.sink l.came

abbrev pub decreases-loop-more : goal.decreases-loop-more
decreases-loop-more g l = steps_left l.decoder
