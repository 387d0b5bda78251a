use Rattle.segment_worker.specs.Contents.{stretch}
use Rattle.segment_worker.specs.LoneSegments.{SegmentsWritten}
use Rattle.segment_worker.proofs.alone.emit_alone.Given as goal

abbrev pub invariant-loop-segment : goal.invariant-loop-segment
invariant-loop-segment g l =
    SegmentsWritten g.K.Sink.held g.K.Sink.takes g.K.Sink.faults l.window (stretch l.view l.first l.count) l.segment
    l.decoder l.initial.sink l.sink l.came l.pads
