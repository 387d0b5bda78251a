use Rattle.segment_code.specs.FileDecoding.{steps_left}
use Rattle.range_read.proofs.CountedSteps.{Counting}
use Rattle.range_read.proofs.measure.measure_begun.Given as goal

abbrev pub invariant-loop-pads : goal.invariant-loop-pads
invariant-loop-pads l = Counting l.initial.decoder l.decoder l.length

abbrev pub decreases-loop-pads : goal.decreases-loop-pads
decreases-loop-pads l = steps_left l.decoder
