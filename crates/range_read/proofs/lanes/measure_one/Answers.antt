use Rattle.std.proofs.Common.{subst}
use Rattle.container_spec.specs.Segments.{Output}
use Rattle.range_read.specs.Measures.{IsMeasure}
use Rattle.range_read.proofs.MeasuredSegments.{one_alone}
use Rattle.range_read.proofs.lanes.measure_one.Goals as goal

pub returns-clause-measured : goal.returns-clause-measured
returns-clause-measured c =
    subst (λ (output : Output). IsMeasure output c.measure_begun.result)
    (one_alone c.args.scan.now c.file.result.now c.args.segment c.file.ensures c.requires.within)
    (c.measure_begun.ensures.measured _ c.begin.ensures.owes)
