use Rattle.std.proofs.Common.{List, ap, ◌∙◌}
use Rattle.std.specs.Prelude.{slice_get}
use Rattle.jpeg_marker.specs.Plans.{PlanFields}
use Rattle.segment_code.proofs.ScansOfSegments.{plan_of}
use Rattle.segment_code.proofs.file_decoder.FileDecoder.begin.Goals as goal

pub begin_scan-requires-clause-plan : goal.begin_scan-requires-clause-plan
begin_scan-requires-clause-plan c =
    ap (λ (l : List PlanFields). slice_get l c.segment_at-scan.result.0) c.requires.plans
    ∙ plan_of c.args.view.now c.segment_at-scan.result.0 c.scan.result c.scan.ensures
