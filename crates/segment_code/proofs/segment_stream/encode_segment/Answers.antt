use Rattle.std.proofs.Common.{ap}
use Rattle.std.specs.Prelude.{Err}
use Rattle.segment_code.proofs.segment_stream.encode_segment.Goals as goal

pub unreachable-requires : goal.unreachable-requires
unreachable-requires c =
    c.segment_part-part.ensures.refused (c.in-Err-Scan.ensures.refused c.in-Err-Scan.field-0-0
    (ap (λ error. Err error) c.in-Err-Scan.field-0-is))

pub returns-in-Ok : goal.returns-in-Ok
returns-in-Ok c = λ mcus pads file are.
    c.segment_part-part.ensures.stream mcus pads _ file are c.in-Ok.ensures.stream
