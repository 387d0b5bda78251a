use Rattle.std.proofs.Common.{◌≡◌, ◌<◌, ap, ◌∙◌, arith}
use Rattle.box_format.specs.Versions.{layout_of}
use Rattle.box_format.specs.Fields.{fields_place, scans_in, segments_at}
use Rattle.box_format.proofs.ScansFaults.{handover_count, segments_next}
use Rattle.box_format.proofs.checks.segments_in.Goals as goal

pub loop-scan-preserved : goal.loop-scan-preserved
loop-scan-preserved c =
    let bytes = c.args.bytes.now in
    let i = c.loop-scan in
    let count = c.scans_in-scan-end.ensures in
    let below : i.scan < scans_in (layout_of c.args.version) bytes = omega (arith, count) in
    let next = segments_next c.args.version bytes i.scan below in
    let here = handover_count c.args.version bytes i.scan in
    let left = i.invariant.left in
    let few = i.invariant.few in
    let more : c.from-count.result ≡ segments_at bytes (fields_place (layout_of c.args.version) bytes i.scan) =
    c.from-count.ensures ∙ c.segments_at.ensures
    ∙ ap (segments_at bytes) c.fields_place.ensures.value in
    record { left = omega (arith, next, here, left, more); few = omega (arith, few) }
