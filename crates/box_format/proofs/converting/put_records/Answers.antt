use Rattle.std.proofs.Common.{◌≡◌, ◌<◌, length, option_map, arith}
use Rattle.box_format.proofs.Converted.{record_put}
use Rattle.box_format.proofs.converting.put_records.Goals as goal

pub loop-i-preserved : goal.loop-i-preserved
loop-i-preserved c =
    let parts = c.args.view.now.parts in
    let count = c.segments-i-end.ensures.count in
    let test = c.loop-i-test.true in
    let below : c.loop-i.i < length parts.handovers = omega (arith, count, test) in
    let streams = c.segments-i-end.ensures.streams in
    let same : length parts.streams ≡ length parts.handovers = omega (arith, count, streams) in
    record_put (option_map (λ all. all.now) c.args.places) c.loop-i.i c.from.result parts.handovers parts.streams
    c.handover.result c.stream.result.now c.loop-i.bytes.items _ _ _ below same
    c.handover.ensures c.stream.ensures c.from.ensures c.in_ok-put_record.ensures
    c.in_ok-put_place.ensures c.loop-i.invariant
