use Rattle.std.proofs.Common.{◌<◌, ◌≤◌, length, arith, ap}
use Rattle.box_format.specs.Versions.{layout_of}
use Rattle.box_format.specs.declared.version.Layout.{Layout}
use Rattle.box_format.proofs.Converted.{room_all, room_more}
use Rattle.box_format.proofs.converting.room.Goals as goal

pub loop-i-preserved : goal.loop-i-preserved
loop-i-preserved c =
    let streams = c.args.view.now.parts.streams in
    let count = c.segments-i-end.ensures.streams in
    let test = c.loop-i-test.true in
    let below : c.loop-i.i < length streams = omega (arith, count, test) in
    record {
      small = c.saturating_add-room-in-loop-i.type_inv;
      left = λ places. room_more (layout_of c.args.version).room streams c.loop-i.i c.loop-i.room c.layout-layout.result.room
          c.saturating_add-in-loop-i.result c.saturating_add-room-in-loop-i.result _
          c.stream.result.now below c.stream.ensures (ap (λ (l : Layout). l.room) c.layout-layout.ensures.value)
          c.saturating_add-in-loop-i.ensures c.saturating_add-room-in-loop-i.ensures
          (c.loop-i.invariant.left places);
    }

pub returns : goal.returns
returns c =
    let streams = c.args.view.now.parts.streams in
    let count = c.segments-i-end.ensures.streams in
    let test = c.loop-i-test.false in
    let past : length streams ≤ c.loop-i.i = omega (arith, count, test) in
    λ places. room_all (layout_of c.args.version).room streams c.loop-i.i c.loop-i.room _ past c.loop-i.invariant.small
    (c.loop-i.invariant.left places)
