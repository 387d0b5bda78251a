use Rattle.std.proofs.Common.{◌≡◌, ◌+◌, ◌*◌, ℕ, ap₂, ◌∙◌, arith}
use Rattle.box_format.specs.Versions.{layout_of}
use Rattle.box_format.specs.Raws.{length_from}
use Rattle.box_format.specs.Fields.{in_record}
use Rattle.box_format.specs.declared.version.Layout.{Layout}
use Rattle.box_format.proofs.ScansSliced.{sum_next}
use Rattle.box_format.proofs.fields.streams_room.Goals as goal

pub loop-i-preserved : goal.loop-i-preserved
loop-i-preserved c =
    let f = in_record length_from (layout_of c.args.version) c.args.bytes.now c.args.place in
    let next = sum_next f c.loop-i.i in
    let before = c.loop-i.invariant.room in
    let here : c.from-room.result ≡ f c.loop-i.i =
    c.from-room.ensures ∙ c.length_at.ensures
    ∙ ap₂ (λ (l : Layout) (k : ℕ). length_from c.args.bytes.now (c.args.place + l.fields + l.room * k))
    c.layout-layout.ensures.value c.from.ensures in
    record { room = omega (arith, next, before, here); few = omega arith }
