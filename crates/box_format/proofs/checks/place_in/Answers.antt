use Rattle.std.proofs.Common.{◌≡◌, ◌<◌, ◌+◌, ◌*◌, ℕ, drop, sym, ap, ap₂, ◌∙◌, arith}
use Rattle.std.specs.Prelude.{slice_index}
use Rattle.byteorder.specs.Endian.{big_number}
use Rattle.box_format.specs.Versions.{layout_of}
use Rattle.box_format.specs.Raws.{place_from}
use Rattle.box_format.specs.Fields.{segments_at, in_record}
use Rattle.box_format.specs.Whole.{listed_at}
use Rattle.box_format.specs.declared.version.Layout.{Layout}
use Rattle.box_format.proofs.PlaceLists.{ended_at, ended_last}
use Rattle.box_format.proofs.checks.place_in.Goals as goal

pub returns-then-segment-segments_at : goal.returns-then-segment-segments_at
returns-then-segment-segments_at c =
    let l = layout_of c.args.version in
    let bytes = c.args.bytes.now in
    let place = c.args.fields in
    let count = c.segments_at.ensures in
    let test = c.if-segment-segments_at.true in
    let below : c.args.segment < segments_at bytes place = omega (arith, count, test) in
    c.place_at.ensures
    ∙ ap₂ (λ (l : Layout) (k : ℕ). place_from bytes (place + l.fields + l.room * k))
    c.layout-layout.ensures.value c.from.ensures
    ∙ sym (ended_at (in_record place_from l bytes place) (segments_at bytes place) (big_number 8 (drop (place + 14) bytes))
    c.args.segment below)

pub returns-else-segment-segments_at : goal.returns-else-segment-segments_at
returns-else-segment-segments_at c =
    let l = layout_of c.args.version in
    let bytes = c.args.bytes.now in
    let place = c.args.fields in
    let count = c.segments_at.ensures in
    let past = c.if-segment-segments_at.false in
    let within = c.requires.segment in
    let same : c.args.segment ≡ segments_at bytes place = omega (arith, count, past, within) in
    c.end_at.ensures
    ∙ sym (ended_last (in_record place_from l bytes place) (segments_at bytes place) (big_number 8 (drop (place + 14) bytes)))
    ∙ ap (slice_index (listed_at l bytes place)) (sym same)
