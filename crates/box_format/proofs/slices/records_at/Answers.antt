use Rattle.std.proofs.Common.{ℕ, ◌*◌, ap, arith}
use Rattle.box_format.specs.Fields.{segments_at}
use Rattle.box_format.specs.Versions.{layout_of}
use Rattle.box_format.specs.declared.version.Layout.{Layout}
use Rattle.box_format.proofs.ScansSliced.{fields_there}
use Rattle.box_format.proofs.slices.records_at.Goals as goal

pub split_at-requires : goal.split_at-requires
split_at-requires c =
    let there = fields_there (layout_of c.args.version) c.args.bytes.now c.args.scan c.requires.whole.fields c.requires.scan in
    let is = c.fields_place-fields.ensures.value in
    let f = ap (λ (l : Layout). l.fields) c.layout.ensures.value in
    omega (arith, there, is, f)

pub split_at-requires-2 : goal.split_at-requires-2
split_at-requires-2 c =
    let there = fields_there (layout_of c.args.version) c.args.bytes.now c.args.scan c.requires.whole.fields c.requires.scan in
    let is = c.fields_place-fields.ensures.value in
    let f = ap (λ (l : Layout). l.fields) c.layout.ensures.value in
    let room = c.records_room.ensures.value in
    let at = ap (λ (p : ℕ). (layout_of c.args.version).room * segments_at c.args.bytes.now p)
    c.fields_place-fields.ensures.value in
    let rest = c.split_at.ensures.back_len in
    omega (arith, there, is, f, room, at, rest)
