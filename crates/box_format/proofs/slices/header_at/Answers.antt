use Rattle.std.proofs.Common.{ap, arith}
use Rattle.box_format.specs.Fields.{header_length, list_length}
use Rattle.box_format.specs.Versions.{layout_of}
use Rattle.box_format.proofs.Layouts.{fields_low}
use Rattle.box_format.proofs.ScansSliced.{fields_there, header_ends}
use Rattle.box_format.proofs.slices.header_at.Goals as goal

pub list_length-requires : goal.list_length-requires
list_length-requires c =
    let there = fields_there (layout_of c.args.version) c.args.bytes.now c.args.scan c.requires.whole.fields c.requires.scan in
    let is = c.fields_place-fields.ensures.value in
    omega (arith, there, is)

pub split_at-requires : goal.split_at-requires
split_at-requires c =
    let ends = header_ends (layout_of c.args.version) c.args.bytes.now c.args.scan c.requires.whole c.requires.scan in
    let is = c.list_place.ensures.value in
    let long = c.list_length.ensures in
    let at = ap (list_length (layout_of c.args.version) c.args.bytes.now) c.fields_place-fields.ensures.value in
    omega (arith, ends, is, long, at)

pub header_length-requires : goal.header_length-requires
header_length-requires c =
    let there = fields_there (layout_of c.args.version) c.args.bytes.now c.args.scan c.requires.whole.fields c.requires.scan in
    let is = c.fields_place-fields.ensures.value in
    omega (arith, there, is, fields_low c.args.version)

pub split_at-requires-2 : goal.split_at-requires-2
split_at-requires-2 c =
    let ends = header_ends (layout_of c.args.version) c.args.bytes.now c.args.scan c.requires.whole c.requires.scan in
    let is = c.list_place.ensures.value in
    let list = c.list_length.ensures in
    let list_is = ap (list_length (layout_of c.args.version) c.args.bytes.now) c.fields_place-fields.ensures.value in
    let header = c.header_length.ensures in
    let header_is = ap (header_length c.args.bytes.now) c.fields_place-fields.ensures.value in
    let rest = c.split_at.ensures.back_len in
    omega (arith, ends, is, list, list_is, header, header_is, rest)
