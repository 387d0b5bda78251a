use Rattle.std.proofs.Common.{ap, arith}
use Rattle.box_format.specs.Fields.{list_length}
use Rattle.box_format.specs.Versions.{layout_of}
use Rattle.box_format.proofs.ScansSliced.{fields_there, header_ends}
use Rattle.box_format.proofs.slices.list_at.Goals as goal

pub list_length-length-requires : goal.list_length-length-requires
list_length-length-requires c =
    let there = fields_there (layout_of c.args.version) c.args.bytes.now c.args.scan c.requires.whole.fields c.requires.scan in
    let is = c.fields_place.ensures.value in
    omega (arith, there, is)

pub split_at-requires : goal.split_at-requires
split_at-requires c =
    let ends = header_ends (layout_of c.args.version) c.args.bytes.now c.args.scan c.requires.whole c.requires.scan in
    let is = c.list_place.ensures.value in
    omega (arith, ends, is)

pub split_at-requires-2 : goal.split_at-requires-2
split_at-requires-2 c =
    let ends = header_ends (layout_of c.args.version) c.args.bytes.now c.args.scan c.requires.whole c.requires.scan in
    let is = c.list_place.ensures.value in
    let long = c.list_length-length.ensures in
    let at = ap (list_length (layout_of c.args.version) c.args.bytes.now) c.fields_place.ensures.value in
    let rest = c.split_at.ensures.back_len in
    omega (arith, ends, is, long, at, rest)
