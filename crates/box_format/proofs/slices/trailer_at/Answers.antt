use Rattle.std.proofs.Common.{ap, arith}
use Rattle.box_format.specs.Fields.{list_place}
use Rattle.box_format.specs.Versions.{layout_of}
use Rattle.box_format.proofs.ScansSliced.{trailer_ends}
use Rattle.box_format.proofs.slices.trailer_at.Goals as goal

pub split_at-requires : goal.split_at-requires
split_at-requires c =
    let ends = trailer_ends (layout_of c.args.version) c.args.bytes.now c.requires in
    let is = c.list_place.ensures.value in
    let at = ap (list_place (layout_of c.args.version) c.args.bytes.now) c.scans_in-2.ensures in
    omega (arith, ends, is, at)

pub split_at-requires-2 : goal.split_at-requires-2
split_at-requires-2 c =
    let ends = trailer_ends (layout_of c.args.version) c.args.bytes.now c.requires in
    let is = c.list_place.ensures.value in
    let at = ap (list_place (layout_of c.args.version) c.args.bytes.now) c.scans_in-2.ensures in
    let long = c.trailer_length.ensures in
    let rest = c.split_at.ensures.back_len in
    omega (arith, ends, is, at, long, rest)
