use Rattle.std.proofs.Common.{rules, ◌≤◌, length, arith}
use Rattle.box_format.specs.Versions.{layout_of}
use Rattle.box_format.proofs.ScansSliced.{streams_end}
use Rattle.box_format.proofs.slices.streams_at.Goals as goal

pub overflow_cast-streams_place : goal.overflow_cast-streams_place
overflow_cast-streams_place c =
    let ends = streams_end (layout_of c.args.version) c.args.bytes.now c.args.scan c.requires.whole c.requires.scan in
    let is = c.streams_place.ensures in
    let few : c.streams_place.result ≤ length c.args.bytes.now = omega (arith, ends, is) in
    search rules

pub split_at-requires : goal.split_at-requires
split_at-requires c =
    let ends = streams_end (layout_of c.args.version) c.args.bytes.now c.args.scan c.requires.whole c.requires.scan in
    let is = c.streams_place.ensures in
    omega (arith, ends, is)
