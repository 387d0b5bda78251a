use Rattle.std.proofs.Common.{◌<◌, arith}
use Rattle.box_format.specs.Versions.{layout_of}
use Rattle.box_format.specs.Fields.{scans_in}
use Rattle.box_format.proofs.Layouts.{fields_low}
use Rattle.box_format.proofs.ScansSliced.{fields_there}
use Rattle.box_format.proofs.fields.list_place.Goals as goal

pub list_length-requires : goal.list_length-requires
list_length-requires c =
    let l = layout_of c.args.version in
    let few = c.requires.scan in
    let below : c.loop.counter < scans_in l c.args.bytes.now = omega (arith, few) in
    let there = fields_there l c.args.bytes.now c.loop.counter c.requires.fields below in
    let is = c.loop.invariant.fields in
    omega (arith, there, is)

pub header_length-requires : goal.header_length-requires
header_length-requires c =
    let l = layout_of c.args.version in
    let few = c.requires.scan in
    let below : c.loop.counter < scans_in l c.args.bytes.now = omega (arith, few) in
    let there = fields_there l c.args.bytes.now c.loop.counter c.requires.fields below in
    let is = c.loop.invariant.fields in
    omega (arith, there, is, fields_low c.args.version)
