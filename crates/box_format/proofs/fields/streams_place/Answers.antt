use Rattle.std.proofs.Common.{◌<◌, ◌≤◌, ℕ, length, sym, subst, arith}
use Rattle.box_format.specs.Versions.{layout_of}
use Rattle.box_format.specs.Fields.{scans_in, record_place, segments_at}
use Rattle.box_format.proofs.ScansSliced.{fields_there, trailer_there}
use Rattle.box_format.proofs.fields.streams_place.Goals as goal

pub trailer_length-requires : goal.trailer_length-requires
trailer_length-requires c =
    trailer_there c.args.version c.args.bytes.now c.requires.fields

pub streams_room-place-requires-clause-fields : goal.streams_room-place-requires-clause-fields
streams_room-place-requires-clause-fields c =
    let l = layout_of c.args.version in
    let bytes = c.args.bytes.now in
    let few = c.requires.scan in
    let below : c.loop.counter < scans_in l bytes = omega (arith, few) in
    subst (λ (place : ℕ). record_place l place (segments_at bytes place) ≤ length bytes)
    (sym c.loop.invariant.fields) (fields_there l bytes c.loop.counter c.requires.fields below)
