use Rattle.std.proofs.Common.{ap, ◌∙◌}
use Rattle.std.specs.Prelude.{option_map}
use Rattle.box_format.specs.Parts.{list_bytes, pad_byte}
use Rattle.box_format.proofs.Converted.{all_written}
use Rattle.box_format.proofs.converting.write_in.Goals as goal

pub returns : goal.returns
returns c =
    all_written c.args.version c.args.view.now.parts (option_map (λ all. all.now) c.args.places)
    c.list_of-list.result.now c.header-header.result.now c.trailer-trailer.result.now c.pad_byte.result
    c.segments-segments.result c.from.result _ _ _ _ _ _ _ _ _ _ _
    c.requires.one c.requires.whole (c.list_of-list.ensures ∙ ap list_bytes c.pad-pads.ensures.value)
    c.header-header.ensures.bytes c.trailer-trailer.ensures.bytes
    (c.pad_byte.ensures ∙ ap pad_byte c.pad-pads.ensures.value)
    c.segments-segments.ensures.count c.from.ensures c.in_ok-made.ensures.items
    c.in_ok-put_start.ensures c.in_ok-push.ensures.items c.in_ok-push-2.ensures.items
    c.in_ok-put_lengths.ensures c.in_ok-put_place.ensures
    c.in_ok-put_records.ensures c.in_ok-extend_from_slice.ensures.items
    c.in_ok-extend_from_slice-2.ensures.items c.in_ok-extend_from_slice-3.ensures.items
    c.in_ok-put_streams.ensures
