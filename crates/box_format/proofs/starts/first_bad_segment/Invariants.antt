use Rattle.std.proofs.Common.{◌≡◌, ◌-◌, map}
use Rattle.std.specs.List.{range_with_len}
use Rattle.scan_spec.specs.Slots.{shape_of}
use Rattle.box_format.specs.Parts.{bad_start, box_cut}
use Rattle.box_format.specs.Raws.{handover_from}
use Rattle.box_format.specs.Slices.{handovers_in, place_among}
use Rattle.box_format.proofs.starts.first_bad_segment.Given as goal

abbrev pub invariant-loop-i : goal.invariant-loop-i
invariant-loop-i l =
    bad_start (shape_of l.plan) (box_cut l.plan l.chunk l.segments) l.i
    (map (λ i. handover_from l.records (place_among l.version i)) (range_with_len l.i (l.segments - l.i)))
    ≡ bad_start (shape_of l.plan) (box_cut l.plan l.chunk l.segments) 0
    (handovers_in l.version l.segments l.records)
