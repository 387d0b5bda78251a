-- Statement: the container of a file (docs/FORMAT.md, Segments).
use Rattle.std.specs.Prelude.{ℕ, ◌+◌, Bool, if◌then◌else◌, List, map, Option, Some, None}
use Rattle.std.specs.List.{range_with_len}
use Rattle.jpeg_marker.specs.Plans.{PlanFields}
use Rattle.scan_spec.specs.Slots.{shape_of}
use Rattle.scan_spec.specs.Scans.{Mcu, intervals_of, pad_counts, pad_at}
use Rattle.scan_spec.specs.Pads.{PadBits, bits_sum, spelling_of}
use Rattle.scan_spec.specs.Spots.{bytes_done}
use Rattle.handover.specs.Handovers.{HandoverFields}
use Rattle.cut_spec.specs.Cuts.{Cut, cut_of, first_mcu}
use Rattle.cut_spec.specs.RowHandovers.{handover_at, mcus_between}
use Rattle.box_format.specs.Parts.{BoxParts}
use Rattle.box_format.specs.Versions.{layout_of}
use Rattle.box_format.specs.declared.version.Version.{Version}
use Rattle.container_spec.specs.ScanStream.{stream_of}

-- the cut of a plan's rows in at most `most` segments
abbrev pub plan_cut : PlanFields → ℕ → Cut
plan_cut plan most = cut_of plan.across plan.down most

-- the MCUs of segment i
abbrev pub segment_mcus : PlanFields → List Mcu → ℕ → ℕ → List Mcu
segment_mcus plan mcus most i =
    let cut = plan_cut plan most in mcus_between mcus (first_mcu cut i) (first_mcu cut (i + 1))

-- what segment i of a cut starts from, and its stream
abbrev pub cut_start : PlanFields → List Mcu → List Bool → Cut → ℕ → HandoverFields
cut_start plan mcus pads cut i = handover_at (shape_of plan) (pad_at pads) mcus (first_mcu cut i)

abbrev pub cut_stream : PlanFields → List Mcu → Cut → ℕ → List ℕ
cut_stream plan mcus cut i =
    stream_of plan (mcus_between mcus (first_mcu cut i) (first_mcu cut (i + 1)))

-- what segment i of a plan's rows starts from
abbrev pub segment_start : PlanFields → List Mcu → List Bool → ℕ → ℕ → HandoverFields
segment_start plan mcus pads most i = cut_start plan mcus pads (plan_cut plan most) i

-- how the pad bits of a file are spelled
abbrev pub told_pads : PlanFields → List Mcu → List Bool → PadBits
told_pads plan mcus pads =
    let shape = shape_of plan in
    spelling_of pads (bits_sum (pad_counts shape.slots (intervals_of shape mcus)) pads)

-- the place in the file of the first byte of segment i, of those that the segments before don't complete; after the
-- last segment that of the scan's end
abbrev pub segment_place : PlanFields → List Mcu → List Bool → ℕ → ℕ → ℕ
segment_place plan mcus pads most i =
    plan.header_length
    + bytes_done (shape_of plan) (pad_at pads) mcus (first_mcu (plan_cut plan most) i)

-- these places, if they are kept
abbrev pub places_of_file : Bool → PlanFields → List Mcu → List Bool → ℕ → Option (List ℕ)
places_of_file placed plan mcus pads most =
    let places =
    map (segment_place plan mcus pads most) (range_with_len 0 ((plan_cut plan most).segments + 1)) in
    if placed then Some places else None

-- the parts of a container of rows of a file, cut into segments, without a chunk or places
abbrev pub parts_of_rows : Version → PlanFields → List Mcu → List Bool → List ℕ → List ℕ → Cut
    → BoxParts
parts_of_rows version plan mcus pads header trailer cut =
    let segments = range_with_len 0 cut.segments in
    record {
      version = version;
      chunk = None;
      places = None;
      pads = told_pads plan mcus pads;
      header = header;
      trailer = trailer;
      handovers = map (cut_start plan mcus pads cut) segments;
      streams = map (cut_stream plan mcus cut) segments;
    }

-- the parts of a file's container in a version, with at most `most` segments
abbrev pub parts_of_file : Version → PlanFields → List Mcu → List Bool → List ℕ → List ℕ → ℕ
    → BoxParts
parts_of_file version plan mcus pads header trailer most =
    record (parts_of_rows version plan mcus pads header trailer (plan_cut plan most)) {
      places = places_of_file (layout_of version).placed plan mcus pads most;
    }
