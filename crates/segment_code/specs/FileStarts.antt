-- View: where the segments of a file start (docs/FORMAT.md, Segments).
use Rattle.std.specs.Prelude.{ℕ, ◌+◌, Bool, List, map}
use Rattle.std.specs.List.{range_with_len}
use Rattle.jpeg_marker.specs.Plans.{PlanFields}
use Rattle.scan_spec.specs.Pads.{PadBits}
use Rattle.scan_spec.specs.Scans.{Mcu, pad_at}
use Rattle.scan_spec.specs.Slots.{shape_of}
use Rattle.scan_spec.specs.Spots.{bytes_done}
use Rattle.handover.specs.Handovers.{HandoverFields}
use Rattle.cut_spec.specs.Cuts.{first_mcu, row_of}
use Rattle.container_spec.specs.Files.{plan_cut, segment_start, told_pads}

-- where segments start: of each its row, the place of its first byte that the MCUs before don't complete, and its
-- handover; how the file's pad bits are spelled, and the place of its trailer
pub record StartsFields : Type 0 where
  pub rows : List ℕ
  pub places : List ℕ
  pub handovers : List HandoverFields
  pub pads : PadBits
  pub trailer : ℕ

-- the starts of a file's segments, of at most `most`, its trailer being at a place
abbrev pub starts_of : PlanFields → List Mcu → List Bool → ℕ → ℕ → StartsFields
starts_of plan mcus pads trailer most =
    let cut = plan_cut plan most in
    let segments = range_with_len 0 cut.segments in
    record {
      rows = map (row_of cut) segments;
      places = map (λ i. plan.header_length
          + bytes_done (shape_of plan) (pad_at pads) mcus (first_mcu cut i)) segments;
      handovers = map (segment_start plan mcus pads most) segments;
      pads = told_pads plan mcus pads;
      trailer = trailer;
    }
