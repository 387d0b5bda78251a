-- Steps: a segment that a decoder begins, by its parts (own).
use Rattle.std.specs.Prelude.{ℕ, ◌*◌, List, Option}
use Rattle.jpeg_marker.specs.Plans.{PlanFields}
use Rattle.scan_spec.specs.Pads.{PadBits}
use Rattle.scan_spec.specs.Slots.{shape_of}
use Rattle.handover.specs.Handovers.{HandoverFields}
use Rattle.container_spec.specs.ScanStream.{grid_of}
use Rattle.container_spec.specs.Segments.{SegmentFields}

-- a segment of a plan's scan: its number, its stream, what it starts from, its first row of MCUs, how many MCUs it has,
-- what the next segment starts from, how many places are kept for its bytes, and the pad bits
abbrev pub segment_with : PlanFields → ℕ → List ℕ → HandoverFields → ℕ → ℕ
    → Option HandoverFields → Option ℕ → PadBits → SegmentFields
segment_with plan number stream start row count next kept pads = record {
  number = number;
  shape = shape_of plan;
  grid = grid_of plan;
  pads = pads;
  stream = stream;
  start = start;
  from = plan.across * row;
  count = count;
  next = next;
  kept = kept;
}
