-- Statement: a segment of a container, and how what bytes stand for can end (docs/FORMAT.md, What a container stands
-- for).
use Rattle.std.specs.Prelude.{ℕ, ◌+◌, ◌-◌, List, [], length, get_or, slice_get, slice_index, Option, option_map}
use Rattle.jpeg_marker.specs.Plans.{PlanFields}
use Rattle.scan_spec.specs.Slots.{shape_of}
use Rattle.handover.specs.Handovers.{start}
use Rattle.handover.specs.declared.outcome.StreamFault.{StreamFault}
use Rattle.cut_spec.specs.Cuts.{first_mcu}
use Rattle.box_format.specs.Parts.{BoxParts, box_cut}
use Rattle.box_format.specs.declared.refusal.BoxRefusal.{BoxRefusal}
use Rattle.container_spec.specs.ScanStream.{grid_of}
use Rattle.container_spec.specs.Segments.{SegmentFields}

-- how many places are kept for the bytes of segment i, if any are
abbrev pub kept_in : Option (List ℕ) → ℕ → Option ℕ
kept_in places i = option_map (λ ps. slice_index ps (i + 1) - slice_index ps i) places

-- segment i of a container
abbrev pub segment_in : PlanFields → BoxParts → ℕ → SegmentFields
segment_in plan b i =
    let cut = box_cut plan b.chunk (length b.handovers) in
    record {
      number = i;
      shape = shape_of plan;
      grid = grid_of plan;
      pads = b.pads;
      stream = get_or b.streams i [];
      start = get_or b.handovers i start;
      from = first_mcu cut i;
      count = first_mcu cut (i + 1) - first_mcu cut i;
      next = slice_get b.handovers (i + 1);
      kept = kept_in b.places i;
    }

-- how a container ends: the whole file, or the whole chunk; all bytes of the file, but with pad bits that are spelled
-- in another way than a file's; a chunk of fewer bytes than it says; a segment's fault; or the bytes are no container
pub data Verdict : Type 0 where
  Restored : Verdict
  PadSpelled : Verdict
  ChunkShort : Verdict
  Faulty : StreamFault → Verdict
  NoBox : BoxRefusal → Verdict

-- the bytes that it stands for, and how it ends
pub record Meaning : Type 0 where
  pub bytes : List ℕ
  pub verdict : Verdict
