-- Steps: a chunk by where the rows of a file start (own).
use Rattle.std.specs.Prelude.{ℕ, ◌≡◌, ◌-◌, ◌<◌, ◌^◌, nat_lt, if◌then◌else◌, List, length, get_or, map, Some}
use Rattle.std.specs.List.{AllByRecursion, range_with_len}
use Rattle.byte_window.specs.Slices.{Cover, cover_of}
use Rattle.byte_window.specs.PartedFiles.{skip_of}
use Rattle.bit_list.specs.Bits.{IsByte}
use Rattle.jpeg_marker.specs.HeaderPlan.{Accepts}
use Rattle.jpeg_marker.specs.Plans.{PlanFields}
use Rattle.handover.specs.Handovers.{HandoverFields, start}
use Rattle.cut_spec.specs.Cuts.{row_of}
use Rattle.box_format.specs.Parts.{box_cut}
use Rattle.box_format.specs.declared.chunk.Chunk.{Chunk}
use Rattle.segment_code.specs.FileStarts.{StartsFields}
use Rattle.segment_code.specs.Starting.{AreStarts}
use Rattle.chunk_cut.specs.declared.cutter.ChunkCutter.TheInside.{Inside}

-- the place of a row's first byte, by the starts of all rows; after the last row that of the trailer
abbrev pub place_of : StartsFields → ℕ → ℕ
place_of s row = if nat_lt row (length s.rows) then get_or s.places row 0 else s.trailer

-- the rows that have a byte from place a to before b
abbrev pub rows_found : StartsFields → ℕ → ℕ → Cover
rows_found s a b = cover_of (place_of s) (length s.rows) a b

-- the chunk of these bytes
abbrev pub chunk_found : StartsFields → ℕ → ℕ → Chunk
chunk_found s a b =
    let rows = rows_found s a b in
    record {
      place = a;
      length = b - a;
      skip = skip_of (place_of s) rows a;
      from = rows.from;
      to = rows.to;
    }

-- what each of so many segments of a chunk starts from
abbrev pub handovers_found : PlanFields → StartsFields → Chunk → ℕ → List HandoverFields
handovers_found plan s chunk count =
    map (λ i. get_or s.handovers (row_of (box_cut plan (Some chunk) count) i) start)
    (range_with_len 0 count)

-- what a cutter has: a file of fewer bytes than four bytes count, its header's plan, and where its rows start
pub record IsCutter (c : Inside) : Type 0 where
  pub bytes : AllByRecursion IsByte c.bytes.now
  pub few : length c.bytes.now < 2 ^ 32
  pub plan : Accepts c.bytes.now c.plan
  pub starts : AreStarts c.plan c.bytes.now c.plan.down c.starts
  pub rows : c.starts.rows ≡ range_with_len 0 c.plan.down
