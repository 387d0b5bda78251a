-- Steps: a pass over a file's scan from segment to segment, and a segment that is coded apart from it (own).
use Rattle.std.specs.Prelude.{ℕ, ◌≡◌, ◌^◌, ◌+◌, ◌-◌, ◌*◌, ◌<◌, ◌≤◌, Bool, List, length, ℤ}
use Rattle.std.specs.List.{AllByRecursion}
use Rattle.bit_list.specs.Bits.{IsByte}
use Rattle.jpeg_marker.specs.AcceptedPlans.{CanScan}
use Rattle.jpeg_marker.specs.Plans.{PlanFields}
use Rattle.huff_table.specs.ComponentTables.{codes_of}
use Rattle.huff_table.specs.declared.plan_codes.ComponentCodes.{ComponentCodes}
use Rattle.handover.specs.Handovers.{HandoverFields}
use Rattle.scan_spec.specs.Scans.{Mcu, pad_at}
use Rattle.scan_spec.specs.ScanCalls.{ScanReader, reader_at, resume_place}
use Rattle.scan_spec.specs.Slots.{shape_of}
use Rattle.scan_spec.specs.Spots.{bytes_done}
use Rattle.cut_spec.specs.Cuts.{Cut, first_mcu, row_of}
use Rattle.cut_spec.specs.HandedOver.{reader_from, spot_in}
use Rattle.cut_spec.specs.RowHandovers.{handover_at, handover_of, markers_before, mcus_between}
use Rattle.container_spec.specs.Files.{plan_cut, segment_mcus}
use Rattle.container_spec.specs.ScanStream.{stream_of}
use Rattle.segment_code.specs.FileStarts.{StartsFields}
use Rattle.segment_code.specs.CodedMcus.{AreReadOn}
use Rattle.segment_code.specs.FoundPads.{FoundPads, none_found, pads_through}
use Rattle.segment_code.specs.FoundStarts.{found}
use Rattle.segment_code.specs.Starting.{IsFileAt}

-- what a pass has: the file's plan and its code words, how many segments are asked for, the reader, and what was found
pub record PassFields : Type 0 where
  pub plan : PlanFields
  pub codes : List ComponentCodes
  pub bytes : List ℕ
  pub most : ℕ
  pub reader : ScanReader
  pub starts : StartsFields
  pub pads : FoundPads

-- how the scan is cut
abbrev pub pass_cut : PassFields → Cut
pass_cut p = plan_cut p.plan p.most

-- how many segments were passed
abbrev pub passed : PassFields → ℕ
passed p = length p.starts.rows

-- how many are left
abbrev pub segments_left : PassFields → ℕ
segments_left p = (pass_cut p).segments - passed p

-- the reader before the first MCU
abbrev pub first_reader : PassFields → ScanReader
first_reader p = reader_at (shape_of p.plan) p.bytes p.plan.header_length

-- how many MCUs were passed
abbrev pub mcus_passed : PassFields → ℕ
mcus_passed p = first_mcu (pass_cut p) (passed p)

-- the pass is between two segments: the reader has read the MCUs of those before, and their starts and pads were found
pub record IsPass (p : PassFields) : Type 0 where
  pub bytes : AllByRecursion IsByte p.bytes
  pub can : CanScan p.bytes p.plan
  pub codes : p.codes ≡ codes_of p.plan.components
  pub some : 0 < p.most
  pub few : p.most < 2 ^ 32
  pub within : passed p ≤ (pass_cut p).segments
  pub starts : p.starts ≡ found (first_reader p) (pass_cut p) (passed p)
  pub read : (mcus : List (List (List ℤ))) × AreReadOn (mcus_passed p) (first_reader p) p.reader mcus
  pub pads : p.pads ≡ pads_through (mcus_passed p) (first_reader p) none_found

-- from one pass to another of the same scan, past one segment more
pub record HasPassed (old new : PassFields) : Type 0 where
  pub is : IsPass new
  pub count : passed new ≡ passed old + 1
  pub same : new ≡ record old { reader = new.reader; starts = new.starts; pads = new.pads }

-- a segment of a scan: its first row, where it starts, and how many MCUs it has
pub record PartFields : Type 0 where
  pub plan : PlanFields
  pub codes : List ComponentCodes
  pub bytes : List ℕ
  pub row : ℕ
  pub place : ℕ
  pub handover : HandoverFields
  pub mcus : ℕ

-- it can be read
pub record IsPart (part : PartFields) : Type 0 where
  pub bytes : AllByRecursion IsByte part.bytes
  pub codes : part.codes ≡ codes_of part.plan.components
  pub row : part.row < part.plan.down
  pub restarts : part.handover.restarts
      ≡ markers_before (shape_of part.plan) (part.plan.across * part.row)
  pub count : part.plan.across * part.row + part.mcus ≤ part.plan.across * part.plan.down

-- a reader before its first MCU
abbrev pub part_reader : PartFields → ScanReader
part_reader p = reader_from (shape_of p.plan) p.bytes p.handover (p.plan.across * p.row) p.place

-- the segment that a pass comes to next
abbrev pub next_part : PassFields → PartFields
next_part p = record {
  plan = p.plan;
  codes = p.codes;
  bytes = p.bytes;
  row = row_of (pass_cut p) (passed p);
  place = resume_place p.reader.at.cursor;
  handover = handover_of p.reader.shape (spot_in p.reader.bytes p.reader.at);
  mcus = first_mcu (pass_cut p) (passed p + 1) - mcus_passed p;
}

-- it is rows of a file by its MCUs and pad bits: from its first row to before another
pub record IsPartOf (part : PartFields) (mcus : List Mcu) (pads : List Bool) (to : ℕ) : Type 0 where
  pub some : part.row < to
  pub within : to ≤ part.plan.down
  pub place : part.place ≡ part.plan.header_length + bytes_done (shape_of part.plan)
      (pad_at pads) mcus (part.plan.across * part.row)
  pub handover : part.handover ≡ handover_at (shape_of part.plan) (pad_at pads) mcus
      (part.plan.across * part.row)
  pub ends : part.plan.across * part.row + part.mcus ≡ part.plan.across * to

-- a stream is that of the segment, if the bytes are a file's and the segment is rows of it
abbrev pub IsPartStream : PartFields → List ℕ → Type 0
IsPartStream part stream =
    (mcus : List Mcu) (pads : List Bool) (trailer to : ℕ)
    → IsFileAt part.bytes part.plan mcus pads trailer → IsPartOf part mcus pads to
    → stream ≡ stream_of part.plan
    (mcus_between mcus (part.plan.across * part.row) (part.plan.across * to))

-- a segment is rows of no file
abbrev pub IsNoPart : PartFields → Type 0
IsNoPart part =
    (mcus : List Mcu) (pads : List Bool) (trailer to : ℕ)
    → IsFileAt part.bytes part.plan mcus pads trailer → IsPartOf part mcus pads to → ⊥

-- a stream is that of the segment that a pass comes to next, if the bytes are a file's
abbrev pub IsNextStream : PassFields → List ℕ → Type 0
IsNextStream p stream =
    (mcus : List Mcu) (pads : List Bool) (trailer : ℕ) → IsFileAt p.bytes p.plan mcus pads trailer
    → stream ≡ stream_of p.plan (segment_mcus p.plan mcus p.most (passed p))
