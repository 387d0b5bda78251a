-- Statement: which segments a header may have, and where bytes stop being a header (ITU-T T.81, B.1.1, B.2). Places
-- are offsets of bytes from the file's first.
use Rattle.std.specs.Prelude.{ℕ, ◌+◌, ◌≡◌, List, [], ◌∷◌, ◌++◌, length, flat_map, ◌==◌, nat_lt, not, Option, Some, None, if◌then◌else◌, fold, IsTrue}
use Rattle.std.specs.Option.{option_or}
use Rattle.jpeg_marker.specs.declared.refusal.HeaderRefusal.{HeaderRefusal}
use Rattle.jpeg_marker.specs.declared.refusal.HeaderRefusal.TheVariants.{HeaderCut, MarkerBad, NotBaseline, LengthBad}
use Rattle.jpeg_marker.specs.MarkerSegments.{Segment, IsWhole, number_at, is_other_process, is_known, last_of}
use Rattle.jpeg_marker.specs.Walks.{Walk, walk_place}
use Rattle.jpeg_marker.specs.HuffmanTables.{tables_of}
use Rattle.jpeg_marker.specs.HeldTables.{tables_kept}
use Rattle.jpeg_marker.specs.declared.definitions.Definitions.{Definitions}
use Rattle.jpeg_marker.specs.declared.scans.Scans.{Scans}
use Rattle.jpeg_marker.specs.TableFaults.{tables_fault}
use Rattle.jpeg_marker.specs.Frames.{frames_in, frame_fault}
use Rattle.jpeg_marker.specs.Plans.{scan_fault}

-- the first check that a restart interval fails: a length of 4 (B.2.4.4)
abbrev pub interval_fault : ℕ → List ℕ → Option HeaderRefusal
interval_fault at body = if length body == 2 then None else Some (LengthBad at)

-- the restart interval that a segment gives, in MCUs, if it is one of an interval
abbrev pub intervals_in : Segment → List ℕ
intervals_in s = if s.code == 0xdd then number_at s.body ∷ [] else []

-- What is known after segments (B.2.2, B.2.4): the one frame, of each class and number the last table, and the last
-- restart interval; if they have none, what was known before.
abbrev pub known_after : Definitions → List Segment → Definitions
known_after before segments = record {
  frame = last_of before.frame (flat_map frames_in segments);
  tables = tables_kept before.tables (tables_of segments);
  interval = fold (λ _ n. n) before.interval (flat_map intervals_in segments);
  coded = before.coded;
  blocks = before.blocks;
}

-- The first check that a segment with this code and body fails after what is known, its length at a place, if it is no
-- scan's. A segment of another code passes.
abbrev pub segment_fault : Definitions → ℕ → ℕ → List ℕ → Option HeaderRefusal
segment_fault known at code body =
    if code == 0xc0 then frame_fault known.frame at body
    else if code == 0xc4 then tables_fault at (at + 2) 0 body
    else if code == 0xdd then interval_fault at body
    else None

-- and the first that any segment fails
abbrev pub body_fault : Scans → Definitions → ℕ → ℕ → List ℕ → Option HeaderRefusal
body_fault scans known at code body =
    if code == 0xda then scan_fault scans known known.frame at body
    else segment_fault known at code body

-- the first check that a segment fails after the segments before it, its length at a place
abbrev pub fault_of : Walk → List Segment → ℕ → Segment → Option HeaderRefusal
fault_of w before at s = body_fault w.scans (known_after w.known before) at s.code s.body

-- the place of a segment's length after the segments before it
abbrev pub length_place : Walk → List Segment → Segment → ℕ
length_place w before s = walk_place w before + s.fill + 2

-- a segment that may follow those before it
pub record IsGood (w : Walk) (before : List Segment) (s : Segment) : Type 0 where
  pub whole : IsWhole s
  pub checked : fault_of w before (length_place w before s) s ≡ None

-- each of the segments may follow those before it, of which `before` are the first
abbrev pub AreGoodAfter : Walk → List Segment → List Segment → Type 0
AreGoodAfter w before [] = Unit {0}
AreGoodAfter w before (s ∷ segments) =
    IsGood w before s × AreGoodAfter w (before ++ s ∷ []) segments

-- no segment is a scan's
abbrev pub HaveNoScan : List Segment → Type 0
HaveNoScan [] = Unit {0}
HaveNoScan (s ∷ segments) = IsTrue (not (s.code == 0xda)) × HaveNoScan segments

-- segments before a scan, each good
pub record ArePassed (w : Walk) (segments : List Segment) : Type 0 where
  pub good : AreGoodAfter w [] segments
  pub no_scan : HaveNoScan segments

-- What is wrong with a segment that isn't whole, its length at a place: no two bytes of it, less than 2, or
-- more than there is (B.1.1.4).
abbrev pub length_fault : ℕ → List ℕ → Option HeaderRefusal
length_fault at bytes =
    if nat_lt (length bytes) 2 then Some HeaderCut
    else if nat_lt (number_at bytes) 2 then Some (LengthBad at)
    else if nat_lt (length bytes) (number_at bytes) then Some HeaderCut
    else None

-- What is wrong with a code at a place: no marker, one of another process, or one that no header has
-- (B.1.1.2, Table B.1).
abbrev pub code_fault : ℕ → ℕ → Option HeaderRefusal
code_fault place code =
    if code == 0 then Some (MarkerBad place)
    else if is_other_process code then Some (NotBaseline code)
    else if not (is_known code) then Some (MarkerBad place)
    else None

-- What is wrong after a first byte of 0xff, the byte after it at a place: further bytes of 0xff are passed
-- (B.1.1.2).
abbrev pub stuck_after : ℕ → List ℕ → Option HeaderRefusal
stuck_after place [] = Some HeaderCut
stuck_after place (byte ∷ bytes) =
    if byte == 0xff then stuck_after (place + 1) bytes
    else option_or (code_fault place byte) (length_fault (place + 1) bytes)

-- Why there is no whole segment at a place, if there is none: no byte, or none of 0xff.
abbrev pub stuck_at : ℕ → List ℕ → Option HeaderRefusal
stuck_at place [] = Some HeaderCut
stuck_at place (byte ∷ bytes) =
    if byte == 0xff then stuck_after (place + 1) bytes else Some (MarkerBad place)
