-- Statement: where a header begins, and what is known before it (ITU-T T.81, B.2.1): at the start of an image, or after
-- a scan.
use Rattle.std.specs.Prelude.{ℕ, ◌+◌, List, [], ◌∷◌, ◌++◌, length, replicate, flat_map, None, false}
use Rattle.jpeg_marker.specs.MarkerSegments.{Segment, segment_text}
use Rattle.jpeg_marker.specs.declared.definitions.Definitions.{Definitions}
use Rattle.jpeg_marker.specs.declared.scans.Scans.{Scans}
use Rattle.jpeg_marker.specs.declared.scans.Scans.TheVariants.{Several}

-- what is known from the headers before, whether the file may have several scans, the place of the header, and its
-- bytes before its first segment
pub record Walk : Type 0 where
  pub known : Definitions
  pub scans : Scans
  pub place : ℕ
  pub start : List ℕ

-- what is known before any segment
abbrev pub nothing_known : Definitions
nothing_known = record {
  frame = None;
  tables = replicate 8 None;
  interval = 0;
  coded = replicate 4 false;
  blocks = 0;
}

-- a walk by its parts
abbrev pub walk_from : Definitions → Scans → ℕ → List ℕ → Walk
walk_from known scans place start =
    record { known = known; scans = scans; place = place; start = start }

-- the walk over the first header, which begins with the start of an image, of a file of one scan or of several
abbrev pub first_walk : Scans → Walk
first_walk scans = walk_from nothing_known scans 0 (0xff ∷ 0xd8 ∷ [])

-- the walk over the header of a further scan, at a place, after what is known
abbrev pub next_walk : Definitions → ℕ → Walk
next_walk known place = walk_from known Several place []

-- a header's bytes up to the end of these segments
abbrev pub walk_text : Walk → List Segment → List ℕ
walk_text w segments = w.start ++ flat_map segment_text segments

-- the place of the segment after them
abbrev pub walk_place : Walk → List Segment → ℕ
walk_place w segments = w.place + length (walk_text w segments)
