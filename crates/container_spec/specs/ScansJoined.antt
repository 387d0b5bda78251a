-- Statement: the segments of a container, one after another, and what they padded scan by scan (docs/FORMAT.md, What a
-- container stands for).
use Rattle.std.specs.Prelude.{ℕ, ◌+◌, ◌&&◌, Bool, true, List, [], ◌∷◌, ◌++◌, map, Option, Some, None}
use Rattle.std.specs.List.{range_with_len}
use Rattle.scan_spec.specs.Pads.{is_spelled}
use Rattle.handover.specs.ScanSums.{ScanPads, no_sums, sums_of, sums_with, sum_in}
use Rattle.handover.specs.declared.outcome.StreamFault.{StreamFault}
use Rattle.handover.specs.declared.outcome.Outcome.{Outcome}
use Rattle.handover.specs.declared.outcome.Outcome.TheVariants.{Good, Bad}
use Rattle.box_format.specs.Parts.{BoxSeen}
use Rattle.container_spec.specs.Segments.{Output}
use Rattle.container_spec.specs.ScansMeanings.{output_at, scan_of}

-- the number of a segment's scan, and the segment's output
abbrev pub Scanned : Type 0
Scanned = ℕ × Output

-- those of segments from one on, by their numbers in the container
abbrev pub scanned_from : List BoxSeen → ℕ → ℕ → List Scanned
scanned_from scans first count =
    map (λ i. (scan_of 0 scans i, output_at scans i)) (range_with_len first count)

-- bytes through the first segment that is bad, its fault, and what was padded where there is none
pub record ScansJoined : Type 0 where
  pub bytes : List ℕ
  pub fault : Option StreamFault
  pub padded : ScanPads

-- a segment before others
abbrev pub scanned_with : ℕ → List ℕ → Outcome → ScansJoined → ScansJoined
scanned_with scan bytes (Good padded) more =
    let sums = sums_with (sums_of scan padded) more.padded in
    record { bytes = bytes ++ more.bytes; fault = more.fault; padded = sums }
scanned_with scan bytes (Bad fault) more =
    record { bytes = bytes; fault = Some fault; padded = no_sums }

-- segments, one after another
abbrev pub scans_joined : List Scanned → ScansJoined
scans_joined [] = record { bytes = []; fault = None; padded = no_sums }
scans_joined (s ∷ segments) = scanned_with s.0 s.1.0 s.1.1 (scans_joined segments)

-- whether the pad bits of each scan are spelled as `encode` spells them, the first one here having a number
abbrev pub all_spelled : ℕ → List BoxSeen → ScanPads → Bool
all_spelled scan [] sums = true
all_spelled scan (s ∷ scans) sums =
    is_spelled s.parts.pads (sum_in sums scan) && all_spelled (scan + 1) scans sums

-- the header of the first scan
abbrev pub first_header : List BoxSeen → List ℕ
first_header [] = []
first_header (s ∷ scans) = s.parts.header
