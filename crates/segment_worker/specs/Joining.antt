-- Steps: the segments of a stretch joined, from one of them on (own).
use Rattle.std.specs.Prelude.{ℕ, ◌+◌, ◌-◌, List, ◌++◌}
use Rattle.handover.specs.ScanSums.{ScanPads, sums_with}
use Rattle.container_spec.specs.ScansJoined.{ScansJoined, scanned_from, scans_joined}
use Rattle.segment_worker.specs.Contents.{Stretch}

-- its segments from the one with an index on, one after another
abbrev pub joined_from : Stretch → ℕ → ScansJoined
joined_from s i = scans_joined (scanned_from s.container (s.first + i) (s.count - i))

-- good segments with these bytes before others, and what they padded
abbrev pub joined_onto : List ℕ → ScanPads → ScansJoined → ScansJoined
joined_onto bytes padded more = record {
  bytes = bytes ++ more.bytes;
  fault = more.fault;
  padded = sums_with padded more.padded;
}
