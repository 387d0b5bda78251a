-- Steps: the bytes and outcomes that the board of some of a container's segments is for (own).
use Rattle.std.specs.Prelude.{ℕ, ◌+◌, ◌*◌, ◌^◌, ◌≤◌, List, length, map}
use Rattle.std.specs.List.{range_with_len}
use Rattle.handover.specs.declared.outcome.Outcome.{Outcome}
use Rattle.scan_spec.specs.TextBounds.{mcu_room}
use Rattle.board_core.specs.BoardInvariants.{bytes_at}
use Rattle.box_format.specs.Parts.{BoxSeen}
use Rattle.container_spec.specs.Segments.{Output}
use Rattle.container_spec.specs.ScansMeanings.{output_at}

-- some of the segments of a container's scans: so many, from one on
pub record Stretch : Type 0 where
  pub container : List BoxSeen
  pub first : ℕ
  pub count : ℕ

abbrev pub stretch : List BoxSeen → ℕ → ℕ → Stretch
stretch scans first count = record { container = scans; first = first; count = count }

-- the bytes and the outcome of each of its segments
abbrev pub outputs_in : Stretch → List Output
outputs_in s = map (λ i. output_at s.container i) (range_with_len s.first s.count)

-- the bytes of each
abbrev pub segments_bytes : Stretch → List (List ℕ)
segments_bytes s = map (λ (output : Output). output.0) (outputs_in s)

-- the outcome of each
abbrev pub segments_outcomes : Stretch → List Outcome
segments_outcomes s = map (λ (output : Output). output.1) (outputs_in s)

-- more bytes than a segment has, with the header that may come before it
abbrev pub segment_room : ℕ
segment_room = mcu_room * 2 ^ 32 + 2 ^ 32

-- no segment has more bytes
abbrev pub AreShort : Stretch → Type 0
AreShort s = (i : ℕ) → length (bytes_at (segments_bytes s) i) ≤ segment_room
