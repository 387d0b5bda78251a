-- Steps: what one step gives of a segment: a piece of its bytes (own).
use Rattle.std.specs.Prelude.{ℕ, zero, suc, ◌+◌, nat_lt, if◌then◌else◌, List, [], ◌++◌, length, Result, Ok, Err}
use Rattle.bit_list.specs.Pieces.{piece_room}
use Rattle.scan_spec.specs.TextBounds.{mcu_room}
use Rattle.handover.specs.declared.outcome.StreamCause.{StreamCause}
use Rattle.container_spec.specs.ScanStream.{starts}
use Rattle.container_spec.specs.Segments.{SegmentFields, Progress, Output, stopped, with_prefix, ending, mcu_step, mcus_output}

-- some bytes, with MCUs left after them, or all that was left
pub data Made : Type 0 where
  SomeOf : List ℕ → ℕ → Progress → Made
  AllOf : Output → Made

-- with bytes before it
abbrev pub made_with_prefix : List ℕ → Made → Made
made_with_prefix prefix (SomeOf bytes left at) = SomeOf (prefix ++ bytes) left at
made_with_prefix prefix (AllOf output) = AllOf (with_prefix prefix output)

-- what comes of an MCU's step
abbrev pub made_after : SegmentFields → Result (List ℕ × Progress) StreamCause
    → (List ℕ × Progress → Made) → Made
made_after s (Ok made) more = made_with_prefix made.0 (more made)
made_after s (Err cause) more = AllOf (stopped s cause)

-- whole MCUs while there is room for any one more, after `used` bytes of the piece
unfoldable pub piece : ℕ → SegmentFields → Progress → ℕ → Made
piece zero s at used = AllOf (ending s at)
piece (suc left) s at used =
    if nat_lt piece_room (used + mcu_room) then SomeOf [] (suc left) at
    else made_after s (mcu_step s at) (λ made. piece left s made.1 (used + length made.0))

-- the next piece, which has an MCU at least; nothing where the stream has no start
abbrev pub next_piece : ℕ → SegmentFields → Progress → Made
next_piece left s at =
    if starts s.stream then piece left s at 0
    else AllOf (stopped s Rattle.handover.specs.declared.outcome.StreamCause.TheVariants.StreamBad)

-- the output that is left after it
abbrev pub output_after : SegmentFields → Made → Output
output_after s (SomeOf bytes left at) = with_prefix bytes (mcus_output left s at)
output_after s (AllOf output) = output
