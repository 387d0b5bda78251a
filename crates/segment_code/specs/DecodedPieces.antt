-- Steps: what happens inside one step of a decoder of segments (own).
use Rattle.std.specs.Prelude.{ℕ, ◌≡◌, ◌+◌, ◌-◌, Bool, true, not, ◌&&◌, nat_lt, if◌then◌else◌, List, [], ◌++◌, length, bytes_eq, ◌==◌, Option, Some, None, Result, Ok, Err}
use Rattle.bit_list.specs.Pieces.{piece_room}
use Rattle.scan_spec.specs.TextBounds.{mcu_room}
use Rattle.handover.specs.Handovers.{HandoverFields}
use Rattle.handover.specs.HandoverBytes.{handover_bytes}
use Rattle.handover.specs.declared.outcome.Outcome.TheVariants.{Good, Bad}
use Rattle.handover.specs.declared.outcome.StreamCause.{StreamCause}
use Rattle.handover.specs.declared.outcome.StreamCause.TheVariants.{Seam, PlaceBad}
use Rattle.container_spec.specs.ScanStream.{starts}
use Rattle.container_spec.specs.Segments.{SegmentFields, Progress, Output, stopped, with_prefix, mcu_step}
use Rattle.segment_code.specs.Pieces.{AllOf, made_with_prefix, piece}
use Rattle.segment_code.specs.Decoding.{DecoderSeen, HasDecoded, HoldsSegment}
use Rattle.segment_code.specs.declared.step.Step.{Step}
use Rattle.segment_code.specs.declared.step.Step.TheVariants.{More, Done, Fault}

-- it is inside a step: the segment's stream has a start, and maybe no MCU is left
pub record IsWithin (d : DecoderSeen) (s : SegmentFields) (left : ℕ) (at : Progress)
    : Type 0 where
  pub holds : HoldsSegment d s left at
  pub started : d.started ≡ true
  pub starts_is : starts s.stream ≡ true
  pub decoded : HasDecoded d s at

-- the next MCU's bytes were appended, or there are none for this cause
abbrev pub McuIsMade : {A : Type 0} → SegmentFields → ℕ → Progress → List ℕ
    → Result A StreamCause → DecoderSeen → List ℕ → Type 0
McuIsMade s left at out (Ok done) new out_new =
    (bytes : List ℕ) × (next : Progress) × (mcu_step s at ≡ Ok (bytes, next))
    × (out_new ≡ out ++ bytes) × IsWithin new s (left - 1) next
McuIsMade s left at out (Err cause) new out_new =
    (mcu_step s at ≡ Err cause) × (out_new ≡ out)

-- whether another MCU is to be made: one is left, and any one has room
abbrev pub goes_on : ℕ → List ℕ → Bool
goes_on left out = nat_lt 0 left && not (nat_lt piece_room (length out + mcu_room))

-- a piece of `most` MCUs at most has these bytes so far
pub record IsBegunPiece (s : SegmentFields) (most : ℕ) (at : Progress) (out : List ℕ)
    (new : DecoderSeen) : Type 0 where
  pub left : ℕ
  pub now : Progress
  pub stands : IsWithin new s left now
  pub bytes : piece most s at 0 ≡ made_with_prefix out (piece left s now (length out))

-- whole MCUs were made, up to the piece's end or the first cause why there are no more
abbrev pub IsFilled : {A : Type 0} → Result A StreamCause → SegmentFields → ℕ → Progress
    → List ℕ → DecoderSeen → Type 0
IsFilled (Ok done) s most at out new = IsBegunPiece s most at out new
IsFilled (Err cause) s most at out new =
    piece most s at 0 ≡ AllOf (with_prefix out (stopped s cause))

-- where a next segment starts from something else than what was found
abbrev pub seam_in : HandoverFields → Option HandoverFields → Option StreamCause
seam_in found None = None
seam_in found (Some kept) =
    if bytes_eq (handover_bytes found) (handover_bytes kept) then None else Some (Seam found kept)

-- where places are kept for another number of bytes than was found
abbrev pub misplaced_in : ℕ → Option ℕ → Option StreamCause
misplaced_in found None = None
misplaced_in found (Some kept) = if found == kept then None else Some (PlaceBad found kept)

-- how a segment ends by the cause found at its end
abbrev pub ended_by : SegmentFields → Progress → Option StreamCause → Output
ended_by s at None = ([], Good at.padded)
ended_by s at (Some cause) = stopped s cause

-- after the last MCU a step gives no bytes more
abbrev pub IsEnd : Step → Output → Type 0
IsEnd More output = ⊥
IsEnd (Done pads) output = output ≡ ([], Good pads)
IsEnd (Fault fault) output = output ≡ ([], Bad fault)
