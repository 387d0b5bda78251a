-- Steps: a decoder of segments, the segment that it holds, and what its steps give (own).
use Rattle.std.specs.Prelude.{ℕ, ◌≡◌, ◌+◌, ◌<◌, ◌≤◌, Bool, true, false, List, ◌++◌, length, Option, None}
use Rattle.jpeg_marker.specs.Plans.{PlanFields}
use Rattle.scan_spec.specs.ScanCalls.{ScanWriter}
use Rattle.handover.specs.Handovers.{HandoverFields}
use Rattle.handover.specs.declared.outcome.Outcome.{Outcome}
use Rattle.handover.specs.declared.outcome.Outcome.TheVariants.{Good, Bad}
use Rattle.adapt_bins.specs.GotEvents.{HasGot}
use Rattle.adapt_bins.specs.declared.get.Get.{Get}
use Rattle.block_spec.specs.SegmentEvents.{segment_events}
use Rattle.block_code.specs.SegmentUnderWay.{UnderWay, HoldsUpTo}
use Rattle.block_spec.specs.ReadingLaws.{HaveGiven}
use Rattle.container_spec.specs.ScanStream.{starts}
use Rattle.container_spec.specs.Segments.{SegmentFields, Progress, rest_output, with_place}
use Rattle.container_spec.specs.SegmentLaws.{Suits}
use Rattle.segment_code.specs.Pieces.{Made, SomeOf, AllOf, next_piece}
use Rattle.segment_code.specs.declared.step.Step.{Step}
use Rattle.segment_code.specs.declared.step.Step.TheVariants.{More, Done, Fault}

-- a decoder: the plan that it was made for, how many segments it began, whether one is under way; of that its number,
-- how many of its MCUs are left, what the next one starts from, how many places are kept for its bytes, if any are, how
-- many bytes it has given, whether its stream has a start; and the bins with the stream's decoder, the rows of blocks,
-- and the writer of its bytes
pub record DecoderSeen : Type 0 where
  pub plan : PlanFields
  pub begun : ℕ
  pub running : Bool
  pub number : ℕ
  pub left : ℕ
  pub next : Option HandoverFields
  pub kept : Option ℕ
  pub given : ℕ
  pub started : Bool
  pub coder : Get
  pub segment : UnderWay
  pub writer : ScanWriter

-- its bins, rows and stream's decoder are those after a segment's blocks so far
pub record HasDecoded (d : DecoderSeen) (s : SegmentFields) (at : Progress) : Type 0 where
  pub given : HaveGiven s.grid s.stream at.blocks
  pub got : HasGot d.coder s.stream (segment_events s.grid at.blocks)
  pub grid : d.segment.grid ≡ s.grid
  pub held : HoldsUpTo d.segment at.blocks

-- it holds a segment of which N MCUs are left: its fields are the segment's, and its writer is where the progress is
pub record HoldsSegment (d : DecoderSeen) (s : SegmentFields) (left : ℕ) (at : Progress)
    : Type 0 where
  pub running : d.running ≡ true
  pub within : at.spot.count + left ≤ s.shape.mcus
  pub suits : Suits s.shape s.grid
  pub number : d.number ≡ s.number
  pub still : d.left ≡ left
  pub next : d.next ≡ s.next
  pub kept : d.kept ≡ s.kept
  pub shape : d.writer.shape ≡ s.shape
  pub pads : d.writer.pads ≡ s.pads
  pub spot : d.writer.spot ≡ at.spot
  pub padded : d.writer.padded ≡ at.padded
  pub unstopped : d.writer.stop ≡ None

-- it is between two steps of a segment: MCUs are left, and if its stream has a start, the blocks so far are decoded
pub record StandsAt (d : DecoderSeen) (s : SegmentFields) (left : ℕ) (at : Progress)
    : Type 0 where
  pub holds : HoldsSegment d s left at
  pub some : 0 < left
  pub started : d.started ≡ starts s.stream
  pub decoded : d.started ≡ true → HasDecoded d s at

-- it still owes these bytes and this outcome: all that a caller needs to know
pub record Owes (d : DecoderSeen) (bytes : List ℕ) (outcome : Outcome) : Type 0 where
  pub segment : SegmentFields
  pub left : ℕ
  pub at : Progress
  pub stands : StandsAt d segment left at
  pub rest : with_place segment d.given (rest_output left segment at) ≡ (bytes, outcome)

-- what a step gave of the bytes and the outcome that it owed
abbrev pub Pays : Step → List ℕ → Outcome → List ℕ → DecoderSeen → DecoderSeen → Type 0
Pays More bytes outcome out old new =
    (more : List ℕ) × (bytes ≡ out ++ more) × (new.left < old.left) × (0 < new.left)
    × (new.running ≡ true) × Owes new more outcome
Pays (Done pads) bytes outcome out old new =
    (bytes ≡ out) × (outcome ≡ Good pads) × (new.running ≡ false)
Pays (Fault fault) bytes outcome out old new =
    (bytes ≡ out) × (outcome ≡ Bad fault) × (new.running ≡ false)

-- a step gave exactly this piece, after so many bytes of the segment
abbrev pub IsStep : Step → SegmentFields → ℕ → Made → List ℕ → DecoderSeen → Type 0
IsStep More s given (SomeOf bytes left at) out new =
    (out ≡ bytes) × (new.given ≡ given + length bytes) × StandsAt new s left at
IsStep More s given (AllOf output) out new = ⊥
IsStep (Done pads) s given (SomeOf bytes left at) out new = ⊥
IsStep (Done pads) s given (AllOf output) out new =
    (with_place s given output ≡ (out, Good pads)) × (new.running ≡ false)
IsStep (Fault fault) s given (SomeOf bytes left at) out new = ⊥
IsStep (Fault fault) s given (AllOf output) out new =
    (with_place s given output ≡ (out, Bad fault)) × (new.running ≡ false)

-- what a step does, whichever segment the decoder holds
abbrev pub Steps : Step → List ℕ → DecoderSeen → DecoderSeen → Type 0
Steps step out old new =
    (s : SegmentFields) (left : ℕ) (at : Progress) → StandsAt old s left at
    → IsStep step s old.given (next_piece left s at) out new

-- so it pays what it owes
abbrev pub StepPays : Type 0
StepPays =
    (step : Step) (out bytes : List ℕ) (outcome : Outcome) (old new : DecoderSeen)
    → Steps step out old new → Owes old bytes outcome → Pays step bytes outcome out old new
