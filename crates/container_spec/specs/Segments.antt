-- Statement: what a segment's stream stands for: bytes of the scan, and how it ends (docs/FORMAT.md, What a container
-- stands for).
use Rattle.std.specs.Prelude.{ℕ, zero, suc, ◌+◌, ◌==◌, if◌then◌else◌, List, [], ◌++◌, length, ℤ, bytes_eq, Option, Some, None, Result, Ok, Err}
use Rattle.scan_spec.specs.Slots.{Shape}
use Rattle.scan_spec.specs.Scans.{Mcu}
use Rattle.scan_spec.specs.Spots.{Spot, mcu_put}
use Rattle.scan_spec.specs.Pads.{PadBits, bit_for, padded_after}
use Rattle.scan_spec.specs.declared.stop.WriteStop.{WriteStop}
use Rattle.scan_spec.specs.declared.stop.WriteStop.TheVariants as stops
use Rattle.handover.specs.Handovers.{HandoverFields}
use Rattle.handover.specs.HandoverBytes.{handover_bytes}
use Rattle.handover.specs.PadSums.{no_pads}
use Rattle.handover.specs.declared.pads.PadSum.{PadSum}
use Rattle.handover.specs.declared.outcome.StreamCause.{StreamCause}
use Rattle.handover.specs.declared.outcome.StreamCause.TheVariants.{BlockCount, DcRange, DiffRange, NoCode, Seam, StreamBad, PlaceBad}
use Rattle.handover.specs.declared.outcome.Outcome.{Outcome}
use Rattle.handover.specs.declared.outcome.Outcome.TheVariants.{Good, Bad}
use Rattle.cut_spec.specs.RowHandovers.{handover_of, spot_of}
use Rattle.block_spec.specs.Grid.{Grid}
use Rattle.block_spec.specs.declared.fault.BlockFault.{BlockFault}
use Rattle.block_spec.specs.declared.fault.BlockFault.TheVariants as faults
use Rattle.block_spec.specs.BlockReading.{and_then, blocks_read}
use Rattle.container_spec.specs.ScanStream.{blocks_stream, starts}

-- a segment: its number, the scan's shape and grid, the pad bits of the intervals, the stream, what it starts from, how
-- many MCUs come before it and how many it has, what the next segment starts from, if there is one, and how many places
-- are kept for its bytes, if any are
pub record SegmentFields : Type 0 where
  pub number : ℕ
  pub shape : Shape
  pub grid : Grid
  pub pads : PadBits
  pub stream : List ℕ
  pub start : HandoverFields
  pub from : ℕ
  pub count : ℕ
  pub next : Option HandoverFields
  pub kept : Option ℕ

-- between two MCUs: the segment's blocks so far, where its bytes leave off, and what was padded
pub record Progress : Type 0 where
  pub blocks : List (List ℤ)
  pub spot : Spot
  pub padded : PadSum

-- before the first MCU
abbrev pub first_progress : SegmentFields → Progress
first_progress s = record { blocks = []; spot = spot_of s.start s.from; padded = no_pads }

-- the cause of a fault in reading blocks
abbrev pub fault_cause : {A : Type 0} → Result A BlockFault → Result A StreamCause
fault_cause (Ok x) = Ok x
fault_cause (Err faults.BlockCount) = Err BlockCount
fault_cause (Err faults.DcRange) = Err DcRange

-- the cause of a stop in writing them
abbrev pub stop_cause : {A : Type 0} → Result A WriteStop → Result A StreamCause
stop_cause (Ok x) = Ok x
stop_cause (Err stops.NoCode) = Err NoCode
stop_cause (Err stops.DiffRange) = Err DiffRange

-- after one more MCU
abbrev pub progress_after : SegmentFields → Progress → Mcu → Spot → Progress
progress_after s at mcu spot =
    let padded = padded_after s.shape s.pads at.spot mcu at.padded in
    record { blocks = at.blocks ++ mcu; spot = spot; padded = padded }

-- the next MCU's bytes: all its blocks are read, and then it is written; the first that fails is the cause
unfoldable pub mcu_step : SegmentFields → Progress → Result (List ℕ × Progress) StreamCause
mcu_step s at =
    and_then (fault_cause (blocks_read s.grid s.stream at.blocks (length s.shape.slots)))
    (λ mcu. and_then (stop_cause (mcu_put s.shape (bit_for s.pads) at.spot mcu))
    (λ put. Ok (put.0, progress_after s at mcu put.1)))

-- bytes, and how the segment ends after them
abbrev pub Output : Type 0
Output = List ℕ × Outcome

-- no more bytes, and a fault
abbrev pub stopped : SegmentFields → StreamCause → Output
stopped s cause = ([], Bad (record { segment = s.number; cause = cause }))

-- bytes before those of an output
abbrev pub with_prefix : List ℕ → Output → Output
with_prefix prefix output = (prefix ++ output.0, output.1)

-- after the last MCU, where the handover reached is the one kept: the stream has to be the one of the blocks
abbrev pub stream_ending : SegmentFields → Progress → Output
stream_ending s at =
    if bytes_eq (blocks_stream s.grid at.blocks) s.stream then ([], Good at.padded)
    else stopped s StreamBad

-- after the last MCU: the next segment has to start from what was reached
abbrev pub seam_ending : SegmentFields → Progress → HandoverFields → Option HandoverFields → Output
seam_ending s at found None = stream_ending s at
seam_ending s at found (Some kept) =
    if bytes_eq (handover_bytes found) (handover_bytes kept) then stream_ending s at
    else stopped s (Seam found kept)

-- after the last MCU
unfoldable pub ending : SegmentFields → Progress → Output
ending s at = seam_ending s at (handover_of s.shape at.spot) s.next

-- what comes of an MCU's step
abbrev pub after_step : SegmentFields → Result (List ℕ × Progress) StreamCause
    → (Progress → Output) → Output
after_step s (Ok made) rest = with_prefix made.0 (rest made.1)
after_step s (Err cause) rest = stopped s cause

-- the output of the `left` MCUs that are left
unfoldable pub mcus_output : ℕ → SegmentFields → Progress → Output
mcus_output zero s at = ending s at
mcus_output (suc left) s at = after_step s (mcu_step s at) (λ next. mcus_output left s next)

-- the same, or nothing where the stream has no start
abbrev pub rest_output : ℕ → SegmentFields → Progress → Output
rest_output left s at = if starts s.stream then mcus_output left s at else stopped s StreamBad

-- how a segment of so many bytes ends whose stream ends well: if places are kept for its bytes, they have to be as many
abbrev pub placed_ending : SegmentFields → ℕ → PadSum → Option ℕ → Outcome
placed_ending s found padded None = Good padded
placed_ending s found padded (Some kept) =
    if found == kept then Good padded
    else Bad (record { segment = s.number; cause = PlaceBad found kept })

-- an output that ends so, after `before` bytes of its segment
abbrev pub with_place : SegmentFields → ℕ → Output → Output
with_place s before (bytes, Good padded) =
    (bytes, placed_ending s (before + length bytes) padded s.kept)
with_place s before (bytes, Bad fault) = (bytes, Bad fault)

-- a segment's bytes and its outcome
abbrev pub segment_output : SegmentFields → Output
segment_output s = with_place s 0 (rest_output s.count s (first_progress s))
