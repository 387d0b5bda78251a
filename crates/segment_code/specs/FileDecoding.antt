-- Steps: a decoder of the segments of several scans, what it owes of a segment, and what its steps give (own).
use Rattle.std.specs.Prelude.{ℕ, ◌≡◌, ◌+◌, ◌<◌, Bool, true, false, List, ◌++◌, length, map, slice_get, Option, Some, None}
use Rattle.jpeg_marker.specs.Plans.{PlanFields}
use Rattle.handover.specs.declared.outcome.Outcome.{Outcome}
use Rattle.handover.specs.declared.outcome.Outcome.TheVariants.{Good, Bad}
use Rattle.segment_code.specs.Decoding.{DecoderSeen, Owes}
use Rattle.segment_code.specs.declared.step.Step.{Step}
use Rattle.segment_code.specs.declared.step.Step.TheVariants.{More, Done, Fault}

-- a decoder of several scans: their plans, how many segments it began, whether one is under way; of that the number of
-- its scan, its own number in the container, and what is left of the header before its bytes; and a decoder for each
-- scan
pub record FileDecoderSeen : Type 0 where
  pub plans : List PlanFields
  pub begun : ℕ
  pub running : Bool
  pub scan : ℕ
  pub number : ℕ
  pub lead : List ℕ
  pub decoders : List DecoderSeen

-- what the decoders were made for
abbrev pub plans_of : List DecoderSeen → List PlanFields
plans_of decoders = map (λ d. d.plan) decoders

-- whether a decoder's segment is under way
abbrev pub is_running : Option DecoderSeen → Bool
is_running None = false
is_running (Some d) = d.running

-- how many MCUs are left of it
abbrev pub mcus_left : Option DecoderSeen → ℕ
mcus_left None = 0
mcus_left (Some d) = d.left

-- a decoder of several scans, from its parts
abbrev pub file_seen : List DecoderSeen → ℕ → ℕ → ℕ → List ℕ → FileDecoderSeen
file_seen decoders begun scan number lead = record {
  plans = plans_of decoders;
  begun = begun;
  running = is_running (slice_get decoders scan);
  scan = scan;
  number = number;
  lead = lead;
  decoders = decoders;
}

-- how many steps of the segment are left at most: one for each byte of the header that is left, and for each MCU
abbrev pub steps_left : FileDecoderSeen → ℕ
steps_left d = length d.lead + mcus_left (slice_get d.decoders d.scan)

-- an outcome, with this number for a fault's segment
abbrev pub numbered : ℕ → Outcome → Outcome
numbered number (Good padded) = Good padded
numbered number (Bad fault) = Bad (record { segment = number; cause = fault.cause })

-- a step, with this number for a fault's segment
abbrev pub step_numbered : ℕ → Step → Step
step_numbered number More = More
step_numbered number (Done pads) = Done pads
step_numbered number (Fault fault) = Fault (record { segment = number; cause = fault.cause })

-- the decoder of a scan still owes these bytes and this outcome
pub record ScanOwes (decoders : List DecoderSeen) (scan : ℕ) (bytes : List ℕ) (outcome : Outcome)
    : Type 0 where
  pub decoder : DecoderSeen
  pub there : slice_get decoders scan ≡ Some decoder
  pub owes : Owes decoder bytes outcome

-- it still owes these bytes and this outcome, in some steps: what is left of the header, and what the scan's decoder
-- owes, with the segment's number in the container
pub record FileOwes (d : FileDecoderSeen) (bytes : List ℕ) (outcome : Outcome) : Type 0 where
  pub rest : List ℕ
  pub ending : Outcome
  pub owes : ScanOwes d.decoders d.scan rest ending
  pub bytes_are : bytes ≡ d.lead ++ rest
  pub outcome_is : outcome ≡ numbered d.number ending
  pub some : 0 < steps_left d

-- what a step gave of the bytes and the outcome that it owed
abbrev pub FilePays : Step → List ℕ → Outcome → List ℕ → FileDecoderSeen → FileDecoderSeen
    → Type 0
FilePays More bytes outcome out old new =
    (more : List ℕ) × (bytes ≡ out ++ more) × (steps_left new < steps_left old)
    × (0 < steps_left new) × (new.running ≡ true) × FileOwes new more outcome
FilePays (Done pads) bytes outcome out old new =
    (bytes ≡ out) × (outcome ≡ Good pads) × (new.running ≡ false)
FilePays (Fault fault) bytes outcome out old new =
    (bytes ≡ out) × (outcome ≡ Bad fault) × (new.running ≡ false)

-- what a step of a scan's decoder gave of what that owed
abbrev pub ScanPays : Step → List ℕ → Outcome → List ℕ → List DecoderSeen → List DecoderSeen → ℕ
    → Type 0
ScanPays More bytes outcome out old new scan =
    (more : List ℕ) × (bytes ≡ out ++ more)
    × (mcus_left (slice_get new scan) < mcus_left (slice_get old scan))
    × (0 < mcus_left (slice_get new scan)) × (is_running (slice_get new scan) ≡ true)
    × ScanOwes new scan more outcome
ScanPays (Done pads) bytes outcome out old new scan =
    (bytes ≡ out) × (outcome ≡ Good pads) × (is_running (slice_get new scan) ≡ false)
ScanPays (Fault fault) bytes outcome out old new scan =
    (bytes ≡ out) × (outcome ≡ Bad fault) × (is_running (slice_get new scan) ≡ false)
