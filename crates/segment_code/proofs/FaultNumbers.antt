-- A segment's fault has the segment's number.
use Rattle.std.proofs.Common.{◌≡◌, ℕ, zero, suc, ◌+◌, ◌==◌, Bool, true, false, if◌then◌else◌, List, [], length, Result, Ok, Err, refl, ap}
use Rattle.std.specs.Prelude.{Option, Some, None, bytes_eq}
use Rattle.handover.specs.Handovers.{HandoverFields}
use Rattle.handover.specs.HandoverBytes.{handover_bytes}
use Rattle.handover.specs.declared.pads.PadSum.{PadSum}
use Rattle.handover.specs.declared.outcome.StreamCause.{StreamCause}
use Rattle.handover.specs.declared.outcome.StreamCause.TheVariants.{StreamBad, Seam, PlaceBad}
use Rattle.handover.specs.declared.outcome.Outcome.{Outcome}
use Rattle.handover.specs.declared.outcome.Outcome.TheVariants.{Good, Bad}
use Rattle.cut_spec.specs.RowHandovers.{handover_of}
use Rattle.container_spec.specs.ScanStream.{blocks_stream, starts}
use Rattle.container_spec.specs.Segments.{SegmentFields, Progress, Output, first_progress, stopped, after_step, mcu_step, stream_ending, seam_ending, ending, mcus_output, rest_output, placed_ending, with_place, segment_output}
use Rattle.container_spec.specs.ScansMeanings.{outcome_after}
use Rattle.segment_code.specs.FileDecoding.{numbered}

abbrev HasNumber : ℕ → Outcome → Type 0
HasNumber number (Good padded) = Unit {0}
HasNumber number (Bad fault) = fault.segment ≡ number

either : (t : Bool) (number : ℕ) (a b : Output) → HasNumber number a.1 → HasNumber number b.1
    → HasNumber number (if t then a else b).1
either true number a b h k = h
either false number a b h k = k

of_stream : (s : SegmentFields) (at : Progress) → HasNumber s.number (stream_ending s at).1
of_stream s at =
    either (bytes_eq (blocks_stream s.grid at.blocks) s.stream) s.number ([], Good at.padded)
    (stopped s StreamBad) tt refl

of_ending_by : (s : SegmentFields) (at : Progress) (found : HandoverFields)
    (next : Option HandoverFields) → HasNumber s.number (seam_ending s at found next).1
of_ending_by s at found None = of_stream s at
of_ending_by s at found (Some kept) =
    either (bytes_eq (handover_bytes found) (handover_bytes kept)) s.number (stream_ending s at)
    (stopped s (Seam found kept)) (of_stream s at) refl

of_ending : (s : SegmentFields) (at : Progress) → HasNumber s.number (ending s at).1
unfolding ending
of_ending s at = of_ending_by s at (handover_of s.shape at.spot) s.next

of_step : (s : SegmentFields) (made : Result (List ℕ × Progress) StreamCause)
    (rest : Progress → Output) → ((at : Progress) → HasNumber s.number (rest at).1)
    → HasNumber s.number (after_step s made rest).1
of_step s (Ok made) rest each = each made.1
of_step s (Err cause) rest each = refl

of_mcus : (left : ℕ) (s : SegmentFields) (at : Progress)
    → HasNumber s.number (mcus_output left s at).1
unfolding mcus_output
of_mcus zero s at = of_ending s at
of_mcus (suc left) s at =
    of_step s (mcu_step s at) (λ next. mcus_output left s next) (λ next. of_mcus left s next)

of_place : (s : SegmentFields) (found : ℕ) (padded : PadSum) (kept : Option ℕ)
    → HasNumber s.number (placed_ending s found padded kept)
of_place s found padded None = tt
of_place s found padded (Some kept) = of_test (found == kept)
  where
    of_test : (t : Bool) → HasNumber s.number (if t then Good padded
        else Bad (record { segment = s.number; cause = PlaceBad found kept }))
    of_test true = tt
    of_test false = refl

of_placed : (s : SegmentFields) (before : ℕ) (output : Output) → HasNumber s.number output.1
    → HasNumber s.number (with_place s before output).1
of_placed s before (bytes, Good padded) h = of_place s (before + length bytes) padded s.kept
of_placed s before (bytes, Bad fault) h = h

of_segment : (s : SegmentFields) → HasNumber s.number (segment_output s).1
of_segment s =
    let rest = rest_output s.count s (first_progress s) in
    of_placed s 0 rest
    (either (starts s.stream) s.number (mcus_output s.count s (first_progress s))
    (stopped s StreamBad) (of_mcus s.count s (first_progress s)) refl)

counted_on : (before number : ℕ) (outcome : Outcome) → HasNumber number outcome
    → outcome_after before outcome ≡ numbered (before + number) outcome
counted_on before number (Good padded) h = refl
counted_on before number (Bad fault) h =
    ap (λ (n : ℕ). Bad (record { segment = before + n; cause = fault.cause })) h

-- its number in the file takes that number's place
pub faults_counted_on : (before : ℕ) (s : SegmentFields)
    → outcome_after before (segment_output s).1
    ≡ numbered (before + s.number) (segment_output s).1
faults_counted_on before s = counted_on before s.number (segment_output s).1 (of_segment s)
