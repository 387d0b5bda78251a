-- How a segment ends after its last MCU.
use Rattle.std.proofs.Common.{◌≡◌, ℕ, Bool, true, false, if◌then◌else◌, List, [], refl, sym, ap, ap₂, subst, ◌∙◌, add-zero}
use Rattle.std.specs.Prelude.{◌==◌, ◌↔◌, IsTrue, bytes_eq, Option, Some, None, is_some}
use Rattle.std.proofs.lemmas.Slice.Eq.{bytes_eq-Decides}
use Rattle.bool_coder.specs.DecoderSeen.{Reads}
use Rattle.bool_coder.specs.BoolStream.{coded, stream}
use Rattle.adapt_bins.specs.Events.{bools_of}
use Rattle.handover.specs.Handovers.{HandoverFields}
use Rattle.handover.specs.HandoverBytes.{handover_bytes}
use Rattle.handover.specs.declared.outcome.Outcome.TheVariants.{Good, Bad}
use Rattle.handover.specs.declared.outcome.Outcome.{Outcome}
use Rattle.handover.specs.declared.outcome.StreamCause.{StreamCause}
use Rattle.handover.specs.declared.outcome.StreamCause.TheVariants.{Seam, StreamBad, PlaceBad}
use Rattle.cut_spec.specs.RowHandovers.{handover_of}
use Rattle.block_spec.specs.SegmentEvents.{segment_events}
use Rattle.container_spec.specs.ScanStream.{blocks_stream}
use Rattle.container_spec.specs.Segments.{SegmentFields, Progress, Output, stopped, stream_ending, seam_ending, ending, placed_ending, with_place}
use Rattle.segment_code.specs.Decoding.{DecoderSeen}
use Rattle.segment_code.specs.DecodedPieces.{IsWithin, seam_in, misplaced_in, ended_by}

same_tests : (t u : Bool) → (IsTrue t → IsTrue u) → (IsTrue u → IsTrue t) → t ≡ u
same_tests true u h k = sym (h refl)
same_tests false true h k = k refl
same_tests false false h k = refl

-- ---- the seam

seam_by : (t : Bool) (s : SegmentFields) (cause other : StreamCause) (output : Output)
    → (if t then None else Some cause) ≡ Some other
    → (if t then output else stopped s cause) ≡ stopped s other
seam_by true s cause other output e = cc
seam_by false s cause other output e = ap (stopped s) (let same : cause ≡ other = cc in same)

seam_ends : (s : SegmentFields) (at : Progress) (found : HandoverFields)
    (next : Option HandoverFields) (cause : StreamCause) → seam_in found next ≡ Some cause
    → seam_ending s at found next ≡ stopped s cause
seam_ends s at found None cause e = cc
seam_ends s at found (Some kept) cause e =
    seam_by (bytes_eq (handover_bytes found) (handover_bytes kept)) s (Seam found kept) cause
    (stream_ending s at) e

none_by : (t : Bool) (cause : StreamCause) (output other : Output)
    → (if t then None else Some cause) ≡ None → (if t then output else other) ≡ output
none_by true cause output other e = refl
none_by false cause output other e = cc

no_seam : (s : SegmentFields) (at : Progress) (found : HandoverFields)
    (next : Option HandoverFields) → seam_in found next ≡ None
    → seam_ending s at found next ≡ stream_ending s at
no_seam s at found None e = refl
no_seam s at found (Some kept) e =
    none_by (bytes_eq (handover_bytes found) (handover_bytes kept)) (Seam found kept)
    (stream_ending s at) (stopped s (Seam found kept)) e

-- ---- the stream

-- whether the bytes are the stream of the bools that were read
abbrev pub TellsExact : Bool → List ℕ → List (ℕ × Bool) → Type 0
TellsExact t bytes bools = IsTrue t ↔ (bytes ≡ stream (coded bools))

-- a decoder's bytes are the stream of its blocks where the test says so
stream_told : (d : DecoderSeen) (s : SegmentFields) (left : ℕ) (at : Progress) (t : Bool)
    → IsWithin d s left at
    → ((bools : List (ℕ × Bool)) → Reads bools d.coder.decoder
    → TellsExact t d.coder.decoder.bytes bools)
    → bytes_eq (blocks_stream s.grid at.blocks) s.stream ≡ t
unfolding blocks_stream
stream_told d s left at t is tells =
    let decoded = is.decoded in
    let got = decoded.got in
    let bools = bools_of (segment_events s.grid at.blocks) in
    let theirs = stream (coded bools) in
    let told = subst (λ (l : List ℕ). TellsExact t l bools) got.source (tells bools got.reads) in
    let decides = bytes_eq-Decides theirs s.stream in
    same_tests (bytes_eq theirs s.stream) t (λ same. told.1 (sym (decides.0 same)))
    (λ exact. decides.1 (sym (told.0 exact)))

-- ---- both

found_same : (d : DecoderSeen) (s : SegmentFields) (left : ℕ) (at : Progress)
    → IsWithin d s left at
    → ending s at ≡ seam_ending s at (handover_of d.writer.shape d.writer.spot) d.next
unfolding ending
found_same d s left at is =
    ap₂ (λ (h : HandoverFields) (next : Option HandoverFields). seam_ending s at h next)
    (ap₂ handover_of (sym is.holds.shape) (sym is.holds.spot)) (sym is.holds.next)

-- no cause was found
pub no_cause : (a b : Option StreamCause) → b ≡ a → is_some a ≡ false → b ≡ None
no_cause None b e none = e
no_cause (Some cause) b e none = cc

-- the next segment's start is another one
pub ends_with_seam : (d : DecoderSeen) (s : SegmentFields) (left : ℕ) (at : Progress)
    (cause : Option StreamCause) → IsWithin d s left at
    → seam_in (handover_of d.writer.shape d.writer.spot) d.next ≡ cause
    → is_some cause ≡ true → with_place s d.given (ending s at) ≡ ended_by s at cause
ends_with_seam d s left at None is e some = cc
ends_with_seam d s left at (Some cause) is e some =
    ap (with_place s d.given) (found_same d s left at is ∙ seam_ends s at _ d.next cause e)

abbrev ended_exactly : SegmentFields → Progress → Bool → Output
ended_exactly s at t = if t then ([], Good at.padded) else stopped s StreamBad

-- the decoder tells whether the bytes are the stream, where no other start is next
pub record IsTold (d : DecoderSeen) (test : Bool) : Type 0 where
  pub same : seam_in (handover_of d.writer.shape d.writer.spot) d.next ≡ None
  pub tells : (bools : List (ℕ × Bool)) → Reads bools d.coder.decoder
      → TellsExact test d.coder.decoder.bytes bools

ends_exactly : (d : DecoderSeen) (s : SegmentFields) (left : ℕ) (at : Progress) (test t : Bool)
    → IsWithin d s left at → IsTold d test → test ≡ t → ending s at ≡ ended_exactly s at t
ends_exactly d s left at test t is told same =
    found_same d s left at is ∙ no_seam s at _ d.next told.same
    ∙ ap (ended_exactly s at) (stream_told d s left at test is told.tells ∙ same)

-- the stream is another one
pub ends_with_stream : (d : DecoderSeen) (s : SegmentFields) (left : ℕ) (at : Progress)
    (test : Bool) → IsWithin d s left at → IsTold d test → test ≡ false
    → with_place s d.given (ending s at) ≡ ended_by s at (Some StreamBad)
ends_with_stream d s left at test is told other =
    ap (with_place s d.given) (ends_exactly d s left at test false is told other)

-- ---- the places

-- no bytes more
abbrev no_bytes : Outcome → Output
no_bytes outcome = ([], outcome)

place_by : (t : Bool) (s : SegmentFields) (at : Progress) (cause : StreamCause)
    → no_bytes (if t then Good at.padded else Bad (record { segment = s.number; cause = cause }))
    ≡ ended_by s at (if t then None else Some cause)
place_by true s at cause = refl
place_by false s at cause = refl

place_ends : (s : SegmentFields) (at : Progress) (found : ℕ) (kept : Option ℕ)
    → no_bytes (placed_ending s found at.padded kept)
    ≡ ended_by s at (misplaced_in found kept)
place_ends s at found None = refl
place_ends s at found (Some kept) = place_by (found == kept) s at (PlaceBad found kept)

-- and else the places
pub ends_with_place : (d : DecoderSeen) (s : SegmentFields) (left : ℕ) (at : Progress)
    (test : Bool) (cause : Option StreamCause) → IsWithin d s left at → IsTold d test → test ≡ true
    → cause ≡ misplaced_in d.given d.kept
    → with_place s d.given (ending s at) ≡ ended_by s at cause
ends_with_place d s left at test cause is told exact found =
    ap (with_place s d.given) (ends_exactly d s left at test true is told exact)
    ∙ ap (λ (n : ℕ). no_bytes (placed_ending s n at.padded s.kept)) (add-zero d.given)
    ∙ place_ends s at d.given s.kept
    ∙ ap (λ (kept : Option ℕ). ended_by s at (misplaced_in d.given kept)) (sym is.holds.kept)
    ∙ ap (ended_by s at) (sym found)
