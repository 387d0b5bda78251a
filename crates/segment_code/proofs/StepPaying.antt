-- A step pays what the decoder owed.
use Rattle.std.proofs.Common.{◌≡◌, ℕ, zero, suc, ◌+◌, ◌<◌, ◌≤◌, Bool, true, false, if◌then◌else◌, List, [], ◌++◌, length, Result, Ok, Err, refl, sym, ap, ◌∙◌, arith}
use Rattle.std.specs.Prelude.{nat_lt}
use Rattle.bit_list.specs.Pieces.{piece_room}
use Rattle.scan_spec.specs.TextBounds.{mcu_room}
use Rattle.handover.specs.declared.outcome.Outcome.{Outcome}
use Rattle.handover.specs.declared.outcome.StreamCause.{StreamCause}
use Rattle.handover.specs.declared.outcome.StreamCause.TheVariants.{StreamBad}
use Rattle.container_spec.specs.ScanStream.{starts}
use Rattle.container_spec.specs.Segments.{SegmentFields, Progress, Output, stopped, with_prefix, with_place, mcu_step, mcus_output}
use Rattle.container_spec.proofs.PlacesKept.{place_after_prefix}
use Rattle.segment_code.specs.Pieces.{Made, SomeOf, AllOf, made_with_prefix, made_after, piece, next_piece, output_after}
use Rattle.segment_code.proofs.JoinedPieces.{piece_is_prefix}
use Rattle.segment_code.specs.Decoding.{DecoderSeen, Pays, IsStep, StepPays}
use Rattle.segment_code.specs.declared.step.Step.{Step}
use Rattle.segment_code.specs.declared.step.Step.TheVariants.{More, Done, Fault}

-- ---- fewer MCUs are left

abbrev left_in : Made → ℕ
left_in (SomeOf bytes left at) = left
left_in (AllOf output) = 0

prefixed_most : (most : ℕ) (prefix : List ℕ) (made : Made) → left_in made ≤ most
    → left_in (made_with_prefix prefix made) ≤ most
prefixed_most most prefix (SomeOf bytes left at) h = h
prefixed_most most prefix (AllOf output) h = h

step_most : (most : ℕ) (s : SegmentFields) (made : Result (List ℕ × Progress) StreamCause)
    (more : List ℕ × Progress → Made)
    → ((m : List ℕ × Progress) → left_in (more m) ≤ most)
    → left_in (made_after s made more) ≤ most
step_most most s (Ok m) more h = prefixed_most most m.0 (more m) (h m)
step_most most s (Err cause) more h = omega arith

either_most : (t : Bool) (most : ℕ) (a b : Made) → left_in a ≤ most → left_in b ≤ most
    → left_in (if t then a else b) ≤ most
either_most true most a b h k = h
either_most false most a b h k = k

piece_most : (left used : ℕ) (s : SegmentFields) (at : Progress)
    → left_in (piece left s at used) ≤ left
unfolding piece
piece_most zero used s at = omega arith
piece_most (suc left) used s at =
    either_most (nat_lt piece_room (used + mcu_room)) (suc left) (SomeOf [] (suc left) at) _
    (omega arith)
    (step_most (suc left) s (mcu_step s at)
    (λ made. piece left s made.1 (used + length made.0))
    (λ m. let h = piece_most left (used + length m.0) s m.1 in omega (arith, h)))

first_most : (left : ℕ) (s : SegmentFields) (at : Progress)
    → left_in (piece (suc left) s at 0) ≤ left
unfolding piece
first_most left s at =
    step_most left s (mcu_step s at) (λ made. piece left s made.1 (0 + length made.0))
    (λ m. piece_most left (0 + length m.0) s m.1)

fewer : (left : ℕ) (s : SegmentFields) (at : Progress) → 0 < left
    → left_in (piece left s at 0) < left
fewer zero s at h = omega (arith, h)
fewer (suc left) s at h = let f = first_most left s at in omega (arith, f)

-- ---- what is left

abbrev piece_or : Bool → SegmentFields → ℕ → Progress → Made
piece_or t s left at = if t then piece left s at 0 else AllOf (stopped s StreamBad)

abbrev rest_or : Bool → SegmentFields → ℕ → Progress → Output
rest_or t s left at = if t then mcus_output left s at else stopped s StreamBad

abbrev owed : Bool → SegmentFields → Made → Output
owed t s (SomeOf bytes left at) = with_prefix bytes (rest_or t s left at)
owed t s (AllOf output) = output

prefix_owed : (s : SegmentFields) (made : Made) → output_after s made ≡ owed true s made
prefix_owed s (SomeOf bytes left at) = refl
prefix_owed s (AllOf output) = refl

all_owed : (t : Bool) (s : SegmentFields) (left : ℕ) (at : Progress)
    → rest_or t s left at ≡ owed t s (piece_or t s left at)
all_owed true s left at = piece_is_prefix left 0 s at ∙ prefix_owed s (piece left s at 0)
all_owed false s left at = refl

fewer_or : (t : Bool) (s : SegmentFields) (left : ℕ) (at : Progress) → 0 < left
    → left_in (piece_or t s left at) < left
fewer_or true s left at h = fewer left s at h
fewer_or false s left at h = h

-- ---- what a step gave of it

pays_by : (step : Step) (made : Made) (s : SegmentFields) (left : ℕ) (out bytes : List ℕ)
    (outcome : Outcome) (old new : DecoderSeen) → old.left ≡ left → left_in made < left
    → with_place s old.given (owed (starts s.stream) s made) ≡ (bytes, outcome)
    → IsStep step s old.given made out new → Pays step bytes outcome out old new
pays_by More (SomeOf b l a) s left out bytes outcome old new same less is step =
    let rest : Output = rest_or (starts s.stream) s l a in
    let more : Output = with_place s new.given rest in
    let all : with_prefix b more ≡ (bytes, outcome) =
    ap (λ (n : ℕ). with_prefix b (with_place s n rest)) step.1
    ∙ sym (place_after_prefix s old.given b rest) ∙ is in (
      more.0,
      sym (ap (λ (o : Output). o.0) all) ∙ ap (λ (x : List ℕ). x ++ more.0) (sym step.0),
      (let e = step.2.holds.still in omega (arith, e, same, less)),
      (let e = step.2.holds.still in let f = step.2.some in omega (arith, e, f)),
      step.2.holds.running,
      record {
        segment = s;
        left = l;
        at = a;
        stands = step.2;
        rest =
            ap (λ (o : Outcome). let p : Output = (more.0, o) in p)
            (ap (λ (o : Output). o.1) all);
      },
    )
pays_by More (AllOf output) s left out bytes outcome old new same less is step = absurd step
pays_by (Done pads) (SomeOf b l a) s left out bytes outcome old new same less is step =
    absurd step
pays_by (Done pads) (AllOf output) s left out bytes outcome old new same less is step =
    let e = sym is ∙ step.0 in (
      ap (λ (o : Output). o.0) e,
      ap (λ (o : Output). o.1) e,
      step.1,
    )
pays_by (Fault fault) (SomeOf b l a) s left out bytes outcome old new same less is step =
    absurd step
pays_by (Fault fault) (AllOf output) s left out bytes outcome old new same less is step =
    let e = sym is ∙ step.0 in (
      ap (λ (o : Output). o.0) e,
      ap (λ (o : Output). o.1) e,
      step.1,
    )

pub step_pays : StepPays
step_pays step out bytes outcome old new steps owes =
    let s = owes.segment in
    pays_by step (next_piece owes.left s owes.at) s owes.left out bytes outcome old new
    owes.stands.holds.still
    (fewer_or (starts s.stream) s owes.left owes.at owes.stands.some)
    (ap (with_place s old.given) (sym (all_owed (starts s.stream) s owes.left owes.at)) ∙ owes.rest)
    (steps s owes.left owes.at owes.stands)
