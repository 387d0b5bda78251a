-- The places of a container whose segments end well: each is after the bytes of the segments before.
use Rattle.std.proofs.Common.{◌≡◌, ℕ, zero, suc, ◌+◌, ◌-◌, ◌<◌, ◌≤◌, not, nat_lt, List, [], ◌∷◌, ◌++◌, length, map, true, Some, None, ap, subst, arith, length-append}
use Rattle.std.specs.Prelude.{slice_index}
use Rattle.std.proofs.lemmas.Bool.{and_parts, not-true, ltb-false}
use Rattle.std.specs.List.{range_with_len}
use Rattle.jpeg_marker.specs.Plans.{PlanFields}
use Rattle.handover.specs.declared.outcome.Outcome.{Outcome}
use Rattle.handover.specs.declared.outcome.Outcome.TheVariants.{Good}
use Rattle.handover.specs.declared.pads.PadSum.{PadSum}
use Rattle.box_format.specs.Parts.{BoxParts, ArePlaces, are_rising}
use Rattle.container_spec.specs.Segments.{Output, segment_output}
use Rattle.container_spec.specs.SegmentLaws.{AreKept}
use Rattle.container_spec.proofs.JoinedSegments.{Joined, joined_with, joined}
use Rattle.container_spec.specs.Meanings.{segment_in, kept_in}
use Rattle.container_spec.proofs.PlacesKept.{good_has_its_places}
use Rattle.container_spec.proofs.ReachedSegments.{first_good}

-- a place isn't below the one before
rising_at : (places : List ℕ) (i : ℕ) → are_rising places ≡ true → i + 1 < length places
    → slice_index places i ≤ slice_index places (i + 1)
rising_at [] i up below = absurd (omega (arith, below))
rising_at (p ∷ []) i up below = absurd (omega (arith, below))
rising_at (p ∷ q ∷ places) zero up below =
    let parts = and_parts (not (nat_lt q p)) (are_rising (q ∷ places)) up in
    ltb-false q p (not-true (nat_lt q p) parts.0)
rising_at (p ∷ q ∷ places) (suc i) up below =
    let parts = and_parts (not (nat_lt q p)) (are_rising (q ∷ places)) up in
    let e : suc (i + 1) ≡ suc i + 1 = omega arith in
    subst (λ n. slice_index (q ∷ places) i ≤ slice_index (p ∷ q ∷ places) n) e
    (rising_at (q ∷ places) i parts.1 (omega (arith, below)))

-- places that rise by as many bytes as each segment has that ends well
module _ (output : ℕ → Output) (places : List ℕ) (up : are_rising places ≡ true)
    (kept : (i : ℕ) (bytes : List ℕ) (padded : PadSum) → output i ≡ (bytes, Good padded)
    → length bytes ≡ slice_index places (i + 1) - slice_index places i) where
  abbrev all_from : ℕ → ℕ → Joined
  all_from i count = joined (map output (range_with_len i count))

  -- if `count` segments from segment i on end well, those before the k-th of them have the bytes between two places
  place_after : (count k i : ℕ) → k ≤ count → i + count < length places
      → (all_from i count).fault ≡ None
      → slice_index places (i + k) ≡ slice_index places i + length (all_from i k).bytes
  place_after count zero i few within none =
      let e : i + 0 ≡ i = omega arith in
      let same = ap (slice_index places) e in omega (arith, same)
  place_after zero (suc k) i few within none = absurd (omega (arith, few))
  place_after (suc count) (suc k) i few within none =
      let o = output i in
      let first = first_good o.0 o.1 (all_from (i + 1) count) none in
      let ends : output i ≡ (o.0, Good first.padded) =
      ap (λ (x : Outcome). let made : Output = (o.0, x) in made) first.outcome in
      let long = kept i o.0 first.padded ends in
      let order = rising_at places i up (omega (arith, within)) in
      let rest = place_after count k (i + 1) (omega (arith, few)) (omega (arith, within)) first.rest in
      let all : length (all_from i (suc k)).bytes ≡ length (o.0 ++ (all_from (i + 1) k).bytes) =
      ap (λ (x : Outcome). length (joined_with o.0 x (all_from (i + 1) k)).bytes) first.outcome in
      let parts = length-append o.0 (all_from (i + 1) k).bytes in
      let e : (i + 1) + k ≡ i + suc k = omega arith in
      let there = ap (slice_index places) e in
      omega (arith, long, order, rest, all, parts, there)

-- of a container
pub place_is : (plan : PlanFields) (b : BoxParts) (places : List ℕ) (header segments k : ℕ)
    → b.places ≡ Some places → ArePlaces header segments places → k ≤ segments
    → (joined (map (λ i. segment_output (segment_in plan b i)) (range_with_len 0 segments))).fault ≡ None
    → slice_index places k
    ≡ header
    + length (joined (map (λ i. segment_output (segment_in plan b i)) (range_with_len 0 k))).bytes
place_is plan b places header segments k some are few none =
    let output : ℕ → Output = λ i. segment_output (segment_in plan b i) in
    let count = are.count in
    let first = are.first in
    let e : 0 + k ≡ k = omega arith in
    let there = ap (slice_index places) e in
    let after =
    place_after output places are.rising
    (λ i bytes padded ends. subst (λ p. AreKept bytes (kept_in p i)) some
    (good_has_its_places (segment_in plan b i) bytes padded ends))
    segments k 0 few (omega (arith, count)) none in
    omega (arith, first, there, after)
