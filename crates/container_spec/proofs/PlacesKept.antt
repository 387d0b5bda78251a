-- Segments with places kept for their bytes.
use Rattle.std.proofs.Common.{◌≡◌, ℕ, ◌+◌, Bool, true, false, if◌then◌else◌, List, ◌++◌, length, Option, Some, None, refl, sym, ap, ap₂, subst, ◌∙◌, arith, length-append, zero-add}
use Rattle.std.specs.Prelude.{◌==◌}
use Rattle.std.proofs.lemmas.Bool.{eq-eqb, eqb-true}
use Rattle.handover.specs.declared.pads.PadSum.{PadSum}
use Rattle.handover.specs.declared.outcome.Outcome.{Outcome}
use Rattle.handover.specs.declared.outcome.Outcome.TheVariants.{Good, Bad}
use Rattle.handover.specs.declared.outcome.StreamCause.TheVariants.{PlaceBad}
use Rattle.handover.specs.declared.outcome.StreamFault.{StreamFault}
use Rattle.container_spec.specs.Segments.{SegmentFields, Output, first_progress, with_prefix, placed_ending, rest_output, with_place}
use Rattle.container_spec.specs.SegmentLaws.{AreKept, GoodHasItsPlaces}

-- if places are kept, they are N
abbrev pub AreMany : ℕ → Option ℕ → Type 0
AreMany found None = Unit {0}
AreMany found (Some kept) = found ≡ kept

-- places for all bytes of a segment
pub all_kept : (bytes : List ℕ) (kept : Option ℕ) → AreKept bytes kept
    → AreMany (0 + length bytes) kept
all_kept bytes None are = tt
all_kept bytes (Some kept) are = zero-add (length bytes) ∙ are

-- ---- bytes

-- they are the same, however many places are kept
pub place_keeps_bytes : (s : SegmentFields) (before : ℕ) (output : Output)
    → (with_place s before output).0 ≡ output.0
place_keeps_bytes s before (bytes, Good padded) = refl
place_keeps_bytes s before (bytes, Bad fault) = refl

-- a prefix counts among the bytes before
pub place_after_prefix : (s : SegmentFields) (before : ℕ) (prefix : List ℕ) (output : Output)
    → with_place s before (with_prefix prefix output)
    ≡ with_prefix prefix (with_place s (before + length prefix) output)
place_after_prefix s before prefix (bytes, Good padded) =
    let all = length-append prefix bytes in
    let same : before + length (prefix ++ bytes) ≡ (before + length prefix) + length bytes =
    omega (arith, all) in
    ap (λ (n : ℕ). let o : Output = (prefix ++ bytes, placed_ending s n padded s.kept) in o) same
place_after_prefix s before prefix (bytes, Bad fault) = refl

-- ---- a good end

good_by : (t : Bool) (given padded : PadSum) (fault : StreamFault)
    → (if t then Good given else Bad fault) ≡ Good padded → (t ≡ true) × (given ≡ padded)
good_by true given padded fault e = (refl, cc)
good_by false given padded fault e = absurd cc

many_if_good : (s : SegmentFields) (found : ℕ) (given padded : PadSum) (kept : Option ℕ)
    → placed_ending s found given kept ≡ Good padded → (given ≡ padded) × AreMany found kept
many_if_good s found given padded None e = (cc, tt)
many_if_good s found given padded (Some kept) e =
    let by =
    good_by (found == kept) given padded
    (record { segment = s.number; cause = PlaceBad found kept }) e in
    (by.1, eqb-true found kept by.0)

-- an output that ends well has as many bytes as places, and ends well without them
pub good_with_place : (s : SegmentFields) (before : ℕ) (output : Output) (bytes : List ℕ)
    (padded : PadSum) → with_place s before output ≡ (bytes, Good padded)
    → (output ≡ (bytes, Good padded)) × AreMany (before + length bytes) s.kept
good_with_place s before (made, Good given) bytes padded e =
    let same = ap (λ (o : Output). o.0) e in
    let ends =
    many_if_good s (before + length made) given padded s.kept (ap (λ (o : Output). o.1) e) in (
      ap₂ (λ (l : List ℕ) (p : PadSum). let o : Output = (l, Good p) in o) same ends.0,
      subst (λ (l : List ℕ). AreMany (before + length l) s.kept) same ends.1,
    )
good_with_place s before (made, Bad fault) bytes padded e =
    absurd (let f = ap (λ (o : Output). o.1) e in cc)

chosen : (t : Bool) (a b : Outcome) → t ≡ true → (if t then a else b) ≡ a
chosen true a b e = refl
chosen false a b e = cc

good_if_many : (s : SegmentFields) (found : ℕ) (padded : PadSum) (kept : Option ℕ)
    → AreMany found kept → placed_ending s found padded kept ≡ Good padded
good_if_many s found padded None are = refl
good_if_many s found padded (Some kept) are =
    chosen (found == kept) (Good padded) _ (eq-eqb found kept are)

-- with as many places as bytes it stays
pub place_is_good : (s : SegmentFields) (before : ℕ) (bytes : List ℕ) (padded : PadSum)
    → AreMany (before + length bytes) s.kept
    → with_place s before (bytes, Good padded) ≡ (bytes, Good padded)
place_is_good s before bytes padded are =
    ap (λ (o : Outcome). let output : Output = (bytes, o) in output)
    (good_if_many s (before + length bytes) padded s.kept are)

-- ---- segments

are_kept_by : (found : ℕ) (bytes : List ℕ) (kept : Option ℕ) → found ≡ length bytes
    → AreMany found kept → AreKept bytes kept
are_kept_by found bytes None e are = tt
are_kept_by found bytes (Some kept) e are = sym e ∙ are

pub good_has_its_places : GoodHasItsPlaces
good_has_its_places s bytes padded e =
    are_kept_by (0 + length bytes) bytes s.kept (zero-add (length bytes))
    (good_with_place s 0 (rest_output s.count s (first_progress s)) bytes padded e).1
