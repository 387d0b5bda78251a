-- The places of a container's segments by what they stand for.
use Rattle.std.proofs.Common.{◌≡◌, ℕ, zero, suc, ◌+◌, ◌*◌, ◌^◌, ◌<◌, ◌≤◌, not, ◌&&◌, true, List, [], ◌∷◌, ◌++◌, length, map, None, refl, ap, ◌∙◌, arith, length-append}
use Rattle.std.specs.Prelude.{slice_index}
use Rattle.std.specs.List.{AllByRecursion, range_with_len}
use Rattle.std.proofs.lemmas.Bool.{le-ltb}
use Rattle.std.proofs.lemmas.List.FromFn.{length-map-range_with_len}
use Rattle.jpeg_marker.specs.FirstWalks.{only_walk}
use Rattle.jpeg_marker.specs.Plans.{PlanFields}
use Rattle.handover.specs.declared.outcome.Outcome.{Outcome}
use Rattle.scan_spec.specs.TextBounds.{mcu_room}
use Rattle.box_format.specs.Parts.{BoxParts, are_rising}
use Rattle.box_format.proofs.Layouts.{most_few}
use Rattle.container_spec.specs.Segments.{Output, segment_output}
use Rattle.container_spec.proofs.JoinedSegments.{Joined, joined_with, joined}
use Rattle.container_spec.specs.Meanings.{segment_in}
use Rattle.container_spec.specs.Indexed.{places_after, places_found}
use Rattle.container_spec.specs.MeaningLaws.{PlacesAreFound}
use Rattle.container_spec.proofs.Numbered.{mapped_is}
use Rattle.container_spec.proofs.ReachedSegments.{first_good}
use Rattle.container_spec.proofs.ShortSegments.{segment_is_short}

-- ---- of any outputs

-- one more than outputs
pub found_long : (place : ℕ) (outputs : List Output)
    → length (places_after place outputs) ≡ length outputs + 1
found_long place [] = refl
found_long place (output ∷ outputs) =
    let more = found_long (place + length output.0) outputs in omega (arith, more)

-- they begin with the first
pub found_first : (place : ℕ) (outputs : List Output)
    → slice_index (places_after place outputs) 0 ≡ place
found_first place [] = refl
found_first place (output ∷ outputs) = refl

-- a place before others that rise
rising_after : (place next : ℕ) (outputs : List Output) → place ≤ next
    → are_rising (places_after next outputs) ≡ true
    → are_rising (place ∷ places_after next outputs) ≡ true
rising_after place next [] up more =
    ap (λ t. not t && are_rising (places_after next [])) (le-ltb next place up) ∙ more
rising_after place next (output ∷ outputs) up more =
    ap (λ t. not t && are_rising (places_after next (output ∷ outputs))) (le-ltb next place up) ∙ more

pub found_rise : (place : ℕ) (outputs : List Output)
    → are_rising (places_after place outputs) ≡ true
found_rise place [] = refl
found_rise place (output ∷ outputs) =
    rising_after place (place + length output.0) outputs (omega arith)
    (found_rise (place + length output.0) outputs)

-- if each output has few bytes, they fit in 64 bits
pub found_fit : (output : ℕ → Output) (count from place : ℕ)
    → ((i : ℕ) → i < count → length (output (from + i)).0 ≤ mcu_room * 2 ^ 32)
    → place + mcu_room * 2 ^ 32 * count < 2 ^ 64
    → AllByRecursion (λ p. p < 2 ^ 64) (places_after place (map output (range_with_len from count)))
found_fit output zero from place few small = (omega (arith, small), tt)
found_fit output (suc count) from place few small =
    let z : from + 0 ≡ from = omega arith in
    let first = few 0 (omega arith) in
    let here = ap (λ n. length (output n).0) z in (
      omega (arith, small),
      found_fit output count (from + 1) (place + length (output from).0)
          (λ i within.
          let k : from + suc i ≡ from + 1 + i = omega arith in
          let one = few (suc i) (omega (arith, within)) in
          let same = ap (λ n. length (output n).0) k in
          omega (arith, one, same))
          (omega (arith, first, here, small)),
    )

-- of a container
pub places_are_found : PlacesAreFound
places_are_found plan b box =
    let output : ℕ → Output = λ i. segment_output (segment_in plan b i) in
    let count = length b.handovers in
    let long = found_long (length b.header) (map output (range_with_len 0 count)) in
    let many = length-map-range_with_len output 0 count in
    let most = most_few b.version in
    let few = box.few in
    let header = box.header_fits in
    record {
      count = omega (arith, long, many);
      first = found_first (length b.header) (map output (range_with_len 0 count));
      rising = found_rise (length b.header) (map output (range_with_len 0 count));
      fit = found_fit output count 0 (length b.header)
          (λ i within.
          let z : 0 + i ≡ i = omega arith in
          let short = segment_is_short only_walk plan b i box within in
          let same = ap (λ n. length (output n).0) z in
          omega (arith, short, same))
          (omega (arith, most, few, header));
    }

-- ---- of outputs that end well

-- before the k-th of them are the bytes of those before it
pub found_at : (output : ℕ → Output) (count k i place : ℕ) → k ≤ count
    → (joined (map output (range_with_len i count))).fault ≡ None
    → slice_index (places_after place (map output (range_with_len i count))) k
    ≡ place + length (joined (map output (range_with_len i k))).bytes
found_at output count zero i place few none =
    let first = found_first place (map output (range_with_len i count)) in omega (arith, first)
found_at output zero (suc k) i place few none = absurd (omega (arith, few))
found_at output (suc count) (suc k) i place few none =
    let o = output i in
    let first = first_good o.0 o.1 (joined (map output (range_with_len (i + 1) count))) none in
    let rest =
    found_at output count k (i + 1) (place + length o.0) (omega (arith, few)) first.rest in
    let more : Joined = joined (map output (range_with_len (i + 1) k)) in
    let all : length (joined (map output (range_with_len i (suc k)))).bytes ≡ length (o.0 ++ more.bytes) =
    ap (λ (x : Outcome). length (joined_with o.0 x more).bytes) first.outcome in
    let parts = length-append o.0 more.bytes in
    omega (arith, rest, all, parts)

-- so they are these values
pub found_is : (plan : PlanFields) (b : BoxParts) (f : ℕ → ℕ)
    → (joined (map (λ i. segment_output (segment_in plan b i))
    (range_with_len 0 (length b.handovers)))).fault ≡ None
    → ((k : ℕ) → k ≤ length b.handovers
    → length b.header
    + length (joined (map (λ i. segment_output (segment_in plan b i)) (range_with_len 0 k))).bytes
    ≡ f (0 + k))
    → places_found plan b ≡ map f (range_with_len 0 (length b.handovers + 1))
found_is plan b f none each =
    let output : ℕ → Output = λ i. segment_output (segment_in plan b i) in
    let count = length b.handovers in
    let long = found_long (length b.header) (map output (range_with_len 0 count)) in
    let many = length-map-range_with_len output 0 count in
    let all : length (places_found plan b) ≡ count + 1 = omega (arith, long, many) in
    mapped_is f (places_found plan b) 0 0
    (λ k within.
    let upto : k ≤ count = omega (arith, within, all) in
    found_at output count k 0 (length b.header) upto none ∙ each k upto)
    ∙ ap (λ n. map f (range_with_len 0 n)) all
