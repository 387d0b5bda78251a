-- The places of a file's segments, which its container may keep.
use Rattle.std.proofs.Common.{◌≡◌, ℕ, zero, suc, ◌+◌, ◌^◌, ◌<◌, ◌≤◌, Bool, true, false, not, ◌&&◌, if◌then◌else◌, List, length, take, map, Ok, Some, None, refl, ap, ◌∙◌, arith}
use Rattle.std.specs.Prelude.{slice_index, IfSome, is_some}
use Rattle.std.proofs.lemmas.Bool.{le-ltb}
use Rattle.std.proofs.lemmas.List.{length-drop}
use Rattle.std.specs.List.{range_with_len}
use Rattle.std.proofs.lemmas.List.FromFn.{length-map-range_with_len, get_or-map-range_with_len}
use Rattle.jpeg_marker.specs.Plans.{most_blocks}
use Rattle.scan_spec.specs.Scans.{Mcu, AreMcus, scan_bytes}
use Rattle.scan_spec.specs.Slots.{Shape}
use Rattle.scan_spec.specs.Spots.{mcus_put, count_in, bytes_done}
use Rattle.scan_spec.proofs.DoneBytes.{done_in_parts}
use Rattle.cut_spec.specs.RowHandovers.{segment_bytes}
use Rattle.cut_spec.proofs.Slices.{done_rises}
use Rattle.box_format.specs.Parts.{ArePlaces, are_rising}
use Rattle.box_format.proofs.PartedLists.{all_values}
use Rattle.container_spec.specs.Meanings.{kept_in}
use Rattle.container_spec.specs.SegmentLaws.{AreKept}
use Rattle.container_spec.proofs.CutsOfPlans.{AreCuts, cut_within}
use Rattle.container_spec.proofs.McuSizes.{IsSmall, done_few}

-- ---- places that are kept or not

pub placed_if : (t : Bool) (places : List ℕ) → is_some (if t then Some places else None) ≡ t
placed_if true places = refl
placed_if false places = refl

pub are_if : (P : List ℕ → Type 0) (t : Bool) (places : List ℕ) → P places
    → IfSome (if t then Some places else None) P
are_if P true places are = are
are_if P false places are = tt

pub kept_if : (t : Bool) (places : List ℕ) (bytes : List ℕ) (i : ℕ)
    → AreKept bytes (kept_in (Some places) i)
    → AreKept bytes (kept_in (if t then Some places else None) i)
kept_if true places bytes i are = are
kept_if false places bytes i are = tt

-- ---- those of a scan's segments

-- values that rise
rising_by : (f : ℕ → ℕ) (count from : ℕ)
    → ((i : ℕ) → from ≤ i → i < from + count → f i ≤ f (i + 1))
    → are_rising (map f (range_with_len from (suc count))) ≡ true
rising_by f zero from order = refl
rising_by f (suc count) from order =
    ap (λ (t : Bool). not t && are_rising (map f (range_with_len (from + 1) (suc count))))
    (le-ltb (f (from + 1)) (f from) (order from (omega arith) (omega arith)))
    ∙ rising_by f count (from + 1)
    (λ i after within. order i (omega (arith, after)) (omega (arith, within)))

-- without an MCU no byte is done
pub nothing_done : (shape : Shape) (pads : ℕ → Bool) (mcus : List Mcu)
    → bytes_done shape pads mcus 0 ≡ 0
unfolding mcus_put
nothing_done shape pads mcus = refl

-- segments from cut to cut, after a header
module _ (shape : Shape) (pads : ℕ → Bool) (mcus : List Mcu) (scan : List ℕ) (d : ℕ → ℕ)
    (count header : ℕ) (small : IsSmall shape) (are : AreMcus shape mcus)
    (text : scan_bytes shape pads mcus ≡ Ok scan) (cuts : AreCuts d count shape.mcus) where
  abbrev pub place : ℕ → ℕ
  place i = header + bytes_done shape pads mcus (d i)

  abbrev pub places : List ℕ
  places = map place (range_with_len 0 (count + 1))

  pub place_at : (i : ℕ) → i ≤ count → slice_index places i ≡ place i
  place_at i within =
      let z : 0 + i ≡ i = omega arith in
      get_or-map-range_with_len place 0 (count + 1) i i 0 (omega (arith, within)) z

  first_place : slice_index places 0 ≡ header
  first_place =
      let here = place_at 0 (omega arith) in
      let none = ap (bytes_done shape pads mcus) cuts.none ∙ nothing_done shape pads mcus in
      omega (arith, here, none)

  rising : are_rising places ≡ true
  rising =
      let e : count + 1 ≡ suc count = omega arith in
      ap (λ (n : ℕ). are_rising (map place (range_with_len 0 n))) e
      ∙ rising_by place count 0
      (λ i after within.
      let under : i < count = omega (arith, within) in
      let more = done_rises shape pads mcus scan (d i) (d (i + 1)) small.is are text
      (cuts.order i under) (cut_within d count shape.mcus (i + 1) cuts (omega (arith, under))) in
      omega (arith, more))

  -- the bytes of all MCUs are few
  place_fits : header < 2 ^ 32 → shape.mcus ≤ most_blocks → (i : ℕ) → place i < 2 ^ 64
  place_fits fits few i =
      let done = done_few shape pads mcus scan (d i) small are text in
      omega (arith, done, fits, few)

  pub are_places : header < 2 ^ 32 → shape.mcus ≤ most_blocks → ArePlaces header count places
  are_places fits few = record {
    count = length-map-range_with_len place 0 (count + 1);
    first = first_place;
    rising = rising;
    fit = all_values (λ p. p < 2 ^ 64) place 0 (count + 1) (λ i below. place_fits fits few (0 + i));
  }

  -- the scan has as many bytes as are done
  done_is : (n : ℕ)
      → bytes_done shape pads mcus n ≡ length (take (bytes_done shape pads mcus n) scan)
  done_is n = ap count_in (done_in_parts shape pads mcus scan n small.is are text).0

  -- the bytes of a segment are as many as its place and the next one are apart
  pub slice_is_kept : (i : ℕ) → i < count
      → AreKept (segment_bytes shape pads mcus scan (d i) (d (i + 1))) (kept_in (Some places) i)
  slice_is_kept i within =
      let here = place_at i (omega (arith, within)) in
      let next = place_at (i + 1) (omega (arith, within)) in
      let upto = done_is (d (i + 1)) in
      let apart = length-drop (bytes_done shape pads mcus (d i))
      (take (bytes_done shape pads mcus (d (i + 1))) scan) in
      omega (arith, here, next, upto, apart)
