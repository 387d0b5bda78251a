-- What the segments of a scan padded.
use Rattle.std.proofs.Common.{◌≡◌, ℕ, zero, suc, ◌+◌, ◌-◌, ◌≤◌, List, [], ◌++◌, length, take, drop, Ok, refl, sym, ap, ap₂, ◌∙◌, arith, zero-add}
use Rattle.std.proofs.lemmas.List.{take_all, drop-drop}
use Rattle.handover.specs.PadSums.{pads_with}
use Rattle.scan_spec.specs.Pads.{PadBits, bit_for}
use Rattle.scan_spec.specs.Scans.{Mcu, AreMcus, scan_bytes}
use Rattle.scan_spec.specs.ScanLaws.{IsShape}
use Rattle.scan_spec.specs.Slots.{Shape}
use Rattle.scan_spec.specs.Spots.{first_spot, mcus_put, spot_at}
use Rattle.cut_spec.specs.RowHandovers.{segment_bytes, mcus_between}
use Rattle.cut_spec.proofs.Slices.{each_slice, take_more}
use Rattle.container_spec.specs.SegmentLaws.{mcus_sum}
use Rattle.container_spec.proofs.CutsOfPlans.{AreCuts, cut_within, cuts_rise}
use Rattle.container_spec.proofs.JoinedSegments.{all_sum}
use Rattle.container_spec.proofs.PutParts.{sums_parts}
use Rattle.container_spec.proofs.SlicesMeant.{slice_sum, spot_again}

between_all : (mcus : List Mcu) (n : ℕ) → length mcus ≡ n → mcus_between mcus 0 n ≡ mcus
between_all mcus n long =
    let e : n - 0 ≡ n = omega arith in
    ap (λ k. take k mcus) e ∙ take_all n mcus (omega (arith, long))

between_more : (mcus : List Mcu) (a b c : ℕ) → a ≤ b → b ≤ c
    → mcus_between mcus a c ≡ mcus_between mcus a b ++ mcus_between mcus b c
between_more mcus a b c h k =
    let e : (c - a) - (b - a) ≡ c - b = omega (arith, h, k) in
    let f : a + (b - a) ≡ b = omega (arith, h) in
    take_more (b - a) (c - a) (drop a mcus) (omega (arith, h, k))
    ∙ ap₂ (λ n l. mcus_between mcus a b ++ take n l) e
    (drop-drop (b - a) a mcus ∙ ap (λ n. drop n mcus) f)

between_none : (mcus : List Mcu) (a : ℕ) → mcus_between mcus a a ≡ []
between_none mcus a = let e : a - a ≡ 0 = omega arith in ap (λ k. take k (drop a mcus)) e

module _ (shape : Shape) (pads : PadBits) (mcus : List Mcu) (scan : List ℕ) (is : IsShape shape)
    (are : AreMcus shape mcus) (text : scan_bytes shape (bit_for pads) mcus ≡ Ok scan) (d : ℕ → ℕ)
    (segments : ℕ) (cuts : AreCuts d segments shape.mcus) where
  put_between : (a b : ℕ) → a ≤ b → b ≤ shape.mcus
      → mcus_put shape (bit_for pads) (spot_at shape (bit_for pads) mcus a) (mcus_between mcus a b)
      ≡ Ok (segment_bytes shape (bit_for pads) mcus scan a b, spot_at shape (bit_for pads) mcus b)
  put_between a b order within =
      ap (λ spot. mcus_put shape (bit_for pads) spot (mcus_between mcus a b))
      (sym (spot_again shape (bit_for pads) mcus scan a is are text (omega (arith, order, within))))
      ∙ each_slice shape (bit_for pads) mcus scan a b is are text order within

  slices_sum : (count i : ℕ) → i + count ≤ segments
      → slice_sum shape pads mcus (d i) (d (i + count))
      ≡ all_sum (λ j. slice_sum shape pads mcus (d j) (d (j + 1))) i count
  slices_sum zero i within =
      let e : i + 0 ≡ i = omega arith in
      ap (λ n. slice_sum shape pads mcus (d i) (d n)) e
      ∙ ap (mcus_sum shape pads (spot_at shape (bit_for pads) mcus (d i))) (between_none mcus (d i))
  slices_sum (suc count) i within =
      let e : (i + 1) + count ≡ i + suc count = omega arith in
      let a = d i in
      let b = d (i + 1) in
      let c = d (i + suc count) in
      let first : a ≤ b =
      cuts_rise d segments shape.mcus i (i + 1) cuts (omega arith) (omega (arith, within)) in
      let rest : b ≤ c =
      cuts_rise d segments shape.mcus (i + 1) (i + suc count) cuts (omega arith) within in
      let last = cut_within d segments shape.mcus (i + 1) cuts (omega (arith, within)) in
      ap (mcus_sum shape pads (spot_at shape (bit_for pads) mcus a)) (between_more mcus a b c first rest)
      ∙ sums_parts (mcus_between mcus a b) (mcus_between mcus b c) shape pads
      (spot_at shape (bit_for pads) mcus a)
      (spot_at shape (bit_for pads) mcus b) (segment_bytes shape (bit_for pads) mcus scan a b)
      (put_between a b first last)
      ∙ ap (pads_with (slice_sum shape pads mcus a b))
      (ap (λ n. slice_sum shape pads mcus b (d n)) (sym e)
      ∙ slices_sum count (i + 1) (omega (arith, within)))

  first_spot_is : spot_at shape (bit_for pads) mcus 0 ≡ first_spot
  unfolding mcus_put
  first_spot_is = refl

  -- all segments together
  pub sum_of_all : all_sum (λ j. slice_sum shape pads mcus (d j) (d (j + 1))) 0 segments
      ≡ mcus_sum shape pads first_spot mcus
  sum_of_all =
      let long = are.count in
      let e : d (0 + segments) ≡ shape.mcus = ap d (zero-add segments) ∙ cuts.whole in
      sym (slices_sum segments 0 (omega arith))
      ∙ ap₂ (λ a b. slice_sum shape pads mcus a b) cuts.none e
      ∙ ap (mcus_sum shape pads (spot_at shape (bit_for pads) mcus 0)) (between_all mcus shape.mcus long)
      ∙ ap (λ spot. mcus_sum shape pads spot mcus) first_spot_is
