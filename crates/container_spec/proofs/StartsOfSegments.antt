-- What a scan hands over is what a segment can start from.
use Rattle.std.proofs.Common.{◌≡◌, ℕ, zero, suc, ◌+◌, ◌-◌, ◌/◌, ◌^◌, ◌<◌, ◌≤◌, Bool, true, false, if◌then◌else◌, List, [], ◌∷◌, length, take, map, inl, inr, Ok, Some, None, refl, ap, ap₂, ◌∙◌, arith, ℤ, pos, unsigned_abs, zero-add}
use Rattle.std.specs.Prelude.{slice_index_or, min, not, ◌&&◌, ◌||◌, ◌==◌}
use Rattle.std.specs.List.{AllByRecursion, list_all, list_any, range_with_len}
use Rattle.std.proofs.lemmas.Bool.{cases_eq, eq-eqb, false_from_ne_true, eqb-true}
use Rattle.std.proofs.lemmas.List.{length-take-le}
use Rattle.std.proofs.Math.Nat.{zero-div}
use Rattle.scan_spec.specs.Scans.{Mcu, IsMcu, AreMcus, scan_bytes}
use Rattle.scan_spec.specs.ScanLaws.{IsShape}
use Rattle.scan_spec.specs.Slots.{Shape}
use Rattle.scan_spec.specs.Spots.{first_spot, mcus_put, put_first, bytes_done, spot_at}
use Rattle.scan_spec.proofs.DoneBytes.{done_in_parts}
use Rattle.handover.specs.Handovers.{HandoverFields, IsHandover, start}
use Rattle.handover.specs.HandoverBytes.{is_handover}
use Rattle.handover.proofs.FieldBytes.{test_is_exact}
use Rattle.cut_spec.specs.Cuts.{Cut, first_mcu}
use Rattle.cut_spec.specs.RowHandovers.{handover_of, handover_at, markers_before}
use Rattle.cut_spec.proofs.SpotsBegun.{spots_are_begun}
use Rattle.box_format.specs.Parts.{is_unused_zero, is_start, can_start, bad_start}
use Rattle.container_spec.specs.SegmentLaws.{IsSpot}
use Rattle.container_spec.proofs.SpotsKept.{kept_put, unused_are_kept, spot_kept, first_is_spot, handover_is}
use Rattle.box_format.proofs.ByteParts.{all_take}

-- no marker is put before the first MCU
no_marker : (shape : Shape) → markers_before shape 0 ≡ 0
no_marker shape =
    let none : min 0 (shape.mcus - 1) ≡ 0 = omega arith in
    by_interval (shape.interval == 0) (min 0 (shape.mcus - 1) / shape.interval)
    (ap (λ n. n / shape.interval) none ∙ zero-div shape.interval) where
      by_interval : (t : Bool) (n : ℕ) → n ≡ 0 → (if t then 0 else n) ≡ 0
      by_interval true n e = refl
      by_interval false n e = e

pub first_handover : (shape : Shape) → handover_of shape first_spot ≡ start
first_handover shape = ap (λ n. record start { restarts = n }) (no_marker shape)

starts_first : (shape : Shape) → is_start (handover_of shape first_spot) ≡ true
starts_first shape = ap is_start (first_handover shape)

unused_by : (t : Bool) (dc : ℤ) → (t ≡ false → dc ≡ pos 0) → t || unsigned_abs dc == 0 ≡ true
unused_by true dc h = refl
unused_by false dc h = ap (λ z. unsigned_abs z == 0) (h refl)

-- all four components
four_tests : (a b c d : Bool) → a ≡ true → b ≡ true → c ≡ true → d ≡ true
    → a && (b && (c && (d && true))) ≡ true
four_tests a b c d e f g h = rw (e, f, g, h) refl

all_tests : (a b c d : Bool) → a ≡ true → b ≡ true → c ≡ true → d ≡ true
    → a && (b && (c && d)) ≡ true
all_tests a b c d e f g h = rw (e, f, g, h) refl

module _ (shape : Shape) (pads : ℕ → Bool) (mcus : List Mcu) (scan : List ℕ) (is : IsShape shape)
    (are : AreMcus shape mcus) (text : scan_bytes shape pads mcus ≡ Ok scan) where
  put_of : (n : ℕ) → put_first shape pads mcus n
      ≡ Ok (take (bytes_done shape pads mcus n) scan, spot_at shape pads mcus n)
  put_of n = (done_in_parts shape pads mcus scan n is are text).0

  each_of : (n : ℕ) → AllByRecursion (IsMcu shape.slots) (take n mcus)
  each_of n = all_take (IsMcu shape.slots) n mcus are.each

  pub spot_is : (n : ℕ) → IsSpot (spot_at shape pads mcus n)
  spot_is n =
      spot_kept shape pads (take n mcus) first_spot (spot_at shape pads mcus n)
      (take (bytes_done shape pads mcus n) scan) (each_of n) first_is_spot (put_of n)

  pub handover_at_is : (n : ℕ) → shape.mcus ≤ 2 ^ 32 → IsHandover (handover_at shape pads mcus n)
  handover_at_is n few = handover_is shape (spot_at shape pads mcus n) few (spot_is n)

  pub count_is : (n : ℕ) → n ≤ shape.mcus → (spot_at shape pads mcus n).count ≡ n
  count_is n within =
      let begun = spots_are_begun shape pads (take n mcus) first_spot (spot_at shape pads mcus n)
      (take (bytes_done shape pads mcus n) scan) (omega arith) (put_of n) in
      let long : n ≤ length mcus = (let m = are.count in omega (arith, m, within)) in
      begun.1 ∙ zero-add (length (take n mcus)) ∙ length-take-le n mcus long

  unused_is : (n c : ℕ) → is_unused_zero shape (handover_at shape pads mcus n) c ≡ true
  unused_is n c =
      let dcs = (spot_at shape pads mcus n).before in
      unused_by (list_any (λ slot. slot.component == c) shape.slots) (slice_index_or dcs c (pos 0)) (λ none.
      let kept = unused_are_kept shape.slots c none in
      kept_put (λ l. slice_index_or l c (pos 0) ≡ pos 0) shape pads (take n mcus) first_spot
      (spot_at shape pads mcus n) (take (bytes_done shape pads mcus n) scan) kept
      (each_of n) kept.none (put_of n))

  first_starts : (n : ℕ) → n ≡ 0 → is_start (handover_at shape pads mcus n) ≡ true
  unfolding mcus_put
  first_starts n e =
      ap (λ k. is_start (handover_at shape pads mcus k)) e ∙ starts_first shape

  start_test : (n : ℕ) → not (n == 0) || is_start (handover_at shape pads mcus n) ≡ true
  start_test n = elim (cases_eq n 0) [
    | inl e ↦ ap₂ (λ (a b : Bool). not a || b) (eq-eqb n 0 e) (first_starts n e)
    | inr ne ↦ ap (λ (a : Bool). not a || is_start (handover_at shape pads mcus n))
        (false_from_ne_true (n == 0) (λ t. ne (eqb-true n 0 t)))
  ]

  pub starts_there : (n : ℕ) → shape.mcus ≤ 2 ^ 32 → n ≤ shape.mcus
      → can_start shape n (handover_at shape pads mcus n) ≡ true
  starts_there n few within =
      let h = handover_at shape pads mcus n in
      all_tests (is_handover h) (list_all (is_unused_zero shape h) (0 ∷ 1 ∷ 2 ∷ 3 ∷ []))
      (h.restarts == markers_before shape n) (not (n == 0) || is_start h)
      (test_is_exact h (handover_at_is n few))
      (four_tests _ _ _ _ (unused_is n 0) (unused_is n 1) (unused_is n 2) (unused_is n 3))
      (eq-eqb h.restarts (markers_before shape n) (ap (markers_before shape) (count_is n within)))
      (start_test n)

-- no segment of several is bad
pub none_bad : (shape : Shape) (cut : Cut) (f : ℕ → HandoverFields) (count i : ℕ)
    → ((j : ℕ) → i ≤ j → j < i + count → can_start shape (first_mcu cut j) (f j) ≡ true)
    → bad_start shape cut i (map f (range_with_len i count)) ≡ None
none_bad shape cut f zero i each = refl
none_bad shape cut f (suc count) i each =
    ap (λ t. if t then bad_start shape cut (i + 1) (map f (range_with_len (i + 1) count)) else Some i)
    (each i (omega arith) (omega arith))
    ∙ none_bad shape cut f count (i + 1)
    (λ j after within. each j (omega (arith, after)) (omega (arith, within)))
