-- The first segment that can't start from its record.
use Rattle.std.proofs.Common.{◌≡◌, ◌<◌, ℕ, zero, suc, ◌+◌, ◌-◌, map, refl, arith, true, false, Bool, cond}
use Rattle.std.specs.Prelude.{Option, Some, None}
use Rattle.std.specs.List.{range_with_len}
use Rattle.scan_spec.specs.Slots.{Shape}
use Rattle.cut_spec.specs.Cuts.{Cut, first_mcu}
use Rattle.handover.specs.Handovers.{HandoverFields}
use Rattle.box_format.specs.Parts.{bad_start, can_start}

module _ (shape : Shape) (cut : Cut) (f : ℕ → HandoverFields) where
  -- whether the segment of this number can start
  abbrev starts : ℕ → Bool
  starts i = can_start shape (first_mcu cut i) (f i)

  -- those from one on, up to before another
  abbrev bad_from : ℕ → ℕ → Option ℕ
  bad_from i n = bad_start shape cut i (map f (range_with_len i n))

  left_is : (i n : ℕ) → i < n → n - i ≡ suc (n - (i + 1))
  left_is i n below = omega arith

  pub bad_here : (i n : ℕ) → i < n → starts i ≡ false → bad_from i (n - i) ≡ Some i
  bad_here i n below bad = rw (left_is i n below, bad) refl

  pub bad_later : (i n : ℕ) → i < n → starts i ≡ true
      → bad_from i (n - i) ≡ bad_from (i + 1) (n - (i + 1))
  bad_later i n below good = rw (left_is i n below, good) refl

  pub none_left : (i n : ℕ) → n - i ≡ 0 → bad_from i (n - i) ≡ None
  none_left i n e = rw e refl

  -- where none is bad each can start
  good_or_bad : (b : Bool) (i : ℕ) (later : Option ℕ) → cond b later (Some i) ≡ None
      → (b ≡ true) × (later ≡ None)
  good_or_bad true i later e = (refl, e)
  good_or_bad false i later e = cc

  pub each_starts : (i from n : ℕ) → bad_from from n ≡ None → i < n → starts (from + i) ≡ true
  each_starts i from zero none below = absurd (omega arith)
  each_starts zero from (suc n) none below =
      let e : from + 0 ≡ from = omega arith in
      rw e ((good_or_bad (starts from) from (bad_from (from + 1) n) none).0)
  each_starts (suc i) from (suc n) none below =
      let e : from + suc i ≡ from + 1 + i = omega arith in
      rw e (each_starts i (from + 1) n
      (good_or_bad (starts from) from (bad_from (from + 1) n) none).1 (omega arith))
