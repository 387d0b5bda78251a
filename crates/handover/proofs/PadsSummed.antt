-- What restart intervals were padded with, in parts, and scan by scan.
use Rattle.std.proofs.Common.{◌≡◌, ℕ, zero, suc, ◌<◌, ◌≤◌, Bool, true, false, [], ◌∷◌, length, refl, sym, ap, ◌∙◌, arith}
use Rattle.std.specs.Prelude.{◌||◌, set}
use Rattle.handover.specs.PadSums.{no_pads, pads_with}
use Rattle.handover.specs.ScanSums.{ScanPads, no_sums, sum_in, sums_of, sums_with}
use Rattle.handover.specs.declared.pads.PadSum.{PadSum}

or_more : (a b c : Bool) → (a || b) || c ≡ a || (b || c)
or_more true b c = refl
or_more false b c = refl

or_none : (a : Bool) → a || false ≡ a
or_none true = refl
or_none false = refl

sum_of : (a b c d e f : Bool) → a ≡ d → b ≡ e → c ≡ f
    → ◌≡◌ {A = PadSum} (record { zero = a; one = b; vain = c })
    (record { zero = d; one = e; vain = f })
sum_of a b c d e f g h k = rw (g, h, k) refl

pub sums_more : (a b c : PadSum) → pads_with (pads_with a b) c ≡ pads_with a (pads_with b c)
sums_more a b c =
    sum_of _ _ _ _ _ _ (or_more a.zero b.zero c.zero) (or_more a.one b.one c.one)
    (or_more a.vain b.vain c.vain)

pub sums_none : (a : PadSum) → pads_with a no_pads ≡ a
sums_none a = sum_of _ _ _ _ _ _ (or_none a.zero) (or_none a.one) (or_none a.vain)

-- ---- scan by scan

same_sums : (a b c d e f g h : PadSum) → a ≡ e → b ≡ f → c ≡ g → d ≡ h
    → (a ∷ b ∷ c ∷ d ∷ []) ≡ (e ∷ f ∷ g ∷ h ∷ [])
same_sums a b c d e f g h p q r s = rw (p, q, r, s) refl

pub of_none : (scan : ℕ) → sums_of scan no_pads ≡ no_sums
of_none zero = refl
of_none (suc zero) = refl
of_none (suc (suc zero)) = refl
of_none (suc (suc (suc zero))) = refl
of_none (suc (suc (suc (suc scan)))) = refl

pub of_with : (scan : ℕ) (p q : PadSum)
    → sums_with (sums_of scan p) (sums_of scan q) ≡ sums_of scan (pads_with p q)
of_with zero p q = refl
of_with (suc zero) p q = refl
of_with (suc (suc zero)) p q = refl
of_with (suc (suc (suc zero))) p q = refl
of_with (suc (suc (suc (suc scan)))) p q = refl

pub in_none : (scan : ℕ) → sum_in no_sums scan ≡ no_pads
in_none zero = refl
in_none (suc zero) = refl
in_none (suc (suc zero)) = refl
in_none (suc (suc (suc zero))) = refl
in_none (suc (suc (suc (suc scan)))) = refl

-- a scan's own intervals
pub in_own : (scan : ℕ) (p : PadSum) → scan ≤ 3 → sum_in (sums_of scan p) scan ≡ p
in_own zero p few = refl
in_own (suc zero) p few = refl
in_own (suc (suc zero)) p few = refl
in_own (suc (suc (suc zero))) p few = refl
in_own (suc (suc (suc (suc scan)))) p few = absurd (omega arith)

pub in_with : (scan : ℕ) (a b : ScanPads) → scan ≤ 3
    → sum_in (sums_with a b) scan ≡ pads_with (sum_in a scan) (sum_in b scan)
in_with zero a b few = refl
in_with (suc zero) a b few = refl
in_with (suc (suc zero)) a b few = refl
in_with (suc (suc (suc zero))) a b few = refl
in_with (suc (suc (suc (suc scan)))) a b few = absurd (omega arith)

-- those of another scan
pub in_later : (m n : ℕ) (p : PadSum) → m < n → n ≤ 3 → sum_in (sums_of m p) n ≡ no_pads
in_later zero (suc zero) p less few = refl
in_later zero (suc (suc zero)) p less few = refl
in_later zero (suc (suc (suc zero))) p less few = refl
in_later (suc zero) (suc (suc zero)) p less few = refl
in_later (suc zero) (suc (suc (suc zero))) p less few = refl
in_later (suc (suc zero)) (suc (suc (suc zero))) p less few = refl
in_later m n p less few = absurd (omega arith)

pub in_earlier : (m n : ℕ) (p : PadSum) → n < m → m ≤ 3 → sum_in (sums_of m p) n ≡ no_pads
in_earlier (suc zero) zero p less few = refl
in_earlier (suc (suc zero)) zero p less few = refl
in_earlier (suc (suc zero)) (suc zero) p less few = refl
in_earlier (suc (suc (suc zero))) zero p less few = refl
in_earlier (suc (suc (suc zero))) (suc zero) p less few = refl
in_earlier (suc (suc (suc zero))) (suc (suc zero)) p less few = refl
in_earlier m n p less few = absurd (omega arith)

pub sums_of_more : (a b c : ScanPads)
    → sums_with a (sums_with b c) ≡ sums_with (sums_with a b) c
sums_of_more a b c =
    same_sums _ _ _ _ _ _ _ _ (at 0) (at 1) (at 2) (at 3) where
      at : (scan : ℕ) → pads_with (sum_in a scan) (pads_with (sum_in b scan) (sum_in c scan))
          ≡ pads_with (pads_with (sum_in a scan) (sum_in b scan)) (sum_in c scan)
      at scan = sym (sums_more (sum_in a scan) (sum_in b scan) (sum_in c scan))

-- what the four scans have
four : (a : ScanPads) → length a ≡ 4
    → (sum_in a 0 ∷ sum_in a 1 ∷ sum_in a 2 ∷ sum_in a 3 ∷ []) ≡ a
four [] long = absurd (omega (arith, long))
four (x ∷ []) long = absurd (omega (arith, long))
four (x ∷ y ∷ []) long = absurd (omega (arith, long))
four (x ∷ y ∷ z ∷ []) long = absurd (omega (arith, long))
four (x ∷ y ∷ z ∷ w ∷ []) long = refl
four (x ∷ y ∷ z ∷ w ∷ v ∷ a) long = absurd (omega (arith, long))

-- no intervals after others
pub sums_with_none : (a : ScanPads) → length a ≡ 4 → sums_with a no_sums ≡ a
sums_with_none a long =
    same_sums _ _ _ _ _ _ _ _ (sums_none (sum_in a 0)) (sums_none (sum_in a 1)) (sums_none (sum_in a 2))
    (sums_none (sum_in a 3)) ∙ four a long

-- more of one scan
pub added : (a : ScanPads) (scan : ℕ) (p q : PadSum) → length a ≡ 4 → scan < 4
    → q ≡ pads_with (sum_in a scan) p → set a scan q ≡ sums_with a (sums_of scan p)
added a scan p q long within is =
    ap (λ (l : ScanPads). set l scan q) (sym (four a long)) ∙ by scan within is where
      none : (scan : ℕ) → sum_in a scan ≡ pads_with (sum_in a scan) no_pads
      none scan = sym (sums_none (sum_in a scan))

      by : (scan : ℕ) → scan < 4 → q ≡ pads_with (sum_in a scan) p
          → set (sum_in a 0 ∷ sum_in a 1 ∷ sum_in a 2 ∷ sum_in a 3 ∷ []) scan q ≡ sums_with a (sums_of scan p)
      by zero within is = same_sums _ _ _ _ _ _ _ _ is (none 1) (none 2) (none 3)
      by (suc zero) within is = same_sums _ _ _ _ _ _ _ _ (none 0) is (none 2) (none 3)
      by (suc (suc zero)) within is = same_sums _ _ _ _ _ _ _ _ (none 0) (none 1) is (none 3)
      by (suc (suc (suc zero))) within is = same_sums _ _ _ _ _ _ _ _ (none 0) (none 1) (none 2) is
      by (suc (suc (suc (suc scan)))) within is = absurd (omega arith)
