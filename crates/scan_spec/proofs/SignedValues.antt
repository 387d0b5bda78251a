-- A difference, as the machine subtracts.
use Rattle.std.proofs.Common.{◌≡◌, ◌≤◌, zero, suc, ℤ, pos, negsuc, ◌-ℤ◌, unsigned_abs, refl, sym, ap, ap₂, ◌∙◌, arith}
use Rattle.std.specs.Prelude.{FitsSigned}
use Rattle.std.specs.Int.{w16, w32}
use Rattle.std.proofs.lemmas.Int.{ints, to_z-of_z}
use mir.Val.{to_z, of_z}

pub fits : (z : ℤ) → unsigned_abs z ≤ 65534 → FitsSigned w32 z
fits (pos n) h = record { sfits = omega arith }
fits (negsuc n) h = record { sfits = omega arith }

pub difference_is : (dc before : ℤ) → unsigned_abs dc ≤ 32767 → unsigned_abs before ≤ 32767
    → to_z w32 (of_z w32 (to_z w32 (of_z w32 dc) -ℤ to_z w32 (of_z w32 before))) ≡ dc -ℤ before
difference_is dc before small small' =
    let bounded : unsigned_abs (dc -ℤ before) ≤ 65534 = omega (arith, ints) in
    ap (λ z. to_z w32 (of_z w32 z)) (ap₂ ◌-ℤ◌ (to_z-of_z w32 dc (fits dc (omega arith))) (to_z-of_z w32 before (fits before (omega arith))))
    ∙ to_z-of_z w32 (dc -ℤ before) (fits (dc -ℤ before) bounded)

-- a value is 0 where the machine's number is
pub zero_is : (z : ℤ) → of_z w32 z ≡ 0 → FitsSigned w32 z → unsigned_abs z ≡ 0
zero_is z e fits = ap unsigned_abs (sym (to_z-of_z w32 z fits) ∙ ap (to_z w32) e)

pub not_zero_is : (z : ℤ) → (of_z w32 z ≡ 0 → ⊥) → unsigned_abs z ≡ 0 → ⊥
not_zero_is (pos zero) some none = some refl
not_zero_is (pos (suc n)) some none = omega arith
not_zero_is (negsuc n) some none = omega arith

fits_half : (z : ℤ) → unsigned_abs z ≤ 32767 → FitsSigned w16 z
fits_half (pos n) h = record { sfits = omega arith }
fits_half (negsuc n) h = record { sfits = omega arith }

-- a coefficient, as the machine widens it
pub widened : (z r : ℤ) → unsigned_abs z ≤ 32767 → r ≡ to_z w16 (of_z w16 z) → to_z w32 (of_z w32 r) ≡ z
widened z r small is =
    ap (λ v. to_z w32 (of_z w32 v)) (is ∙ to_z-of_z w16 z (fits_half z small)) ∙ to_z-of_z w32 z (fits z (omega arith))

-- a DC, as the machine keeps it
pub kept_half : (z : ℤ) → unsigned_abs z ≤ 32767 → to_z w16 (of_z w16 z) ≡ z
kept_half z small = to_z-of_z w16 z (fits_half z small)
