-- Differences and coefficients, as the machine widens, subtracts and counts them.
use Rattle.std.proofs.Common.{◌≡◌, ◌≤◌, ◌<◌, ℕ, ◌+◌, ◌-◌, ◌/◌, ◌^◌, ℤ, ◌-ℤ◌, unsigned_abs, length, bit_or, sym, ap, ap₂, ◌∙◌, arith}
use Rattle.std.specs.Int.{w16, w32}
use Rattle.std.specs.Int.Count.{count_leading_zeros}
use Rattle.std.specs.Int.Digits.{digits_of}
use Rattle.std.proofs.lemmas.Int.Digits.{length-digits_of_step}
use Rattle.std.proofs.lemmas.Nat.{and_le_r, or_disjoint, or_lt, or_shr, le_or_l}
use Rattle.coef_block.specs.Categories.{category}
use Rattle.coef_block.proofs.CategoryLemmas.{bits_category}
use mir.Val.{to_z, of_z}
use Rattle.scan_spec.proofs.SignedValues.{difference_is, kept_half}

-- a number of 32 bits, as the machine keeps it
abbrev pub made : ℤ → ℤ
made z = to_z w32 (of_z w32 z)

-- a number of 16 bits, as the machine keeps it
abbrev pub half : ℤ → ℤ
half z = to_z w16 (of_z w16 z)

-- the difference of two DCs of 16 bits
pub difference_of : (dc before d b : ℤ) → unsigned_abs dc ≤ 32767 → unsigned_abs before ≤ 32767 → d ≡ half dc → b ≡ half before
    → made (made d -ℤ made b) ≡ dc -ℤ before
difference_of dc before d b small small' e f =
    ap₂ (λ (x y : ℤ). made (made x -ℤ made y)) (e ∙ kept_half dc small) (f ∙ kept_half before small') ∙ difference_is dc before small small'

-- a number's bits but the lowest, if that is set
or_nothing : (n : ℕ) → bit_or n 0 ≡ n
or_nothing n = omega (arith, or_disjoint n 0 (omega (arith, and_le_r n 0)))

half_set : (n : ℕ) → bit_or n 1 / 2 ≡ n / 2
half_set n = or_shr n 1 1 ∙ or_nothing (n / 2)

-- so a number other than 0 keeps its category, which the machine counts
pub set_category : (n : ℕ) → 0 < n → n < 2 ^ 32 → 32 - count_leading_zeros 32 (bit_or n 1) ≡ category n
set_category n some fits =
    let set : 0 < bit_or n 1 = omega (arith, some, le_or_l n 1) in
    bits_category (bit_or n 1) (or_lt 32 n 1 fits (omega arith))
    ∙ length-digits_of_step 2 (bit_or n 1) (omega arith) set
    ∙ ap (λ (half : ℕ). length (digits_of 2 half) + 1) (half_set n)
    ∙ sym (length-digits_of_step 2 n (omega arith) some)
