-- The category of a number is the least count of bits that it fits.
use Rattle.std.proofs.Common.{◌≡◌, ℕ, zero, suc, ◌-◌, ◌*◌, ◌+◌, ◌/◌, ◌^◌, ◌<◌, ◌≤◌, refl, arith, pow-suc}
use Rattle.std.specs.Int.Count.{count_leading_zeros}
use Rattle.std.proofs.lemmas.Nat.{pow_pos}
use Rattle.std.proofs.lemmas.Int.Digits.{length-digits_of_step}
use Rattle.coef_block.specs.Categories.{category}
use Rattle.coef_block.proofs.BitCounts.{bits_below, bits_least, bits_no_more}

-- a magnitude with m bits and no fewer
pub size_of_bound : (m n : ℕ) → n < 2 ^ m → 2 ^ m ≤ 2 * n + 1 → m ≡ category n
size_of_bound zero n below above = let e : n ≡ 0 = omega arith in rw e refl
size_of_bound (suc m) n below above =
    let twice : 2 ^ suc m ≡ 2 * 2 ^ m = omega (arith, pow-suc 2 m) in
    let some : 0 < n = omega (arith, pow_pos m) in
    let half = size_of_bound m (n / 2) (omega arith) (omega arith) in
    omega (arith, length-digits_of_step 2 n (omega arith) some)

-- the least count of bits that a magnitude fits is its category
pub category_is_least : (r n : ℕ) → n < 2 ^ r → (0 < r → 2 ^ (r - 1) ≤ n) → r ≡ category n
category_is_least zero n below least = size_of_bound zero n below (omega arith)
category_is_least (suc k) n below least =
    let one_less : suc k - 1 ≡ k = omega arith in
    let bound : 2 ^ k ≤ n = rw one_less at (least (omega arith)) in
    size_of_bound (suc k) n below (omega (arith, pow-suc 2 k))

-- the bits that a machine counts are the category
pub bits_category : (number : ℕ) → number < 2 ^ 32 → 32 - count_leading_zeros 32 number ≡ category number
bits_category number fits =
    category_is_least (32 - count_leading_zeros 32 number) number (bits_below number fits) (bits_least number fits)

pub ruleset categories = (bits_below, bits_least, bits_no_more, bits_category)
