-- A quotient by a product: where the divisor's reciprocal, in units of a power, is rounded up.
use Rattle.std.proofs.Common.{◌≡◌, inl, inr, ℕ, zero, suc, ◌+◌, ◌*◌, ◌-◌, ◌/◌, ◌%◌, ◌<◌, ◌≤◌, arith, Bool, true, List, [], ◌∷◌, length, get_or, refl, ◌^◌, ◌∙◌, ap}
use Rattle.std.specs.Prelude.{◌&&◌, ◌==◌, nat_le}
use Rattle.std.proofs.lemmas.Bool.{cases_lt, agree_below_at, and_parts, leb-true, eqb-true}
use Rattle.std.proofs.lemmas.Nat.{le-div, div_below}
use Rattle.std.proofs.Math.Nat.{mul-le-mul_right, div-add-mod}
use Rattle.adapt_bins.specs.Reciprocals.{unit, reciprocal, are_reciprocals}

-- an entry of a table that passes the test is the reciprocal of its sum
entry_is : (rs : List ℕ) (from i : ℕ) → i < length rs → are_reciprocals from rs ≡ true
    → get_or rs i 0 ≡ reciprocal (from + i)
entry_is [] from i within all = absurd (omega arith)
entry_is (r ∷ rs) from zero within all =
    let both = and_parts (r == reciprocal from) (are_reciprocals (from + 1) rs) all in
    let here : r ≡ reciprocal from = eqb-true _ _ both.0 in
    let e : from + 0 ≡ from = omega arith in
    rw e here
entry_is (r ∷ rs) from (suc i) within all =
    let rest = (and_parts (r == reciprocal from) (are_reciprocals (from + 1) rs) all).1 in
    let e : from + suc i ≡ from + 1 + i = omega arith in
    rw e (entry_is rs (from + 1) i (omega arith) rest)

-- the entry of a table of all sums from 0 on
pub table_is : (rs : List ℕ) (sum : ℕ) → sum < length rs → are_reciprocals 0 rs ≡ true
    → get_or rs sum 0 ≡ reciprocal sum
table_is rs sum within all = let e : 0 + sum ≡ sum = omega arith in rw e at (entry_is rs 0 sum within all)

clash : (n s m p q : ℕ) → 0 < p → n * s ≤ p → (n + 1) * p ≤ (q + 1) * s * p → (m * s + 1) * n ≤ (p + s) * n
    → (q + 1) * p * s ≤ n * m * s → ⊥
clash n s m p q some small a b c = grind arith

-- the product is below the next multiple
upper : (n s m p q : ℕ) → 0 < p → m * s + 1 ≤ p + s → n * s ≤ p → n + 1 ≤ (q + 1) * s → n * m < (q + 1) * p
upper n s m p q some high small above = elim (cases_lt (n * m) ((q + 1) * p)) [
  | inl h ↦ h
  | inr h ↦ absurd
      (clash n s m p q some small (mul-le-mul_right p above) (mul-le-mul_right n high) (mul-le-mul_right s h))
]

-- and no less than the multiple
lower : (n s m p q : ℕ) → q * s * m ≤ n * m → p * q ≤ m * s * q → q * p ≤ n * m
lower n s m p q e f = grind arith

-- n / s, for n * s at most p and a reciprocal m of s in units of p
pub quotient_is : (n s m p : ℕ) → 0 < s → 0 < p → p ≤ m * s → m * s + 1 ≤ p + s → n * s ≤ p → n * m / p ≡ n / s
quotient_is n s m p pos some low high small =
    let d = div-add-mod n s in
    let r : n % s < s = omega arith in
    let above : n + 1 ≤ (n / s + 1) * s = omega (arith, d, r) in
    let most = div_below (n * m) p (n / s + 1) some (upper n s m p (n / s) some high small above) in
    let down : n / s * s ≤ n = omega (arith, d) in
    let e : n / s * s * m ≤ n * m = mul-le-mul_right m down in
    let f : p * (n / s) ≤ m * s * (n / s) = mul-le-mul_right (n / s) low in
    let least : n / s ≤ n * m / p = le-div (n / s) (n * m) p some (lower n s m p (n / s) e f) in
    omega (arith, most, least)

-- whether a reciprocal is rounded up, and by less than one
abbrev is_rounded_up : ℕ → Bool
is_rounded_up s = nat_le unit (reciprocal s * s) && nat_le (reciprocal s * s + 1) (unit + s)

-- each sum of two counts, of which one isn't 0, has such a reciprocal
rounded_up : (k : ℕ) → k < 510 → is_rounded_up (k + 1) ≡ true
rounded_up k below = agree_below_at (λ k. is_rounded_up (k + 1)) (λ _. true) 510 k refl below

small_product : (z s : ℕ) → z * s ≤ 255 * s → s ≤ 510 → 256 * z * s ≤ unit
small_product z s a b = grind arith

-- the reciprocal of the sum of two counts, unless both are 0, is rounded up, and by less than one
of_counts : (zeros ones : ℕ) → 1 ≤ zeros + ones → zeros ≤ 255 → ones ≤ 255 → let s = zeros + ones in
    (unit ≤ reciprocal s * s) × (reciprocal s * s + 1 ≤ unit + s)
of_counts zeros ones some zm om =
    let s = zeros + ones in
    let k : zeros + ones - 1 + 1 ≡ zeros + ones = omega arith in
    let both : is_rounded_up (zeros + ones) ≡ true = rw k at (rounded_up (zeros + ones - 1) (omega arith)) in
    let parts = and_parts (nat_le unit (reciprocal s * s)) (nat_le (reciprocal s * s + 1) (unit + s)) both in
    (leb-true _ _ parts.0, leb-true _ _ parts.1)

-- the product by the reciprocal of the sum is the quotient by the sum
some_share : (zeros ones : ℕ) → 1 ≤ zeros + ones → zeros ≤ 255 → ones ≤ 255
    → 256 * zeros * reciprocal (zeros + ones) / unit ≡ 256 * zeros / (zeros + ones)
some_share zeros ones some zm om =
    let s = zeros + ones in
    let r = of_counts zeros ones some zm om in
    let sum : zeros + ones ≤ 510 = omega arith in
    let small : 256 * zeros * s ≤ unit = small_product zeros s (mul-le-mul_right s zm) sum in
    quotient_is (256 * zeros) s (reciprocal s) unit (omega arith) (omega arith) r.0 r.1 small

-- 256 of the units of a reciprocal are one of 2 to the -18
in_parts : (n : ℕ) → n / 262144 ≡ 256 * n / unit
in_parts n = omega arith

some_parts : (zeros ones : ℕ) → 1 ≤ zeros + ones → zeros ≤ 255 → ones ≤ 255
    → zeros * reciprocal (zeros + ones) / 262144 ≡ 256 * zeros / (zeros + ones)
some_parts zeros ones some zm om =
    let r = reciprocal (zeros + ones) in
    let e : 256 * (zeros * r) ≡ 256 * zeros * r = grind arith in
    in_parts (zeros * r) ∙ ap (λ n. n / unit) e ∙ some_share zeros ones some zm om

-- that quotient as a number of parts, for any two counts
pub parts_are : (zeros ones : ℕ) → zeros ≤ 255 → ones ≤ 255
    → zeros * reciprocal (zeros + ones) / 262144 ≡ 256 * zeros / (zeros + ones)
parts_are zero zero zm om = refl
parts_are zero (suc ones) zm om = some_parts zero (suc ones) (omega arith) zm om
parts_are (suc zeros) ones zm om = some_parts (suc zeros) ones (omega arith) zm om

below_all : (z o r : ℕ) → r * (z + o) + 1 ≤ unit + (z + o) → z + o ≤ 510 → z * r < 2 ^ 32
below_all z o r a b = grind arith

-- the product fits in 32 bits
pub product_fits : (zeros ones : ℕ) → zeros ≤ 255 → ones ≤ 255 → zeros * reciprocal (zeros + ones) < 2 ^ 32
product_fits zero ones zm om = grind arith
product_fits (suc zeros) ones zm om =
    let r = of_counts (suc zeros) ones (omega arith) zm om in
    below_all (suc zeros) ones (reciprocal (suc zeros + ones)) r.1 (omega arith)
