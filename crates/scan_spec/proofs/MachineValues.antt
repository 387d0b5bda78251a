-- A value of so many bits, as the machine makes it.
use Rattle.std.proofs.Common.{◌≡◌, ℕ, zero, suc, ◌+◌, ◌-◌, ◌*◌, ◌/◌, ◌%◌, ◌^◌, ◌<◌, ◌≤◌, ℤ, pos, neg_ℤ, ◌-ℤ◌, ◌+ℤ◌, unsigned_abs, sym, ap, ap₂, ◌∙◌, arith, zero-add, inl, inr}
use Rattle.std.proofs.lemmas.Bool.{cases_lt}
use Rattle.std.specs.Int.{w32}
use Rattle.std.proofs.lemmas.Int.{ints, to_z-of_z}
use Rattle.std.proofs.lemmas.Nat.{one_shl, pow_pos, shr_below}
use Rattle.std.proofs.Math.Pow.{pow_mono}
use mir.Val.{to_z, of_z}
use Rattle.bit_list.specs.Bits.{low_bits}
use Rattle.scan_spec.proofs.ValueLemmas.{extend_high, extend_low}
use Rattle.scan_spec.specs.ValueBits.{extend}
use Rattle.scan_spec.proofs.SignedValues.{fits}

pub kept_word : (z : ℤ) → unsigned_abs z ≤ 65534 → to_z w32 (of_z w32 z) ≡ z
kept_word z h = to_z-of_z w32 z (fits z h)

minus : (p n : ℕ) → n < p → pos n -ℤ (pos p -ℤ pos 1) ≡ neg_ℤ (pos (p - 1 - n))
minus p n h = omega (arith, ints)

one_less : (p : ℕ) → 0 < p → p ≤ 2048 → unsigned_abs (pos p -ℤ pos 1) ≤ 65534
one_less p some few = omega (arith, ints)

difference_few : (p n : ℕ) → n < p → p ≤ 2048 → unsigned_abs (pos n -ℤ (pos p -ℤ pos 1)) ≤ 65534
difference_few p n below few = omega (arith, ints)

all_ones : (p : ℕ) → 0 < p → pos (p - 1) ≡ pos p -ℤ pos 1
all_ones p some = omega (arith, ints)

nothing_less : (n : ℕ) → pos n -ℤ pos 0 ≡ pos n
nothing_less n = omega (arith, ints)

abbrev made : ℤ → ℤ
made z = to_z w32 (of_z w32 z)

-- a value from its bits, less all ones where the first one is a zero
pub extended : (bits size less : ℕ) (number taken : ℤ) → 0 < size → size ≤ 11 → bits < 2 ^ size → number ≡ pos bits → taken ≡ pos less
    → (bits < 2 ^ (size - 1) → less ≡ 2 ^ size - 1) → (2 ^ (size - 1) ≤ bits → less ≡ 0)
    → to_z w32 (of_z w32 (to_z w32 (of_z w32 number) -ℤ to_z w32 (of_z w32 taken))) ≡ extend (low_bits size bits)
extended bits zero less number taken some few below is gone low high = absurd (omega arith)
extended bits (suc k) less number taken some few below is gone low high =
    let one : suc k - 1 ≡ k = omega arith in
    let p = 2 ^ suc k in
    let most : p ≤ 2 ^ 11 = pow_mono few in
    let positive : 0 < p = omega (arith, pow_pos (suc k)) in
    let first : made number ≡ pos bits = ap made is ∙ kept_word (pos bits) (omega (arith, below, most)) in
    elim (cases_lt bits (2 ^ k)) [
      | inl under ↦ (
          let whole : less ≡ p - 1 = low (rw one under) in
          let second : made taken ≡ pos p -ℤ pos 1 = ap made (gone ∙ ap pos whole ∙ all_ones p positive) ∙ kept_word (pos p -ℤ pos 1) (one_less p positive (omega (arith, most))) in
          ap₂ (λ (a b : ℤ). made (a -ℤ b)) first second
          ∙ kept_word (pos bits -ℤ (pos p -ℤ pos 1)) (difference_few p bits below (omega (arith, most)))
          ∙ minus p bits below ∙ sym (extend_low k bits under)
          )
      | inr over ↦ (
          let none : less ≡ 0 = high (rw one over) in
          let second : made taken ≡ pos 0 = ap made (gone ∙ ap pos none) ∙ kept_word (pos 0) (omega arith) in
          ap₂ (λ (a b : ℤ). made (a -ℤ b)) first second ∙ ap made (nothing_less bits)
          ∙ kept_word (pos bits) (omega (arith, below, most)) ∙ sym (extend_high k bits below over)
          )
    ]

-- all ones, where the first bit is a zero
pub ones_less : (bits size : ℕ) → size ≤ 11 → bits < 2 ^ (size - 1) → (1 - bits / 2 ^ (size - 1)) * (1 * 2 ^ size % 65536 - 1) ≡ 2 ^ size - 1
ones_less bits size few under =
    let k = size - 1 in
    let e : 0 + k ≡ k = zero-add k in
    let none : bits / 2 ^ k < 2 ^ 0 = shr_below bits 0 k (rw e under) in
    let zero : bits / 2 ^ k ≡ 0 = omega (arith, none) in
    rw (zero, one_shl size 16 (omega (arith, few))) (omega arith)

-- a sum, as the machine adds
pub sum_is : (a b : ℤ) → unsigned_abs a ≤ 32767 → unsigned_abs b ≤ 2047 → to_z w32 (of_z w32 (a +ℤ b)) ≡ a +ℤ b
sum_is a b small few = let most : unsigned_abs (a +ℤ b) ≤ 65534 = omega (arith, ints) in kept_word (a +ℤ b) most

-- a DC after one before
pub dc_sum : (before difference from : ℤ) → unsigned_abs before ≤ 32767 → unsigned_abs difference ≤ 2047 → from ≡ before
    → to_z w32 (of_z w32 (to_z w32 (of_z w32 from) +ℤ to_z w32 (of_z w32 difference))) ≡ before +ℤ difference
dc_sum before difference from small few is =
    ap₂ (λ (a b : ℤ). made (a +ℤ b)) (ap made is ∙ kept_word before (omega (arith, small))) (kept_word difference (omega (arith, few))) ∙ sum_is before difference small few

pub few_bits : (size : ℕ) (v : ℤ) → size ≤ 11 → unsigned_abs v < 2 ^ size → unsigned_abs v ≤ 2047
few_bits size v few below = let most : 2 ^ size ≤ 2 ^ 11 = pow_mono few in omega (arith, most, below)
