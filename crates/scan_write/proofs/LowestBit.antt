-- A number without the lowest of its bits that are 1.
use Rattle.std.proofs.Common.{◌≡◌, ◌≢◌, ℕ, zero, suc, ◌+◌, ◌-◌, ◌*◌, ◌/◌, ◌%◌, ◌^◌, ◌<◌, sym, ap, ◌∙◌, arith, inl, inr, bit_and}
use Rattle.std.specs.Int.{bit_at}
use Rattle.std.proofs.Math.Nat.{add-mul}
use Rattle.std.proofs.lemmas.Bool.{cases_lt}
use Rattle.std.proofs.lemmas.Nat.{mod-pow-add, pow_pos, shr_high, shr-shr, shr_split}
use Rattle.std.proofs.lemmas.Nat.Bits.{bit_at_and}

-- nothing is below bits that are 0
low_zeros : (i n : ℕ) → ((lower : ℕ) → lower < i → bit_at n lower ≡ 0) → n % 2 ^ i ≡ 0
low_zeros zero n none = omega arith
low_zeros (suc i) n none =
    let s : suc i ≡ 1 + i = omega arith in
    let e : n % 2 ^ suc i ≡ n / 2 ^ i % 2 * 2 ^ i + n % 2 ^ i = rw s (mod-pow-add n 1 i) in
    let bit : n / 2 ^ i % 2 ≡ 0 = none i (omega arith) in
    let less = low_zeros i n (λ lower within. none lower (omega arith)) in
    rw (e, bit, less) (omega arith)

-- what is above a place, by the bit there
above : (n i j : ℕ) → n / 2 ^ (i + 1 + j) ≡ n / 2 ^ i / 2 / 2 ^ j
above n i j = sym (shr-shr n (i + 1) j) ∙ ap (λ (m : ℕ). m / 2 ^ j) (sym (shr-shr n i 1))

-- one less has a zero at the lowest one, and the same bits above it
one_less : (n i : ℕ) → bit_at n i ≡ 1 → ((lower : ℕ) → lower < i → bit_at n lower ≡ 0) → (n - 1) / 2 ^ i ≡ n / 2 ^ i - 1
one_less n i here none =
    let upper = n / 2 ^ i in
    let low = low_zeros i n none in
    let some : upper ≡ upper - 1 + 1 = omega (arith, here) in
    let whole : n ≡ upper * 2 ^ i = omega (arith, shr_split n i, low) in
    let parts : n ≡ (upper - 1) * 2 ^ i + 1 * 2 ^ i = whole ∙ ap (λ (m : ℕ). m * 2 ^ i) some ∙ add-mul (upper - 1) 1 (2 ^ i) in
    let less : n - 1 ≡ (upper - 1) * 2 ^ i + (2 ^ i - 1) = omega (arith, parts, pow_pos i) in
    ap (λ (m : ℕ). m / 2 ^ i) less ∙ shr_high (upper - 1) i (2 ^ i - 1) (omega (arith, pow_pos i))

pub cleared : (n i : ℕ) → bit_at n i ≡ 1 → ((lower : ℕ) → lower < i → bit_at n lower ≡ 0)
    → (bit_at (bit_and n (n - 1)) i ≡ 0) × ((other : ℕ) → other ≢ i → bit_at (bit_and n (n - 1)) other ≡ bit_at n other)
cleared n i here none =
    let less = one_less n i here none in
    let upper = n / 2 ^ i in
    let bit : bit_at (n - 1) i ≡ 0 = omega (arith, ap (λ (m : ℕ). m % 2) less, here) in (
      omega (arith, bit_at_and n (n - 1) i, bit),
      λ other apart. elim (cases_lt other i) [
        | inl lower ↦ omega (arith, bit_at_and n (n - 1) other, none other lower)
        | inr higher ↦
            let j = other - i - 1 in
            let place : i + 1 + j ≡ other = omega (arith, apart) in
            let half : (upper - 1) / 2 ≡ upper / 2 = omega (arith, here) in
            let same : (n - 1) / 2 ^ (i + 1 + j) ≡ n / 2 ^ (i + 1 + j) =
            above (n - 1) i j ∙ ap (λ (m : ℕ). m / 2 / 2 ^ j) less ∙ ap (λ (m : ℕ). m / 2 ^ j) half ∙ sym (above n i j) in
            let there : bit_at (n - 1) other ≡ bit_at n other = ap (λ (m : ℕ). m % 2) (rw place at same) in
            omega (arith, bit_at_and n (n - 1) other, there)
      ],
    )
