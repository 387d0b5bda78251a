-- A bin after one bit more, by the share of its counts.
use Rattle.std.specs.Prelude.{◌≡◌, ℕ, zero, suc, ◌+◌, ◌*◌, ◌/◌, ◌%◌, ◌<◌, ◌≤◌, ◌==◌, Bool, true, false, if◌then◌else◌, refl}
use Rattle.std.proofs.Common.{inl, inr, ◌∙◌, ap, arith}
use Rattle.std.proofs.lemmas.Bool.{cases_lt}
use Rattle.std.proofs.lemmas.Bool.Decides.{nat_tests}
use Rattle.std.proofs.lemmas.Nat.{le-div, div_below}
use Rattle.adapt_bins.specs.Counts.{counts, halved, raised, counted}
use Rattle.adapt_bins.specs.Shares.{share_at}
use Rattle.adapt_bins.specs.BinInside.{IsBin}

-- no zeros have no share
of_no_zeros : (ones : ℕ) → 256 * 0 / (0 + ones) % 256 ≡ 0
of_no_zeros zero = refl
of_no_zeros (suc ones) =
    let none = div_below (256 * 0) (0 + suc ones) 1 (omega arith) (omega arith) in
    omega (arith, none)

-- zeros alone have all, which is 0 in a byte
of_no_ones : (zeros : ℕ) → 1 ≤ zeros → 256 * zeros / (zeros + 0) % 256 ≡ 0
of_no_ones zeros some =
    let most = div_below (256 * zeros) (zeros + 0) 257 (omega arith) (omega arith) in
    let least = le-div 256 (256 * zeros) (zeros + 0) (omega arith) (omega arith) in
    omega (arith, most, least)

-- a share that isn't 0 is of zeros
has_zeros : (both : ℕ) → (share_at both ≡ 0 → ⊥) → 1 ≤ both % 256
has_zeros both some = elim (cases_lt 0 (both % 256)) [
  | inl h ↦ h
  | inr h ↦
      let none : both % 256 ≡ 0 = omega (arith, h) in
      absurd (some (rw none (of_no_zeros (both / 256))))
]

-- and of ones
has_ones : (both : ℕ) → (share_at both ≡ 0 → ⊥) → 1 ≤ both / 256
has_ones both some = elim (cases_lt 0 (both / 256)) [
  | inl h ↦ h
  | inr h ↦
      let none : both / 256 ≡ 0 = omega (arith, h) in
      absurd (some (rw none (of_no_ones (both % 256) (has_zeros both some))))
]

-- the share of two counts of which that of ones isn't 0 is below 256
is_share : (zeros ones : ℕ) → 1 ≤ ones → 256 * zeros / (zeros + ones) % 256 ≡ 256 * zeros / (zeros + ones)
is_share zeros ones some =
    let most = div_below (256 * zeros) (zeros + ones) 256 (omega arith) (omega arith) in
    omega (arith, most)

-- what isn't 0 is from 1 on
above_zero : (n : ℕ) → (n ≡ 0 → ⊥) → 1 ≤ n
above_zero zero some = absurd (some refl)
above_zero (suc n) some = omega arith

-- what is kept of counts whose share isn't 0
pub is_bin : (both zeros ones prob : ℕ) → zeros ≡ both % 256 → ones ≡ both / 256 → prob ≡ share_at both
    → (prob ≡ 0 → ⊥) → IsBin (record { zeros = zeros; ones = ones; prob = prob })
is_bin both less more prob low high is some =
    let share : share_at both ≡ 0 → ⊥ = λ none. some (is ∙ none) in
    record {
      zeros = rw low (has_zeros both share);
      ones = rw high (has_ones both share);
      prob = rw (low, high) (is ∙ is_share (both % 256) (both / 256) (has_ones both share));
      some = above_zero prob some;
    }

-- a zero more, where there is room for it
zero_more : (zeros ones : ℕ) → (zeros == 255) ≡ false → counted (counts zeros ones) false ≡ counts (zeros + 1) ones
zero_more zeros ones room =
    ap (λ t. raised (if t then halved (counts zeros ones) else counts zeros ones) false) room

-- a one more
one_more : (zeros ones : ℕ) → (ones == 255) ≡ false → counted (counts zeros ones) true ≡ counts zeros (ones + 1)
one_more zeros ones room =
    ap (λ t. raised (if t then halved (counts zeros ones) else counts zeros ones) true) room

-- the counts after a bit, if both are from 1 on in one sum
after_bit : (zeros ones new : ℕ) (bit : Bool) → 1 ≤ zeros → zeros < 256 → ones < 256
    → new ≡ (zeros + 256 * ones + (if bit then 256 else 1)) % 65536 → 1 ≤ new % 256 → 1 ≤ new / 256
    → counts (new % 256) (new / 256) ≡ counted (counts zeros ones) bit
after_bit zeros ones new true some low high is more_zeros more_ones =
    let room : ones < 255 = omega (arith, some, low, high, is, more_zeros, more_ones) in
    let test : (ones == 255) ≡ false = grind (arith, nat_tests) in
    let e : new % 256 ≡ zeros = omega (arith, some, low, is, room) in
    let f : new / 256 ≡ ones + 1 = omega (arith, some, low, is, room) in
    rw (one_more zeros ones test, e, f) refl
after_bit zeros ones new false some low high is more_zeros more_ones =
    let room : zeros < 255 = omega (arith, some, low, high, is, more_zeros, more_ones) in
    let test : (zeros == 255) ≡ false = grind (arith, nat_tests) in
    let e : new % 256 ≡ zeros + 1 = omega (arith, some, high, is, room) in
    let f : new / 256 ≡ ones = omega (arith, some, high, is, room) in
    rw (zero_more zeros ones test, e, f) refl

-- a bin after a bit, by a share that isn't 0
pub counts_bit : (zeros ones new prob : ℕ) (bit : Bool) → 1 ≤ zeros → zeros < 256 → ones < 256
    → new ≡ (zeros + 256 * ones + (if bit then 256 else 1)) % 65536 → prob ≡ share_at new → (prob ≡ 0 → ⊥)
    → counts (new % 256) (new / 256) ≡ counted (counts zeros ones) bit
counts_bit zeros ones new prob bit least low high is share some =
    let s : share_at new ≡ 0 → ⊥ = λ none. some (share ∙ none) in
    after_bit zeros ones new bit least low high is (has_zeros new s) (has_ones new s)
