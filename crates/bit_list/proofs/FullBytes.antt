-- A test of all bytes of a number at once for 0xff. A byte of 0xff is a zero in the number's complement. One is taken
-- from each byte of that: below the lowest zero nothing is borrowed, so the zero becomes 0xff, whose highest bit is
-- found beside that of the number's own byte.
use Rattle.std.proofs.Common.{◌≡◌, ◌≢◌, ℕ, zero, suc, ◌+◌, ◌-◌, ◌*◌, ◌/◌, ◌%◌, ◌^◌, ◌<◌, sym, ap, ◌∙◌, arith, bit_and}
use Rattle.std.specs.Int.{bytes_high_first}
use Rattle.std.specs.List.{AllByRecursion}
use Rattle.std.proofs.lemmas.Nat.{pow-add, shr-shr, and_shr, and_mod, mod-pow-add, shr_high, mod_low, shr_below}
use Rattle.bit_list.proofs.WholeBytes.{byte_is}

-- one and 128 in each of k bytes
abbrev pub ones : ℕ → ℕ
ones zero = 0
ones (suc k) = ones k * 256 + 1

abbrev pub tops : ℕ → ℕ
tops zero = 0
tops (suc k) = tops k * 256 + 128

-- the complement less some number, at q bits
abbrev less : ℕ → ℕ → ℕ → ℕ
less power n one = (power - 1 - n + (power - one)) % power

-- what the test finds
abbrev pub tested : ℕ → ℕ → ℕ → ℕ → ℕ
tested power n one top = bit_and (bit_and (less power n one) n) top

-- the ones are below the power
ones_below : (k : ℕ) → ones k < 2 ^ (8 * k)
ones_below zero = omega arith
ones_below (suc k) =
    let h = ones_below k in
    let e : 8 * suc k ≡ 8 * k + 8 = omega arith in
    rw (e, pow-add 2 (8 * k) 8) (omega (arith, h))

-- a remainder, by its lowest byte and those above it
remainder : (q n : ℕ) → (n % 2 ^ (q + 8) / 256 ≡ n / 256 % 2 ^ q) × (n % 2 ^ (q + 8) % 256 ≡ n % 256)
remainder q n =
    let e = mod-pow-add n q 8 in
    let low : n % 2 ^ 8 < 2 ^ 8 = omega arith in (
      ap (λ (m : ℕ). m / 256) e ∙ shr_high (n / 2 ^ 8 % 2 ^ q) 8 (n % 2 ^ 8) low,
      ap (λ (m : ℕ). m % 256) e ∙ mod_low (n / 2 ^ 8 % 2 ^ q) 8 (n % 2 ^ 8) low,
    )

-- the lowest byte of what the test finds, and the others
low_tested : (x n top : ℕ) → bit_and (bit_and x n) top % 256 ≡ bit_and (bit_and (x % 256) (n % 256)) (top % 256)
low_tested x n top = and_mod (bit_and x n) top 8 ∙ ap (λ (m : ℕ). bit_and m (top % 256)) (and_mod x n 8)

high_tested : (x n top : ℕ) → bit_and (bit_and x n) top / 256 ≡ bit_and (bit_and (x / 256) (n / 256)) (top / 256)
high_tested x n top = and_shr (bit_and x n) top 8 ∙ ap (λ (m : ℕ). bit_and m (top / 256)) (and_shr x n 8)

-- the lowest byte isn't 0xff
lowest_other : (q n one top : ℕ) → n < 2 ^ (q + 8) → one < 2 ^ q → tested (2 ^ (q + 8)) n (one * 256 + 1) (top * 256 + 128) ≡ 0 → n % 256 ≢ 255
lowest_other q n one top below few none full =
    let p = 2 ^ q in
    let power : 2 ^ (q + 8) ≡ p * 256 = pow-add 2 q 8 in
    let sum = 2 ^ (q + 8) - 1 - n + (2 ^ (q + 8) - (one * 256 + 1)) in
    let last : sum % 256 ≡ 255 = omega (arith, power, below, few, full) in
    let x : less (2 ^ (q + 8)) n (one * 256 + 1) % 256 ≡ 255 = (remainder q sum).1 ∙ last in
    let t : (top * 256 + 128) % 256 ≡ 128 = omega arith in
    let found = sym (low_tested (less (2 ^ (q + 8)) n (one * 256 + 1)) n (top * 256 + 128)) ∙ ap (λ (m : ℕ). m % 256) none in
    let some : bit_and (bit_and 255 255) 128 ≡ 0 = rw (x, full, t) at found in
    cc

-- and the test of the bytes above it finds nothing
higher_none : (q n one top : ℕ) → n < 2 ^ (q + 8) → one < 2 ^ q → n % 256 ≢ 255 → tested (2 ^ (q + 8)) n (one * 256 + 1) (top * 256 + 128) ≡ 0
    → tested (2 ^ q) (n / 256) one top ≡ 0
higher_none q n one top below few other none =
    let p = 2 ^ q in
    let power : 2 ^ (q + 8) ≡ p * 256 = pow-add 2 q 8 in
    let sum = 2 ^ (q + 8) - 1 - n + (2 ^ (q + 8) - (one * 256 + 1)) in
    let above : sum / 256 ≡ p - 1 - n / 256 + (p - one) = omega (arith, power, below, few, other) in
    let x : less (2 ^ (q + 8)) n (one * 256 + 1) / 256 ≡ less p (n / 256) one = (remainder q sum).0 ∙ ap (λ (m : ℕ). m % p) above in
    let t : (top * 256 + 128) / 256 ≡ top = omega arith in
    let found = sym (high_tested (less (2 ^ (q + 8)) n (one * 256 + 1)) n (top * 256 + 128)) ∙ ap (λ (m : ℕ). m / 256) none in
    rw (x, t) at found

-- so none of them is 0xff
others : (k n : ℕ) → n < 2 ^ (8 * k) → tested (2 ^ (8 * k)) n (ones k) (tops k) ≡ 0 → (i : ℕ) → i < k → n / 2 ^ (8 * i) % 256 ≢ 255
others zero n below none i within = absurd (omega arith)
others (suc k) n below none zero within =
    let e : 8 * suc k ≡ 8 * k + 8 = omega arith in
    let whole : n / 2 ^ (8 * zero) ≡ n = omega arith in
    let other = lowest_other (8 * k) n (ones k) (tops k) (rw e at below) (ones_below k) (rw e at none) in
    λ full. other (ap (λ (m : ℕ). m % 256) (sym whole) ∙ full)
others (suc k) n below none (suc i) within =
    let e : 8 * suc k ≡ 8 * k + 8 = omega arith in
    let f : 8 + 8 * i ≡ 8 * suc i = omega arith in
    let other = lowest_other (8 * k) n (ones k) (tops k) (rw e at below) (ones_below k) (rw e at none) in
    let more = higher_none (8 * k) n (ones k) (tops k) (rw e at below) (ones_below k) other (rw e at none) in
    let shifted : n / 256 / 2 ^ (8 * i) ≡ n / 2 ^ (8 * suc i) = shr-shr n 8 (8 * i) ∙ ap (λ (j : ℕ). n / 2 ^ j) f in
    let next = others k (n / 256) (shr_below n (8 * k) 8 (rw e at below)) more i (omega arith) in
    λ full. next (ap (λ (m : ℕ). m % 256) shifted ∙ full)

each_other : (k n : ℕ) → ((i : ℕ) → i < k → n / 2 ^ (8 * i) % 256 ≢ 255) → AllByRecursion (λ byte. byte ≢ 255) (bytes_high_first k n)
each_other zero n each = tt
each_other (suc k) n each = (λ full. each k (omega arith) (sym (byte_is k n) ∙ full), each_other k n (λ i within. each i (omega arith)))

pub none_full : (n : ℕ) → n < 2 ^ 64 → tested (2 ^ 64) n 0x0101010101010101 0x8080808080808080 ≡ 0
    → AllByRecursion (λ byte. byte ≢ 255) (bytes_high_first 8 n)
none_full n below none = each_other 8 n (others 8 n below none)
