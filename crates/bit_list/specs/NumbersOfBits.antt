-- Law: a number is what its bits give back (own).
use Rattle.std.specs.Prelude.{◌≡◌, ℕ, zero, suc, ◌+◌, ◌*◌, ◌/◌, ◌%◌, ◌^◌, ◌<◌, Bool, ◌==◌, if◌then◌else◌, List, length, fold, refl}
use Rattle.std.proofs.Common.{sym, ap, ap₂, ◌∙◌, arith}
use Rattle.std.proofs.Math.Nat.{pow-suc}
use Rattle.std.proofs.lemmas.Nat.{mod-pow-add, mod_low}
use Rattle.bit_list.specs.Bits.{low_bits, number_of}

-- k low bits are k bits
pub length-low_bits : (k n : ℕ) → length (low_bits k n) ≡ k
length-low_bits zero n = refl
length-low_bits (suc k) n = ap suc (length-low_bits k n)

-- a number below a power is what is left of it
pub mod_small : (k n : ℕ) → n < 2 ^ k → n % 2 ^ k ≡ n
mod_small k n h = let e : 0 * 2 ^ k + n ≡ n = omega arith in rw e at (mod_low 0 k n h)

-- a bit as a number
bit_number : (bit : ℕ) → bit < 2 → (if bit == 1 then 1 else 0) ≡ bit
bit_number zero h = refl
bit_number (suc zero) h = refl
bit_number (suc (suc n)) h = absurd (omega arith)

-- the number that bits make after those of a number
abbrev number_after : ℕ → List Bool → ℕ
number_after before bits = fold (λ (n : ℕ) (bit : Bool). 2 * n + (if bit then 1 else 0)) before bits

-- one more bit
one_more : (before bit p low whole : ℕ) → whole ≡ bit * p + low
    → (2 * before + bit) * p + low ≡ before * (p * 2) + whole
one_more before bit p low whole e = omega arith

-- the low bits of a number
low_bits_after : (before k n : ℕ) → number_after before (low_bits k n) ≡ before * 2 ^ k + n % 2 ^ k
low_bits_after before zero n = omega arith
low_bits_after before (suc k) n =
    let s : suc k ≡ 1 + k = omega arith in
    let bit = n / 2 ^ k % 2 in
    let whole : n % 2 ^ suc k ≡ bit * 2 ^ k + n % 2 ^ k = rw s (mod-pow-add n 1 k) in
    ap (λ (b : ℕ). number_after (2 * before + b) (low_bits k n))
    (bit_number bit (omega arith)) ∙ low_bits_after (2 * before + bit) k n
    ∙ one_more before bit (2 ^ k) (n % 2 ^ k) (n % 2 ^ suc k) whole ∙ ap
    (λ (p : ℕ). before * p + n % 2 ^ suc k) (sym (pow-suc 2 k))

-- the low bits of a number that has no others spell it
pub number_again : (k n : ℕ) → n < 2 ^ k → number_of (low_bits k n) ≡ n
number_again k n h =
    low_bits_after 0 k n ∙ (let e : 0 * 2 ^ k + n % 2 ^ k ≡ n % 2 ^ k = omega arith
    in e ∙ mod_small k n h)

-- so whatever is made of both gives itself back
pub kept_again : {R : Type 0} (make : ℕ → ℕ → R) (number count : ℕ) → number < 2 ^ count
    → make (number_of (low_bits count number)) (length (low_bits count number)) ≡ make number count
kept_again make number count below =
    ap₂ make (number_again count number below) (length-low_bits count number)
