-- A value's category, and the value from its bits.
use Rattle.std.proofs.Common.{◌≡◌, ℕ, zero, suc, ◌+◌, ◌-◌, ◌*◌, ◌/◌, ◌%◌, ◌^◌, ◌<◌, ◌≤◌, Bool, true, false, ◌==◌, List, [], ◌∷◌, length, ℤ, pos, negsuc, neg_ℤ, unsigned_abs, refl, sym, ap, ap₂, ◌∙◌, inl, inr, arith, add-one, pow-suc}
use Rattle.std.specs.Int.{bit_at}
use Rattle.std.specs.Int.Digits.{digits_of}
use Rattle.std.proofs.lemmas.Bool.{cases_lt, false≢true}
use Rattle.std.proofs.lemmas.Nat.{shr_high}
use Rattle.std.proofs.lemmas.Nat.Bits.{bit_at_above}
use Rattle.std.specs.Int.Signed.{le_z}
use Rattle.std.proofs.lemmas.Int.{ints}
use Rattle.std.proofs.lemmas.Int.Digits.{length-digits_of_step, length-digits_of-le, number_lt, number_digits_of, all_below_base_digits_of}
use Rattle.bit_list.specs.Bits.{low_bits, number_of}
use Rattle.bit_list.specs.NumbersOfBits.{length-low_bits, number_again}
use Rattle.bit_list.proofs.LowBits.{bits_again, number_below}
use Rattle.coef_block.specs.Categories.{category as size}
use Rattle.coef_block.proofs.CategoryLemmas.{size_of_bound, category_is_least as size_is_least}
use Rattle.scan_spec.specs.ValueBits.{mag, extend}

-- a magnitude below a power has no more bits than that
pub small_size : (m n : ℕ) → n < 2 ^ m → size n ≤ m
small_size m n below = length-digits_of-le 2 m n (omega arith) below

-- a magnitude fits its bits
pub size_below : (n : ℕ) → n < 2 ^ size n
size_below n =
    let fits = number_lt 2 (digits_of 2 n) (all_below_base_digits_of 2 n (omega arith)) in
    rw (number_digits_of 2 n (omega arith)) at fits

-- and one of them less is too few
size_least : (k n : ℕ) → size n ≡ suc k → 2 ^ k ≤ n
size_least k n is =
    elim (cases_lt n (2 ^ k)) [
      | inl below ↦ absurd (omega (arith, is, small_size k n below))
      | inr least ↦ least
    ]

-- a magnitude other than 0 has bits
pub size_some : (n : ℕ) → 0 < n → (k : ℕ) × (size n ≡ suc k)
size_some n some = (size (n / 2), omega (arith, length-digits_of_step 2 n (omega arith) some))

-- the same of a value: what the function `size` ensures gives the definition
pub size_is : (x : ℤ) (r : ℕ) → unsigned_abs x < 2 ^ r → (0 < r → 2 ^ (r - 1) ≤ unsigned_abs x) → r ≡ size (unsigned_abs x)
size_is x r below least = size_is_least r (unsigned_abs x) below least

-- the highest bit of a number with so many bits is a one
first_one : (k n : ℕ) → n < 2 ^ suc k → 2 ^ k ≤ n → (bit_at n k == 1) ≡ true
first_one k n below least =
    let whole : 1 * 2 ^ k + (n - 2 ^ k) ≡ n = omega arith in
    let shifted = shr_high 1 k (n - 2 ^ k) (omega (arith, pow-suc 2 k)) in
    ap (λ (q : ℕ). q % 2 == 1) (ap (λ (m : ℕ). m / 2 ^ k) (sym whole) ∙ shifted)

-- and that of a number with fewer bits is a zero
first_zero : (k n : ℕ) → n < 2 ^ k → (bit_at n k == 1) ≡ false
first_zero k n below = ap (λ (bit : ℕ). bit == 1) (bit_at_above n k k below (omega arith))

-- a number with so many bits is the value of them
pub extend_high : (k n : ℕ) → n < 2 ^ suc k → 2 ^ k ≤ n → extend (low_bits (suc k) n) ≡ pos n
extend_high k n below least =
    let first = first_one k n below least in
    ap (λ (bit : Bool). extend (bit ∷ low_bits k n)) first
    ∙ ap (λ (bit : Bool). pos (number_of (bit ∷ low_bits k n))) (sym first)
    ∙ ap pos (number_again (suc k) n below)

-- a number with fewer bits gives what is left of it up to all ones, from below
pub extend_low : (k n : ℕ) → n < 2 ^ k → extend (low_bits (suc k) n) ≡ neg_ℤ (pos (2 ^ suc k - 1 - n))
extend_low k n below =
    let first = first_zero k n below in
    ap (λ (bit : Bool). extend (bit ∷ low_bits k n)) first
    ∙ ap (λ (bit : Bool). neg_ℤ (pos (2 ^ length (bit ∷ low_bits k n) - 1 - number_of (bit ∷ low_bits k n)))) (sym first)
    ∙ ap₂ (λ (count number : ℕ). neg_ℤ (pos (2 ^ count - 1 - number))) (length-low_bits (suc k) n) (number_again (suc k) n (omega (arith, pow-suc 2 k)))

-- from all ones twice is the number again
twice_from : (p n : ℕ) → n < p → p - 1 - (p - 1 - n) ≡ n
twice_from p n below = omega arith

-- a value above 0 from its bits
above_again : (n k : ℕ) → size n ≡ suc k → extend (low_bits (size n) n) ≡ pos n
above_again n k is =
    let below : n < 2 ^ suc k = rw is at (size_below n) in
    ap (λ (count : ℕ). extend (low_bits count n)) is ∙ extend_high k n below (size_least k n is)

-- and one below 0
below_again : (n k : ℕ) → size n ≡ suc k → extend (low_bits (size n) (2 ^ size n - 1 - n)) ≡ neg_ℤ (pos n)
below_again n k is =
    let below : n < 2 ^ suc k = rw is at (size_below n) in
    let least = size_least k n is in
    ap (λ (count : ℕ). extend (low_bits count (2 ^ count - 1 - n))) is
    ∙ extend_low k (2 ^ suc k - 1 - n) (omega (arith, pow-suc 2 k))
    ∙ ap (λ (m : ℕ). neg_ℤ (pos m)) (twice_from (2 ^ suc k) n below)

-- a value is told by its bits
pub value_again : (value : ℤ) → extend (mag value) ≡ value
value_again (pos zero) = refl
value_again (pos (suc n)) = let some = size_some (suc n) (omega arith) in above_again (suc n) some.0 some.1
value_again (negsuc n) =
    let some = size_some (n + 1) (omega arith) in
    below_again (n + 1) some.0 some.1 ∙ ap (λ (m : ℕ). neg_ℤ (pos m)) (add-one n)

-- the first of some bits
first_of_bits : (bit : Bool) (bits : List Bool) → (bit_at (number_of (bit ∷ bits)) (length bits) == 1) ≡ bit
first_of_bits bit bits = let same = bits_again (bit ∷ bits) in cc

-- bits that begin with a one spell a number of no fewer bits
least_of_bits : (bits : List Bool) → 2 ^ length bits ≤ number_of (true ∷ bits)
least_of_bits bits =
    elim (cases_lt (number_of (true ∷ bits)) (2 ^ length bits)) [
      | inl below ↦ absurd (false≢true (sym (first_zero (length bits) (number_of (true ∷ bits)) below) ∙ first_of_bits true bits))
      | inr least ↦ least
    ]

-- and those that begin with a zero one of fewer
most_of_bits : (bits : List Bool) → number_of (false ∷ bits) < 2 ^ length bits
most_of_bits bits =
    elim (cases_lt (number_of (false ∷ bits)) (2 ^ length bits)) [
      | inl below ↦ below
      | inr least ↦ absurd (false≢true (sym (first_of_bits false bits) ∙ first_one (length bits) (number_of (false ∷ bits)) (number_below (false ∷ bits)) least))
    ]

-- the bits of a value from below, by its magnitude
mag_below : (m count n : ℕ) → 0 < m → count ≡ size m → m ≡ 2 ^ count - 1 - n → n < 2 ^ count → mag (neg_ℤ (pos m)) ≡ low_bits count n
mag_below zero count n some is from below = absurd (omega arith)
mag_below (suc j) count n some is from below =
    ap (λ (m : ℕ). low_bits (size m) (2 ^ size m - 1 - m)) (add-one j)
    ∙ ap (λ (c : ℕ). low_bits c (2 ^ c - 1 - suc j)) (sym is)
    ∙ ap (λ (m : ℕ). low_bits count (2 ^ count - 1 - m)) from
    ∙ ap (low_bits count) (twice_from (2 ^ count) n below)

-- bits are told by their value
pub bits_again_of_value : (bits : List Bool) → mag (extend bits) ≡ bits
bits_again_of_value [] = refl
bits_again_of_value (true ∷ bits) =
    let n = number_of (true ∷ bits) in
    let least = least_of_bits bits in
    let is : suc (length bits) ≡ size n = size_of_bound (suc (length bits)) n (number_below (true ∷ bits)) (omega (arith, pow-suc 2 (length bits), least)) in
    ap (λ (count : ℕ). low_bits count n) (sym is) ∙ bits_again (true ∷ bits)
bits_again_of_value (false ∷ bits) =
    let n = number_of (false ∷ bits) in
    let count = suc (length bits) in
    let most = most_of_bits bits in
    let twice : 2 ^ count ≡ 2 * 2 ^ length bits = omega (arith, pow-suc 2 (length bits)) in
    let is : count ≡ size (2 ^ count - 1 - n) = size_of_bound count (2 ^ count - 1 - n) (omega (arith, twice, most)) (omega (arith, twice, most)) in
    mag_below (2 ^ count - 1 - n) count n (omega (arith, twice, most)) is refl (omega (arith, twice, most)) ∙ bits_again (false ∷ bits)

-- a value has as many bits as its category says
pub length-mag : (value : ℤ) → length (mag value) ≡ size (unsigned_abs value)
length-mag (pos n) = length-low_bits (size n) n
length-mag (negsuc n) = length-low_bits (size (n + 1)) (2 ^ size (n + 1) - 1 - (n + 1)) ∙ ap size (add-one n)

-- a value from below has the bits of all ones less its magnitude
pub mag_negative : (value : ℤ) (count : ℕ) → le_z (pos 0) value ≡ false → count ≡ size (unsigned_abs value) → mag value ≡ low_bits count (2 ^ count - 1 - unsigned_abs value)
mag_negative (pos n) count negative is = absurd (false≢true (sym negative ∙ grind (arith, ints)))
mag_negative (negsuc n) count negative is =
    ap (λ (m : ℕ). low_bits (size m) (2 ^ size m - 1 - m)) (add-one n) ∙ ap (λ (c : ℕ). low_bits c (2 ^ c - 1 - suc n)) (sym is)
