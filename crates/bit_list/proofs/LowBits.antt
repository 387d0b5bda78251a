-- The low bits of numbers, cut and joined.
use Rattle.std.proofs.Common.{◌≡◌, ℕ, zero, suc, ◌+◌, ◌*◌, ◌/◌, ◌%◌, ◌^◌, ◌<◌, Bool, true, false, ◌==◌, if◌then◌else◌, fold, List, [], ◌∷◌, ◌++◌, length, take, drop, refl, sym, ap, ap₂, ◌∙◌, arith, zero-add}
use Rattle.std.proofs.Math.Nat.{pow-suc}
use Rattle.std.proofs.Math.Pow.{mod-mod-pow}
use Rattle.std.proofs.lemmas.List.{take_at, drop_at}
use Rattle.std.proofs.lemmas.Nat.{shr-shr, field_of, shr_high, mod_low, mul-add-lt}
use Rattle.bit_list.specs.Bits.{low_bits, number_of}
use Rattle.bit_list.specs.NumbersOfBits.{length-low_bits, mod_small}

-- the upper ones, and then the lower
pub low_bits-append : (a b n : ℕ) → low_bits (a + b) n ≡ low_bits a (n / 2 ^ b) ++ low_bits b n
low_bits-append zero b n = rw zero-add refl
low_bits-append (suc a) b n =
    let e : suc a + b ≡ suc (a + b) = omega arith in
    let turned : a + b ≡ b + a = omega arith in
    let h : n / 2 ^ (a + b) ≡ n / 2 ^ b / 2 ^ a = ap (λ (k : ℕ). n / 2 ^ k) turned ∙ sym (shr-shr n b a) in
    rw e (ap₂ (λ (q : ℕ) (bits : List Bool). (q % 2 == 1) ∷ bits) h (low_bits-append a b n))

-- the bits above them don't matter
pub low_bits-same : (k m n : ℕ) → m % 2 ^ k ≡ n % 2 ^ k → low_bits k m ≡ low_bits k n
low_bits-same zero m n e = refl
low_bits-same (suc k) m n e =
    let s : suc k ≡ 1 + k = omega arith in
    let f : m % 2 ^ (1 + k) ≡ n % 2 ^ (1 + k) = rw s at e in
    let top : m / 2 ^ k % 2 ≡ n / 2 ^ k % 2 = sym (field_of m 1 k) ∙ ap (λ (x : ℕ). x / 2 ^ k) f ∙ field_of n 1 k in
    let low : m % 2 ^ k ≡ n % 2 ^ k = sym (mod-mod-pow m 1 k) ∙ ap (λ (x : ℕ). x % 2 ^ k) f ∙ mod-mod-pow n 1 k in
    ap₂ (λ (bit : ℕ) (bits : List Bool). (bit == 1) ∷ bits) top (low_bits-same k m n low)

-- two numbers' bits are those of one
pub low_bits-join : (a b v w : ℕ) → w < 2 ^ b → low_bits (a + b) (v * 2 ^ b + w) ≡ low_bits a v ++ low_bits b w
low_bits-join a b v w h =
    low_bits-append a b (v * 2 ^ b + w)
    ∙ ap₂ (λ (xs ys : List Bool). xs ++ ys) (ap (low_bits a) (shr_high v b w h)) (low_bits-same b _ _ (mod_low v b w h ∙ sym (mod_small b w h)))

-- the first of them
pub take-low_bits : (a b n : ℕ) → take a (low_bits (a + b) n) ≡ low_bits a (n / 2 ^ b)
take-low_bits a b n = ap (take a) (low_bits-append a b n) ∙ take_at (low_bits a (n / 2 ^ b)) (low_bits b n) a (length-low_bits a (n / 2 ^ b))

-- those after them
pub drop-low_bits : (a b n : ℕ) → drop a (low_bits (a + b) n) ≡ low_bits b n
drop-low_bits a b n = ap (drop a) (low_bits-append a b n) ∙ drop_at (low_bits a (n / 2 ^ b)) (low_bits b n) a (length-low_bits a (n / 2 ^ b))

-- bits after a number
after_is : (before : ℕ) (bits : List Bool)
    → fold (λ (n : ℕ) (bit : Bool). 2 * n + (if bit then 1 else 0)) before bits ≡ before * 2 ^ length bits + number_of bits
after_is before [] = omega arith
after_is before (bit ∷ bits) =
    let b = if bit then 1 else 0 in
    let here = after_is (2 * before + b) bits in
    let alone = after_is (2 * 0 + b) bits in
    rw pow-suc (omega (arith, here, alone))

-- the first bit, and those after it
number_first : (bit : Bool) (bits : List Bool) → number_of (bit ∷ bits) ≡ (if bit then 1 else 0) * 2 ^ length bits + number_of bits
number_first bit bits = let h = after_is (2 * 0 + (if bit then 1 else 0)) bits in omega (arith, h)

-- a bit is below two
bit_below : (bit : Bool) → (if bit then 1 else 0) < 2
bit_below true = omega arith
bit_below false = omega arith

-- bits spell a number that fits them
pub number_below : (bits : List Bool) → number_of bits < 2 ^ length bits
number_below [] = omega arith
number_below (bit ∷ bits) =
    rw (number_first bit bits, pow-suc)
    (omega (arith, mul-add-lt (if bit then 1 else 0) (2 ^ length bits) (number_of bits) 2 (bit_below bit) (number_below bits)))

-- a bit's bit
one_bit : (bit : Bool) → low_bits 1 (if bit then 1 else 0) ≡ bit ∷ []
one_bit true = refl
one_bit false = refl

-- the number that bits spell has these bits
pub bits_again : (bits : List Bool) → low_bits (length bits) (number_of bits) ≡ bits
bits_again [] = refl
bits_again (bit ∷ bits) =
    let whole : suc (length bits) ≡ 1 + length bits = omega arith in
    ap₂ low_bits whole (number_first bit bits) ∙ low_bits-join 1 (length bits) (if bit then 1 else 0) (number_of bits) (number_below bits)
    ∙ ap₂ (λ (xs ys : List Bool). xs ++ ys) (one_bit bit) (bits_again bits)
