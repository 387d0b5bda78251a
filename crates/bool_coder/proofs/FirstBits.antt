-- The first bits of a list of bytes, as a number.
use Rattle.std.proofs.Common.{◌≡◌, ℕ, zero, suc, ◌+◌, ◌-◌, ◌*◌, ◌/◌, ◌%◌, ◌^◌, ◌<◌, ◌≤◌, min, List, [], ◌∷◌, length, get_or, take, drop, refl, sym, ap, ◌∙◌, arith, inl, inr}
use Rattle.std.specs.Int.Digits.{number_from_digits, AllBelowBase}
use Rattle.std.proofs.Math.Nat.{mul-add-div_right, min-eq_left, min-eq_right, div-eq_of_lt}
use Rattle.std.proofs.lemmas.Bool.{cases_lt}
use Rattle.std.proofs.lemmas.Int.Digits.{number_lt}
use Rattle.std.proofs.lemmas.List.{get_or_default, get_or-take, get_or-drop}
use Rattle.std.proofs.lemmas.Nat.{pow_pos, pow-add, shl-shr, shr-shr, shr_split, mod_low, mod-pow-add}
use Rattle.bool_coder.specs.BoolReading.{first_bits}
use Rattle.bool_coder.specs.DecoderSeen.{end_position}
use Rattle.bool_coder.proofs.Bytes.{byte_power, number_first, all_below}

pub first_bits_shr : (bytes : List ℕ) (c k : ℕ) → first_bits bytes (c + k) / 2 ^ k ≡ first_bits bytes c
unfolding first_bits
first_bits_shr bytes c k =
    let n = number_from_digits 256 bytes in
    let turned : 8 * length bytes + k ≡ k + 8 * length bytes = omega arith in
    let product : n * 2 ^ (c + k) ≡ n * 2 ^ c * 2 ^ k = rw (pow-add 2 c k) (omega arith) in
    shr-shr (n * 2 ^ (c + k)) (8 * length bytes) k ∙ ap (λ m. n * 2 ^ (c + k) / 2 ^ m) turned ∙ sym (shr-shr (n * 2 ^ (c + k)) k (8 * length bytes))
    ∙ ap (λ m. m / 2 ^ k / 2 ^ (8 * length bytes)) product ∙ ap (λ m. m / 2 ^ (8 * length bytes)) (shl-shr (n * 2 ^ c) k)

-- some bits, and k more
pub prefix_more : (bytes : List ℕ) (c k : ℕ) → first_bits bytes (c + k) ≡ first_bits bytes c * 2 ^ k + first_bits bytes (c + k) % 2 ^ k
prefix_more bytes c k = sym (rw (first_bits_shr bytes c k) at (shr_split (first_bits bytes (c + k)) k))

-- all bits, and zero bits after them
pub prefix_whole : (bytes : List ℕ) (d : ℕ) → first_bits bytes (d + 8 * length bytes) ≡ number_from_digits 256 bytes * 2 ^ d
unfolding first_bits
prefix_whole bytes d =
    let n = number_from_digits 256 bytes in
    let product : n * 2 ^ (d + 8 * length bytes) ≡ n * 2 ^ d * 2 ^ (8 * length bytes) = rw (pow-add 2 d (8 * length bytes)) (omega arith) in
    ap (λ m. m / 2 ^ (8 * length bytes)) product ∙ shl-shr (n * 2 ^ d) (8 * length bytes)

pub first_bits_past : (bytes : List ℕ) (c k n : ℕ) → n ≡ c + k → 8 * length bytes ≤ c → first_bits bytes n % 2 ^ k ≡ 0
first_bits_past bytes c k n e past =
    let d = c - 8 * length bytes in
    let f : n ≡ d + k + 8 * length bytes = omega (arith, e) in
    let whole : first_bits bytes n ≡ number_from_digits 256 bytes * 2 ^ d * 2 ^ k + 0 =
    ap (λ m. first_bits bytes m) f ∙ prefix_whole bytes (d + k) ∙ rw (pow-add 2 d k) (omega arith) in
    ap (λ m. m % 2 ^ k) whole ∙ mod_low (number_from_digits 256 bytes * 2 ^ d) k 0 (pow_pos k)

-- past the last position that matters each next bit is a zero
pub prefix_at_position : (bytes : List ℕ) (s k : ℕ) → 0 < length bytes
    → first_bits bytes (8 + (s + k)) % 2 ^ k ≡ first_bits bytes (8 + (min s (end_position bytes) + k)) % 2 ^ k
prefix_at_position bytes s k some = elim (cases_lt s (end_position bytes)) [
  | inl less ↦ let few : s ≤ end_position bytes = omega arith in let e : min s (end_position bytes) ≡ s = min-eq_left few in rw e refl
  | inr more ↦
      let e : min s (end_position bytes) ≡ end_position bytes = min-eq_right more in
      rw e (first_bits_past bytes (8 + s) k (8 + (s + k)) (omega arith) (omega arith)
      ∙ sym (first_bits_past bytes (8 + end_position bytes) k (8 + (end_position bytes + k)) (omega arith) (omega arith)))
]

pub prefix_first : (x : ℕ) (xs : List ℕ) (c : ℕ) → first_bits (x ∷ xs) (8 + c) ≡ x * 2 ^ c + first_bits xs c
unfolding first_bits
prefix_first x xs c =
    let l = 8 * length xs in
    let n = number_from_digits 256 xs in
    let power : 256 ^ length xs ≡ 2 ^ l = byte_power (length xs) in
    let number : number_from_digits 256 (x ∷ xs) ≡ x * 2 ^ l + n = number_first x xs ∙ rw power refl in
    let longer : 8 * suc (length xs) ≡ 8 + l = omega arith in
    let product : number_from_digits 256 (x ∷ xs) * 2 ^ (8 + c) ≡ (x * 2 ^ c * 2 ^ l + n * 2 ^ c) * 2 ^ 8 = rw (number, pow-add 2 8 c) (omega arith) in
    ap (λ m. number_from_digits 256 (x ∷ xs) * 2 ^ (8 + c) / 2 ^ m) longer ∙ sym (shr-shr (number_from_digits 256 (x ∷ xs) * 2 ^ (8 + c)) 8 l)
    ∙ ap (λ m. m / 2 ^ 8 / 2 ^ l) product ∙ ap (λ m. m / 2 ^ l) (shl-shr (x * 2 ^ c * 2 ^ l + n * 2 ^ c) 8)
    ∙ mul-add-div_right (pow_pos l) (x * 2 ^ c) (n * 2 ^ c)

prefix_none : (bytes : List ℕ) → AllBelowBase 256 bytes → first_bits bytes 0 ≡ 0
unfolding first_bits
prefix_none bytes below =
    let small : number_from_digits 256 bytes < 2 ^ (8 * length bytes) = rw (← byte_power) (number_lt 256 bytes below) in
    let one : number_from_digits 256 bytes * 2 ^ 0 ≡ number_from_digits 256 bytes = omega arith in
    ap (λ m. m / 2 ^ (8 * length bytes)) one ∙ div-eq_of_lt small

pub prefix_of_first : (x : ℕ) (xs : List ℕ) → AllBelowBase 256 (x ∷ xs) → first_bits (x ∷ xs) 8 ≡ x
prefix_of_first x xs below = prefix_first x xs 0 ∙ rw (prefix_none xs below.1) (omega arith)

pub prefix_byte : (bytes : List ℕ) (m : ℕ) → AllBelowBase 256 bytes → first_bits bytes (8 * m + 8) % 2 ^ 8 ≡ get_or bytes m 0
prefix_byte [] m below = first_bits_past [] (8 * m) 8 (8 * m + 8) refl (omega arith)
prefix_byte (x ∷ xs) zero below = let e = prefix_of_first x xs below in rw e (omega (arith, below.0))
prefix_byte (x ∷ xs) (suc m) below =
    let e : 8 * suc m + 8 ≡ 8 + (8 * m + 8) = omega arith in
    let f : first_bits (x ∷ xs) (8 + (8 * m + 8)) ≡ x * 2 ^ (8 * m) * 256 + first_bits xs (8 * m + 8) = prefix_first x xs (8 * m + 8) ∙ rw (pow-add 2 (8 * m) 8) (omega arith) in
    let rest = prefix_byte xs m below.1 in
    rw (e, f) (omega (arith, rest))

-- one byte more
prefix_push : (bytes : List ℕ) (m n j : ℕ) → n ≡ 8 * m + 8 → AllBelowBase 256 bytes
    → first_bits bytes n % 2 ^ (j + 8) ≡ first_bits bytes (8 * m) % 2 ^ j * 256 + get_or bytes m 0
prefix_push bytes m n j e below =
    let byte = prefix_byte bytes m below in
    rw e (mod-pow-add (first_bits bytes (8 * m + 8)) j 8 ∙ rw (first_bits_shr bytes (8 * m) 8, byte) refl)

-- six bytes more
pub prefix_six : (bytes : List ℕ) (f : ℕ) → AllBelowBase 256 bytes
    → first_bits bytes (8 * f + 48) % 2 ^ 48 ≡ ((((get_or bytes f 0 * 256 + get_or bytes (f + 1) 0) * 256 + get_or bytes (f + 2) 0) * 256 + get_or bytes (f + 3) 0) * 256 + get_or bytes (f + 4) 0) * 256 + get_or bytes (f + 5) 0
prefix_six bytes f below =
    let a = prefix_push bytes f (8 * (f + 1)) 0 (omega arith) below in
    let b = prefix_push bytes (f + 1) (8 * (f + 2)) 8 (omega arith) below in
    let c = prefix_push bytes (f + 2) (8 * (f + 3)) 16 (omega arith) below in
    let d = prefix_push bytes (f + 3) (8 * (f + 4)) 24 (omega arith) below in
    let e = prefix_push bytes (f + 4) (8 * (f + 5)) 32 (omega arith) below in
    let g = prefix_push bytes (f + 5) (8 * f + 48) 40 (omega arith) below in
    omega (arith, a, b, c, d, e, g)

pub prefix_start : (bytes : List ℕ) → AllBelowBase 256 bytes → first_bits bytes 8 ≡ get_or bytes 0 0
prefix_start [] below = prefix_whole [] 8
prefix_start (x ∷ xs) below = prefix_of_first x xs below

pub all_bytes : (xs : List ℕ) → ((i : ℕ) → get_or xs i 0 < 256) → AllBelowBase 256 xs
all_bytes xs h = all_below xs (λ i d less. rw (get_or_default xs i d 0 less) (h i))

-- a byte of a slice of eight
pub byte_of_eight : (bytes : List ℕ) (f n i j : ℕ) → n ≡ 8 → i < 8 → f + i ≡ j → get_or (take n (drop f bytes)) i 0 ≡ get_or bytes j 0
byte_of_eight bytes f n i j eight less e = rw (eight, ← e) (get_or-take 8 (drop f bytes) i 0 less ∙ get_or-drop f bytes i 0)
