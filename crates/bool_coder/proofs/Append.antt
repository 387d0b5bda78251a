-- The last bytes of a number are appended to a list, and the carry above them is added to what was there.
use Rattle.std.proofs.Common.{◌≡◌, ℕ, ◌+◌, ◌-◌, ◌*◌, ◌/◌, ◌%◌, ◌^◌, ◌<◌, ◌≤◌, List, ◌++◌, length, take, drop, refl, sym, ap, ◌∙◌, arith, inl, inr}
use Rattle.std.specs.Int.{w64, to_be_bytes, bytes_high_first}
use Rattle.std.specs.Int.Digits.{number_from_digits}
use Rattle.std.proofs.Math.Nat.{mul-le-mul_right}
use Rattle.std.proofs.lemmas.Bool.{cases_lt}
use Rattle.std.proofs.lemmas.Nat.{pow-add, shr_split}
use Rattle.std.proofs.lemmas.List.{take-append-drop, take_all, take_at, length-append, length-drop}
use Rattle.bool_coder.proofs.Bytes.{byte_power, number_append, length-bytes, number_bytes, drop_bytes}

pub below_by_product : (x m k : ℕ) → x * k < m * k → x < m
below_by_product x m k h = elim (cases_lt x m) [ inl less ↦ less | inr more ↦ absurd (omega (arith, mul-le-mul_right k more)) ]

-- the last bytes of all w bytes of a number
pub last_bytes : (w n count : ℕ) (bytes : List ℕ) → count ≤ w → bytes ≡ bytes_high_first w n
    → take (w - (w - count)) (drop (w - count) bytes) ≡ bytes_high_first count n
last_bytes w n count bytes few e =
    let d : drop (w - count) bytes ≡ bytes_high_first count n = ap (λ bs. drop (w - count) bs) e ∙ drop_bytes w (w - count) count n (omega arith) in
    rw d (take_all (w - (w - count)) (bytes_high_first count n) (rw length-bytes (omega arith)))

-- a list, and what it is once the bytes are appended
pub record Appends (xs ys : List ℕ) (n count : ℕ) : Type 0 where
  pub prefix : take (length xs) ys ≡ xs
  pub back : length (drop (length xs) ys) ≡ count
  pub number : number_from_digits 256 ys ≡ number_from_digits 256 xs * 256 ^ count + n % 256 ^ count

pub Appends-from : (xs ys bytes : List ℕ) (n count : ℕ) → count ≤ 8 → bytes ≡ to_be_bytes w64 n
    → ys ≡ xs ++ take (8 - (8 - count)) (drop (8 - count) bytes) → Appends xs ys n count
Appends-from xs ys bytes n count few e f =
    let whole : ys ≡ xs ++ bytes_high_first count n = f ∙ ap (λ bs. xs ++ bs) (last_bytes 8 n count bytes few e) in
    let l = length-bytes count n in
    record {
      prefix = rw whole (take_at xs (bytes_high_first count n) (length xs) refl);
      back = rw (whole, length-drop, length-append, l) (omega arith);
      number = rw (whole, number_append, l, number_bytes) refl;
    }

-- the carry finds room where the whole does
pub carry_room : (x n count k : ℕ) → (n / 2 ^ (8 * count) ≡ 0 → ⊥) → x * 256 ^ count + n < 256 ^ (k + count) → x + 1 < 256 ^ k
carry_room x n count k carries room =
    let e : 8 * (k + count) ≡ 8 * k + 8 * count = omega arith in
    let split = shr_split n (8 * count) in
    let some : 1 ≤ n / 2 ^ (8 * count) = omega (arith, carries) in
    let least = mul-le-mul_right (2 ^ (8 * count)) some in
    let wide = rw (byte_power count, byte_power (k + count), e, pow-add 2 (8 * k) (8 * count)) at room in
    rw byte_power (below_by_product (x + 1) (2 ^ (8 * k)) (2 ^ (8 * count)) (omega (arith, wide, least, split)))

-- what the bytes leave of the number, without a carry and with one
pub no_carry : (n count : ℕ) → n / 2 ^ (8 * count) ≡ 0 → n % 256 ^ count ≡ n
no_carry n count none = let split = rw none at (shr_split n (8 * count)) in rw byte_power (omega (arith, split))

pub one_carry : (n count : ℕ) → (n / 2 ^ (8 * count) ≡ 0 → ⊥) → n < 2 * 256 ^ count → n % 256 ^ count + 256 ^ count ≡ n
one_carry n count carries most =
    let split = shr_split n (8 * count) in
    let high : n < 2 * 2 ^ (8 * count) = rw byte_power at most in
    let few : n / 2 ^ (8 * count) < 2 = below_by_product (n / 2 ^ (8 * count)) 2 (2 ^ (8 * count)) (omega (arith, split, high)) in
    let one : n / 2 ^ (8 * count) ≡ 1 = omega (arith, few, carries) in
    let whole = rw one at split in
    rw byte_power (omega (arith, whole))

-- a carry into the prefix counts as much as the bytes after it hold
number_split : (k : ℕ) (xs : List ℕ) → number_from_digits 256 xs ≡ number_from_digits 256 (take k xs) * 256 ^ length (drop k xs) + number_from_digits 256 (drop k xs)
number_split k xs = ap (λ ys. number_from_digits 256 ys) (sym (take-append-drop k xs)) ∙ number_append (take k xs) (drop k xs)

pub Appends-carried : (xs ys zs : List ℕ) (n count w : ℕ) → w ≡ length xs → Appends xs ys n count
    → number_from_digits 256 (take w zs) ≡ number_from_digits 256 (take w ys) + 1 → drop w zs ≡ drop w ys
    → number_from_digits 256 zs ≡ number_from_digits 256 ys + 256 ^ count
Appends-carried xs ys zs n count w e a more rest =
    let back : length (drop w ys) ≡ count = rw e a.back in
    rw (number_split w zs, number_split w ys, rest, back, more) (omega arith)
