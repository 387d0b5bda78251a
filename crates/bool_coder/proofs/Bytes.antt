-- Lists of bytes as numbers, the highest byte first.
use Rattle.std.proofs.Common.{◌≡◌, ℕ, zero, suc, ◌+◌, ◌*◌, ◌/◌, ◌%◌, ◌^◌, ◌<◌, ◌≤◌, List, [], ◌∷◌, ◌++◌, length, get_or, set, take, drop, refl, ap, ◌∙◌, arith}
use Rattle.std.specs.Int.{bytes_high_first, byte_at}
use Rattle.std.specs.Int.Digits.{number_from_digits, number_from_digits_after, AllBelowBase}
use Rattle.std.proofs.Math.Nat.{pow-suc}
use Rattle.std.proofs.lemmas.Nat.{pow-add, mod-pow-add, shr_high, mod_low}
use Rattle.std.proofs.lemmas.List.{length-take-le, length-take, length-set}
use Rattle.std.proofs.lemmas.Int.Digits.{number_after_append, number_lt}

pub byte_power : (k : ℕ) → 256 ^ k ≡ 2 ^ (8 * k)
byte_power zero = refl
byte_power (suc k) =
    let h = byte_power k in
    let e : 8 * suc k ≡ 8 * k + 8 = omega arith in
    rw (pow-suc, e, pow-add) (omega (arith, h))

pub number_after : (n : ℕ) (xs : List ℕ) → number_from_digits_after 256 n xs ≡ n * 256 ^ length xs + number_from_digits 256 xs
number_after n [] = omega arith
number_after n (x ∷ xs) =
    let a = number_after (n * 256 + x) xs in
    let b = number_after (0 * 256 + x) xs in
    rw pow-suc (omega (arith, a, b))

pub number_append : (xs ys : List ℕ) → number_from_digits 256 (xs ++ ys) ≡ number_from_digits 256 xs * 256 ^ length ys + number_from_digits 256 ys
number_append xs ys = number_after_append 256 0 xs ys ∙ number_after (number_from_digits 256 xs) ys

pub number_first : (x : ℕ) (xs : List ℕ) → number_from_digits 256 (x ∷ xs) ≡ x * 256 ^ length xs + number_from_digits 256 xs
number_first x xs = let a = number_after (0 * 256 + x) xs in omega (arith, a)

pub length-bytes : (k n : ℕ) → length (bytes_high_first k n) ≡ k
length-bytes zero n = refl
length-bytes (suc k) n = ap suc (length-bytes k n)

pub byte_at_is : (k n : ℕ) → byte_at k n ≡ n / 2 ^ (8 * k) % 2 ^ 8
byte_at_is zero n = omega arith
byte_at_is (suc k) n = rw byte_power refl

pub number_bytes : (k n : ℕ) → number_from_digits 256 (bytes_high_first k n) ≡ n % 256 ^ k
number_bytes zero n = omega arith
number_bytes (suc k) n =
    let e : 8 * suc k ≡ 8 + 8 * k = omega arith in
    let h = number_bytes k n in
    number_first (byte_at k n) (bytes_high_first k n) ∙ rw (length-bytes, h, byte_at_is, byte_power, byte_power, e, mod-pow-add) refl

pub drop_bytes : (m j k n : ℕ) → j + k ≡ m → drop j (bytes_high_first m n) ≡ bytes_high_first k n
drop_bytes m zero k n e = let f : m ≡ k = omega arith in rw f refl
drop_bytes zero (suc j) k n e = absurd (omega arith)
drop_bytes (suc m) (suc j) k n e = drop_bytes m j k n (omega arith)

bytes_above : (a : ℕ) (xs : List ℕ) → AllBelowBase 256 xs → bytes_high_first (length xs) (a * 256 ^ length xs + number_from_digits 256 xs) ≡ xs
bytes_above a [] h = refl
bytes_above a (x ∷ xs) h =
    let small : number_from_digits 256 xs < 2 ^ (8 * length xs) = rw (← byte_power) (number_lt 256 xs h.1) in
    let whole : a * 256 ^ suc (length xs) + number_from_digits 256 (x ∷ xs) ≡ (a * 256 + x) * 256 ^ length xs + number_from_digits 256 xs =
    rw (number_first x xs, pow-suc) (omega arith) in
    let top : byte_at (length xs) ((a * 256 + x) * 256 ^ length xs + number_from_digits 256 xs) ≡ x =
    rw (byte_at_is, byte_power, shr_high (a * 256 + x) (8 * length xs) (number_from_digits 256 xs) small) (mod_low a 8 x h.0) in
    let rest = bytes_above (a * 256 + x) xs h.1 in
    rw (whole, top, rest) refl

pub bytes_number : (xs : List ℕ) → AllBelowBase 256 xs → bytes_high_first (length xs) (number_from_digits 256 xs) ≡ xs
bytes_number xs h = let e : 0 * 256 ^ length xs + number_from_digits 256 xs ≡ number_from_digits 256 xs = omega arith in rw e at (bytes_above 0 xs h)

pub number_set : (xs : List ℕ) (end i k v : ℕ) → i + suc k ≡ end → end ≤ length xs
    → number_from_digits 256 (take end (set xs i v)) + get_or xs i 0 * 256 ^ k ≡ number_from_digits 256 (take end xs) + v * 256 ^ k
number_set [] end i k v e h = absurd (omega arith)
number_set (x ∷ xs) zero i k v e h = absurd (omega arith)
number_set (x ∷ xs) (suc m) zero k v e h =
    let f : m ≡ k = omega arith in
    let l : length (take m xs) ≡ k = length-take-le m xs (omega arith) ∙ f in
    rw (number_first v (take m xs), number_first x (take m xs), l) (omega arith)
number_set (x ∷ xs) (suc m) (suc i) k v e h =
    let r = number_set xs m i k v (omega arith) (omega arith) in
    let l : length (take m (set xs i v)) ≡ length (take m xs) = simp (length-take, length-set) refl in
    rw (number_first x (take m (set xs i v)), number_first x (take m xs), l) (omega (arith, r))

pub all_below : (xs : List ℕ) → ((i : ℕ) (d : ℕ) → i < length xs → get_or xs i d < 256) → AllBelowBase 256 xs
all_below [] h = tt
all_below (x ∷ xs) h = (h 0 0 (omega arith), all_below xs (λ i d less. h (suc i) d (omega arith)))
