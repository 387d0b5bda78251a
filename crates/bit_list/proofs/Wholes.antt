-- Bits as whole bytes and a byte begun.
use Rattle.std.proofs.Common.{◌≡◌, ℕ, zero, suc, ◌+◌, ◌*◌, ◌/◌, ◌%◌, ◌<◌, Bool, true, false, ◌==◌, if◌then◌else◌, List, [], ◌∷◌, ◌++◌, length, refl, sym, ap, ap₂, ◌∙◌, arith, append_assoc, length-append}
use Rattle.std.specs.List.{AllByRecursion}
use Rattle.std.proofs.lemmas.Bool.{eqb-true, false_from_ne_true}
use Rattle.std.proofs.lemmas.List.{append-nil, length-replicate}
use Rattle.bit_list.specs.Bits.{IsByte, low_bits, number_of, bits_of, bytes_after, begun_after, padding}
use Rattle.bit_list.specs.NumbersOfBits.{number_again}
use Rattle.bit_list.proofs.LowBits.{bits_again}

-- bits complete the same bytes in two parts
pub bytes_cut : (begun xs ys : List Bool) → bytes_after begun (xs ++ ys) ≡ bytes_after begun xs ++ bytes_after (begun_after begun xs) ys
bytes_cut begun [] ys = refl
bytes_cut begun (x ∷ xs) ys =
    elim (length begun == 7) as (λ t. (if t then number_of (begun ++ x ∷ []) ∷ bytes_after [] (xs ++ ys) else bytes_after (begun ++ x ∷ []) (xs ++ ys))
    ≡ (if t then number_of (begun ++ x ∷ []) ∷ bytes_after [] xs else bytes_after (begun ++ x ∷ []) xs)
    ++ bytes_after (if t then begun_after [] xs else begun_after (begun ++ x ∷ []) xs) ys) [
      | true ↦ ap (λ (bs : List ℕ). number_of (begun ++ x ∷ []) ∷ bs) (bytes_cut [] xs ys)
      | false ↦ bytes_cut (begun ++ x ∷ []) xs ys
    ]

-- and leave the same byte begun
pub begun_cut : (begun xs ys : List Bool) → begun_after begun (xs ++ ys) ≡ begun_after (begun_after begun xs) ys
begun_cut begun [] ys = refl
begun_cut begun (x ∷ xs) ys =
    elim (length begun == 7) as (λ t. (if t then begun_after [] (xs ++ ys) else begun_after (begun ++ x ∷ []) (xs ++ ys))
    ≡ begun_after (if t then begun_after [] xs else begun_after (begun ++ x ∷ []) xs) ys) [
      | true ↦ begun_cut [] xs ys
      | false ↦ begun_cut (begun ++ x ∷ []) xs ys
    ]

-- a byte that isn't full yet
not_full : (n : ℕ) → n < 7 → (n == 7) ≡ false
not_full n h = false_from_ne_true _ (λ full. omega (arith, eqb-true n 7 full))

-- fewer than eight bits complete no byte
pub no_byte : (begun xs : List Bool) → length begun + length xs < 8 → bytes_after begun xs ≡ []
no_byte begun [] h = refl
no_byte begun (x ∷ xs) h =
    rw (not_full (length begun) (omega arith)) (no_byte (begun ++ x ∷ []) xs (omega (arith, length-append begun (x ∷ []))))

-- they are the byte begun
pub all_begun : (begun xs : List Bool) → length begun + length xs < 8 → begun_after begun xs ≡ begun ++ xs
all_begun begun [] h = sym (append-nil begun)
all_begun begun (x ∷ xs) h =
    rw (not_full (length begun) (omega arith))
    (all_begun (begun ++ x ∷ []) xs (omega (arith, length-append begun (x ∷ []))) ∙ append_assoc begun (x ∷ []) xs)

-- bits after a byte begun are bits after its bits
pub bytes_joined : (begun xs : List Bool) → length begun < 8 → bytes_after begun xs ≡ bytes_after [] (begun ++ xs)
bytes_joined begun xs h =
    sym (bytes_cut [] begun xs ∙ ap₂ (λ (bs : List ℕ) (rest : List Bool). bs ++ bytes_after rest xs) (no_byte [] begun (omega arith)) (all_begun [] begun (omega arith)))

pub begun_joined : (begun xs : List Bool) → length begun < 8 → begun_after begun xs ≡ begun_after [] (begun ++ xs)
begun_joined begun xs h = sym (begun_cut [] begun xs ∙ ap (λ (rest : List Bool). begun_after rest xs) (all_begun [] begun (omega arith)))

-- the bits of a byte complete it
pub byte_first : (byte : ℕ) (xs : List Bool) → byte < 256 → bytes_after [] (low_bits 8 byte ++ xs) ≡ byte ∷ bytes_after [] xs
byte_first byte xs h = ap (λ (n : ℕ). n ∷ bytes_after [] xs) (number_again 8 byte h)

-- bytes are those that their bits complete
pub bytes_after-bits_of : (bytes : List ℕ) → AllByRecursion IsByte bytes → bytes_after [] (bits_of bytes) ≡ bytes
bytes_after-bits_of [] fits = refl
bytes_after-bits_of (x ∷ xs) fits = ap₂ (λ (b : ℕ) (bs : List ℕ). b ∷ bs) (number_again 8 x fits.0) (bytes_after-bits_of xs fits.1)

-- whole bytes have the bits that they were made of, and leave none
whole_bytes : (n : ℕ) (bits : List Bool) → length bits ≡ 8 * n → (bits_of (bytes_after [] bits) ≡ bits) × (begun_after [] bits ≡ [])
whole_bytes zero [] whole = (refl, refl)
whole_bytes zero (a ∷ bits) whole = absurd (omega arith)
whole_bytes (suc n) (a ∷ b ∷ c ∷ d ∷ e ∷ f ∷ g ∷ h ∷ bits) whole =
    let more = whole_bytes n bits (omega arith) in
    (ap₂ (λ (x y : List Bool). x ++ y) (bits_again (a ∷ b ∷ c ∷ d ∷ e ∷ f ∷ g ∷ h ∷ [])) more.0, more.1)
whole_bytes (suc n) bits whole = absurd (omega arith)

pub bits_of-bytes_after : (bits : List Bool) → length bits % 8 ≡ 0 → bits_of (bytes_after [] bits) ≡ bits
bits_of-bytes_after bits whole = (whole_bytes (length bits / 8) bits (omega arith)).0

pub none_begun : (bits : List Bool) → length bits % 8 ≡ 0 → begun_after [] bits ≡ []
none_begun bits whole = (whole_bytes (length bits / 8) bits (omega arith)).1

-- how many bytes, and how many bits of the next
record Counts (prefix bits : List Bool) : Type 0 where
  pub whole : length (bytes_after prefix bits) ≡ (length prefix + length bits) / 8
  pub left : length (begun_after prefix bits) ≡ (length prefix + length bits) % 8

-- a test that fails
not_seven : (n : ℕ) → (n == 7) ≡ false → n ≡ 7 → ⊥
not_seven n e seven = let h : (7 == 7) ≡ false = rw seven at e in cc

-- with one bit more, by whether it fills the byte
one_more_counts : (t : Bool) (begun bits : List Bool) (bit : Bool) → (length begun == 7) ≡ t → length begun < 8 → Counts [] bits
    → ((length (begun ++ bit ∷ []) < 8) → Counts (begun ++ bit ∷ []) bits) → Counts begun (bit ∷ bits)
one_more_counts true begun bits bit e h full more =
    let seven = eqb-true (length begun) 7 e in
    let whole = full.whole in
    let rest = full.left in
    record { whole = rw e (omega arith); left = rw e (omega arith) }
one_more_counts false begun bits bit e h full more =
    let other : ¬ (length begun ≡ 7) = λ seven. not_seven (length begun) e seven in
    let len = length-append begun (bit ∷ []) in
    let m = more (omega arith) in
    let whole = m.whole in
    let rest = m.left in
    record { whole = rw e (omega arith); left = rw e (omega arith) }

-- so it is with all of them
counts : (begun bits : List Bool) → length begun < 8 → Counts begun bits
counts begun [] h = record { whole = omega arith; left = omega arith }
counts begun (bit ∷ bits) h = one_more_counts (length begun == 7) begun bits bit refl h (counts [] bits (omega arith)) (counts (begun ++ bit ∷ []) bits)

pub bytes_count : (begun bits : List Bool) → length begun < 8 → length (bytes_after begun bits) ≡ (length begun + length bits) / 8
bytes_count begun bits h = (counts begun bits h).whole

pub begun_count : (begun bits : List Bool) → length begun < 8 → length (begun_after begun bits) ≡ (length begun + length bits) % 8
begun_count begun bits h = (counts begun bits h).left

pub padding_count : (begun : List Bool) (bit : Bool) → length begun < 8 → (length begun + length (padding begun bit)) % 8 ≡ 0
padding_count begun bit h = simp length-replicate (omega arith)
