-- Bits in machine words.
use Rattle.std.proofs.Common.{◌≡◌, ℕ, zero, suc, ◌+◌, ◌-◌, ◌*◌, ◌/◌, ◌%◌, ◌^◌, ◌<◌, ◌≤◌, Bool, true, false, ◌==◌, nat_eq, List, [], ◌∷◌, ◌++◌, length, take, drop, replicate, bit_and, Result, Ok, Err, refl, sym, ap, ap₂, ◌∙◌, arith}
use Rattle.std.specs.Int.{bit_at as digit_at}
use Rattle.std.proofs.lemmas.Nat.{pow-add, and_mask, one_shl, shl_whole, shl_below, shr_below, shl-shr, mod_below, mod_low, mul-add-lt, pow_pos}
use Rattle.std.proofs.lemmas.Nat.Bits.{bit_at_ones, bit_at-zero}
use Rattle.std.proofs.Math.Pow.{pow_mono}
use Rattle.bit_list.specs.Bits.{low_bits, bytes_after, padding}
use Rattle.bit_list.specs.NumbersOfBits.{length-low_bits, mod_small}
use Rattle.bit_list.specs.Units.{Cursor, and_then, unit_at, filled, bits_at}
use Rattle.bit_list.specs.declared.fault.BitFault.{BitFault}
use Rattle.bit_list.proofs.LowBits.{low_bits-append, low_bits-same, low_bits-join, take-low_bits, drop-low_bits}
use Rattle.bit_list.proofs.Wholes.{bytes_joined, byte_first}
use Rattle.bit_list.proofs.Cursors.{filled_now, more_taken}

-- the bits under a mask
pub masked : (n k w : ℕ) → k < w → bit_and n (1 * 2 ^ k % 2 ^ w - 1) ≡ n % 2 ^ k
masked n k w h = ap (λ (p : ℕ). bit_and n (p - 1)) (one_shl k w h) ∙ and_mask n k

-- bits after a number's bits fit
pub joined_below : (m k number prefix : ℕ) → number < 2 ^ m → prefix < 2 ^ k → number * 2 ^ k + prefix < 2 ^ (m + k)
joined_below m k number prefix a b = rw (pow-add 2 m k) (omega (arith, mul-add-lt number (2 ^ k) prefix (2 ^ m) a b))

-- so many zeros, and so many ones
pub zeros_are : (k : ℕ) → low_bits k 0 ≡ replicate k false
zeros_are zero = refl
zeros_are (suc k) = ap₂ (λ (b : ℕ) (bits : List Bool). (b == 1) ∷ bits) (bit_at-zero k) (zeros_are k)

pub ones_are : (k m : ℕ) → k ≤ m → low_bits k (2 ^ m - 1) ≡ replicate k true
ones_are zero m h = refl
ones_are (suc k) m h = ap₂ (λ (b : ℕ) (bits : List Bool). (b == 1) ∷ bits) (bit_at_ones m k (omega arith)) (ones_are k m (omega arith))

-- a number's upper bits and the bits below them
pub split_off : (whole number count left low : ℕ) → left + count ≡ whole → number < 2 ^ whole → low ≡ number % 2 ^ left
    → (number / 2 ^ left < 2 ^ count) × (low < 2 ^ left) × (low_bits whole number ≡ low_bits count (number / 2 ^ left) ++ low_bits left low)
split_off whole number count left low e h f =
    let turned : whole ≡ count + left = omega arith in
    let below : number < 2 ^ (count + left) = rw turned at h in
    let small : low < 2 ^ left = rw f (mod_below number (2 ^ left) (pow_pos left)) in
    let same : low_bits left number ≡ low_bits left low = low_bits-same left number low (sym f ∙ sym (mod_small left low small)) in (
      shr_below number count left below,
      small,
      ap (λ (k : ℕ). low_bits k number) turned ∙ low_bits-append count left number ∙ ap (λ (bits : List Bool). low_bits count (number / 2 ^ left) ++ bits) same,
    )

-- a byte begun, padded
pub padded_byte : (number count free ones : ℕ) (bit : Bool) → count + free ≡ 8 → 0 < count → count ≤ 7 → number < 2 ^ count → ones < 2 ^ free
    → low_bits free ones ≡ replicate free bit
    → bytes_after (low_bits count number) (padding (low_bits count number) bit) ≡ (number * 2 ^ free + ones) ∷ []
padded_byte number count free ones bit e some few a b bits =
    let begun = low_bits count number in
    let byte = number * 2 ^ free + ones in
    let len = length-low_bits count number in
    let many : (8 - length begun) % 8 ≡ free = omega arith in
    let pad : padding begun bit ≡ low_bits free ones = ap (λ (n : ℕ). replicate n bit) many ∙ sym bits in
    let below : byte < 256 = let h = joined_below count free number ones a b in rw e at h in
    ap (bytes_after begun) pad ∙ bytes_joined begun (low_bits free ones) (omega arith)
    ∙ ap (bytes_after []) (sym (low_bits-join count free number ones b) ∙ ap (λ (k : ℕ). low_bits k byte) e) ∙ byte_first byte [] below

-- a byte begun, as the first bits of a byte
pub record IsPartial (number count free partial : ℕ) : Type 0 where
  pub byte : partial < 256
  pub bits : take count (low_bits 8 partial) ≡ low_bits count number
  pub clear : partial % 2 ^ free ≡ 0

pub partial_of : (number count free partial : ℕ) → count + free ≡ 8 → number < 2 ^ count → partial ≡ number * 2 ^ free % 2 ^ 32 → IsPartial number count free partial
partial_of number count free partial e h f =
    let same : partial ≡ number * 2 ^ free = f ∙ shl_whole number count free 32 h (omega arith) in
    let below : number * 2 ^ free < 2 ^ (count + free) = shl_below number count free h in
    let plain : number * 2 ^ free + 0 ≡ number * 2 ^ free = omega arith in
    record {
      byte = rw same (rw e at below);
      bits = ap (λ (n : ℕ). take count (low_bits 8 n)) same ∙ ap (λ (k : ℕ). take count (low_bits k (number * 2 ^ free))) (sym e)
          ∙ take-low_bits count free (number * 2 ^ free) ∙ ap (low_bits count) (shl-shr number free);
      clear = ap (λ (n : ℕ). n % 2 ^ free) (same ∙ sym plain) ∙ mod_low number free 0 (pow_pos free);
    }

-- the first bits of a byte, as a number
pub first_bits : (partial bits free : ℕ) → bits + free ≡ 8 → partial < 256 → (partial / 2 ^ free < 2 ^ bits) × (low_bits bits (partial / 2 ^ free) ≡ take bits (low_bits 8 partial))
first_bits partial bits free e h =
    let below : partial < 2 ^ (bits + free) = rw e h in (
      shr_below partial bits free below,
      sym (ap (λ (k : ℕ). take bits (low_bits k partial)) (sym e) ∙ take-low_bits bits free partial),
    )

-- a unit without its first bits
pub fill_made : (bytes : List ℕ) (cursor : Cursor) (number next count low : ℕ) → length cursor.left ≡ 0 → unit_at bytes cursor.next ≡ Ok (number, next)
    → cursor.skip + count ≡ 8 → low ≡ number % 2 ^ count → filled bytes cursor ≡ Ok (record { left = low_bits count low; skip = 0; last = cursor.next; next = next })
fill_made bytes cursor number next count low none unit e f =
    let small : low < 2 ^ count = rw f (mod_below number (2 ^ count) (pow_pos count)) in
    let bits : drop cursor.skip (low_bits 8 number) ≡ low_bits count low =
    ap (λ (k : ℕ). drop cursor.skip (low_bits k number)) (sym e) ∙ drop-low_bits cursor.skip count number
    ∙ low_bits-same count number low (sym f ∙ sym (mod_small count low small)) in
    filled_now bytes cursor none
    ∙ ap (λ (r : Result (ℕ × ℕ) BitFault). and_then {A = ℕ × ℕ} {B = Cursor} r (λ u. Ok (record { left = drop cursor.skip (low_bits 8 u.0); skip = 0; last = cursor.next; next = u.1 }))) unit
    ∙ ap (λ (l : List Bool). let r : Result Cursor BitFault = Ok (record { left = l; skip = 0; last = cursor.next; next = next }) in r) bits

-- no unit
pub fill_fault : (bytes : List ℕ) (cursor : Cursor) (fault : BitFault) → length cursor.left ≡ 0 → unit_at bytes cursor.next ≡ Err fault → filled bytes cursor ≡ Err fault
fill_fault bytes cursor fault none unit =
    filled_now bytes cursor none
    ∙ ap (λ (r : Result (ℕ × ℕ) BitFault). and_then {A = ℕ × ℕ} {B = Cursor} r (λ u. Ok (record { left = drop cursor.skip (low_bits 8 u.0); skip = 0; last = cursor.next; next = u.1 }))) unit

-- a bit as a number
pub bit_is : (prefix : ℕ) → prefix < 2 → (digit_at prefix 0 == 1) ≡ nat_eq prefix 1
bit_is zero h = refl
bit_is (suc zero) h = refl
bit_is (suc (suc n)) h = absurd (omega arith)

-- the first bits of a unit after bits that were taken
pub number_taken : (bytes : List ℕ) (from at full next : Cursor) (m k number prefix : ℕ) (ys : List Bool) → bits_at m bytes from ≡ Ok (low_bits m number, at)
    → filled bytes at ≡ Ok full → 0 < k → prefix < 2 ^ k → full.left ≡ low_bits k prefix ++ ys → next ≡ record full { left = ys }
    → bits_at (m + k) bytes from ≡ Ok (low_bits (m + k) (number * 2 ^ k + prefix), next)
number_taken bytes from at full next m k number prefix ys taken unit some below split e =
    more_taken m k bytes from at full (low_bits k prefix) ys (low_bits m number) taken unit some (length-low_bits k prefix) split
    ∙ ap₂ (λ (bits : List Bool) (c : Cursor). let r : Result (List Bool × Cursor) BitFault = Ok (bits, c) in r) (sym (low_bits-join m k number prefix below)) (sym e)

-- before the first bit
pub none_yet : (bytes : List ℕ) (cursor : Cursor) → bits_at 0 bytes cursor ≡ Ok (low_bits 0 0, cursor)
unfolding bits_at
none_yet bytes cursor = refl

-- a number that grew by some bits
pub record Grown (m k number prefix grown : ℕ) : Type 0 where
  pub is : grown ≡ number * 2 ^ k + prefix
  pub below : grown < 2 ^ (m + k)
  pub word : grown < 2 ^ 32

pub grown : (m k number prefix from next : ℕ) → m + k ≤ 31 → number < 2 ^ m → prefix < 2 ^ k → from ≡ prefix → next ≡ number * 2 ^ k % 2 ^ 32 + from
    → Grown m k number prefix next
grown m k number prefix from next few a b e f =
    let is : next ≡ number * 2 ^ k + prefix = f ∙ ap₂ (λ (x y : ℕ). x + y) (shl_whole number m k 32 a (omega arith)) e in
    let below : next < 2 ^ (m + k) = rw is (joined_below m k number prefix a b) in
    let most : 2 ^ (m + k) ≤ 2 ^ 31 = pow_mono few in
    record { is = is; below = below; word = omega arith }

-- a byte made of two numbers
pub joined_word : (number count free prefix word : ℕ) → count + free ≡ 8 → number < 2 ^ count → prefix < 2 ^ free → word ≡ number * 2 ^ free % 2 ^ 32 + prefix
    → (word ≡ number * 2 ^ free + prefix) × (word < 256)
joined_word number count free prefix word e a b f =
    let is : word ≡ number * 2 ^ free + prefix = f ∙ ap (λ (x : ℕ). x + prefix) (shl_whole number count free 32 a (omega arith)) in
    let below : number * 2 ^ free + prefix < 2 ^ (count + free) = joined_below count free number prefix a b in
    (is, rw is (rw e at below))
