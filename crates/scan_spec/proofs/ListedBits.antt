-- The bits of bytes by their numbers.
use Rattle.std.proofs.Common.{◌≡◌, ℕ, zero, suc, ◌+◌, ◌-◌, ◌*◌, ◌/◌, ◌%◌, ◌<◌, Bool, ◌==◌, List, [], ◌∷◌, length, get_or, ap, ◌∙◌, arith}
use Rattle.std.specs.Int.{bit_at}
use Rattle.std.proofs.lemmas.List.{get_or_append_left, get_or-append_right}
use Rattle.bit_list.specs.Bits.{low_bits, bits_of}
use Rattle.bit_list.specs.NumbersOfBits.{length-low_bits}

-- a bit of the low ones, the highest of them first
low_bit : (k j n : ℕ) (other : Bool) → j < k → get_or (low_bits k n) j other ≡ (bit_at n (k - 1 - j) == 1)
low_bit zero j n other below = absurd (omega arith)
low_bit (suc k) zero n other below = let e : k ≡ suc k - 1 - 0 = omega arith in ap (λ (i : ℕ). bit_at n i == 1) e
low_bit (suc k) (suc j) n other below =
    let e : k - 1 - j ≡ suc k - 1 - suc j = omega arith in low_bit k j n other (omega arith) ∙ ap (λ (i : ℕ). bit_at n i == 1) e

-- of a byte of some
byte_bits : (bytes : List ℕ) (byte bit : ℕ) (other : Bool) → byte < length bytes → bit < 8
    → get_or (bits_of bytes) (8 * byte + bit) other ≡ get_or (low_bits 8 (get_or bytes byte 0)) bit other
byte_bits [] byte bit other there few = absurd (omega (arith, there))
byte_bits (b ∷ bytes) zero bit other there few =
    let e : 8 * 0 + bit ≡ bit = omega arith in
    ap (λ (i : ℕ). get_or (bits_of (b ∷ bytes)) i other) e ∙ get_or_append_left (low_bits 8 b) (bits_of bytes) other bit (let h = length-low_bits 8 b in omega (arith, h, few))
byte_bits (b ∷ bytes) (suc byte) bit other there few =
    let e : 8 * suc byte + bit - 8 ≡ 8 * byte + bit = omega arith in
    get_or-append_right (low_bits 8 b) (bits_of bytes) 8 (8 * suc byte + bit) other (length-low_bits 8 b) (omega arith)
    ∙ ap (λ (i : ℕ). get_or (bits_of bytes) i other) e ∙ byte_bits bytes byte bit other (omega (arith, there)) few

-- the bit with a number
pub bit_of : (bytes : List ℕ) (n : ℕ) (other : Bool) → n < 8 * length bytes → get_or (bits_of bytes) n other ≡ (bit_at (get_or bytes (n / 8) 0) (7 - n % 8) == 1)
bit_of bytes n other there =
    let parts : n ≡ 8 * (n / 8) + n % 8 = omega arith in
    let byte : n / 8 < length bytes = omega (arith, there) in
    let bit : n % 8 < 8 = omega arith in
    let e : 8 - 1 - n % 8 ≡ 7 - n % 8 = omega arith in
    ap (λ (i : ℕ). get_or (bits_of bytes) i other) parts ∙ byte_bits bytes (n / 8) (n % 8) other byte bit ∙ low_bit 8 (n % 8) (get_or bytes (n / 8) 0) other bit
    ∙ ap (λ (i : ℕ). bit_at (get_or bytes (n / 8) 0) i == 1) e
