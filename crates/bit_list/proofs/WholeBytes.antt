-- The whole bytes of a number, as those of a longer one of which it is the upper bits.
use Rattle.std.proofs.Common.{◌≡◌, ◌≢◌, ℕ, zero, suc, ◌+◌, ◌-◌, ◌*◌, ◌/◌, ◌%◌, ◌^◌, ◌<◌, ◌≤◌, ◌==◌, Bool, List, [], ◌∷◌, ◌++◌, take, refl, sym, ap, ◌∙◌, arith, inl, inr}
use Rattle.std.specs.Int.{byte_at, bytes_high_first}
use Rattle.std.specs.List.{AllByRecursion}
use Rattle.std.proofs.Math.Nat.{pow-suc}
use Rattle.std.proofs.lemmas.Bool.{cases_lt, eqb-true, false_from_ne_true}
use Rattle.std.proofs.lemmas.Nat.{pow-add, shl-shr, shr-shr}
use Rattle.bit_list.specs.Bits.{low_bits, bytes_after, begun_after, stuffed}
use Rattle.bit_list.specs.NumbersOfBits.{length-low_bits}
use Rattle.bit_list.proofs.LowBits.{low_bits-append, low_bits-same}
use Rattle.bit_list.proofs.Wholes.{no_byte, all_begun, byte_first}

-- powers of a byte
byte_power : (k : ℕ) → 256 ^ k ≡ 2 ^ (8 * k)
byte_power zero = refl
byte_power (suc k) =
    let h = byte_power k in
    let e : 8 * suc k ≡ 8 * k + 8 = omega arith in
    rw (pow-suc, e, pow-add) (omega (arith, h))

-- a byte by its place
pub byte_is : (k n : ℕ) → byte_at k n ≡ n / 2 ^ (8 * k) % 256
byte_is zero n = omega arith
byte_is (suc k) n = rw byte_power refl

-- a shift to the left, and a longer one back
shifted_back : (n a b : ℕ) → n * 2 ^ a / 2 ^ (a + b) ≡ n / 2 ^ b
shifted_back n a b = sym (shr-shr (n * 2 ^ a) a b) ∙ ap (λ m. m / 2 ^ b) (shl-shr n a)

-- the byte above some bits of a number, and these bits
pub record NextByte (rest number : ℕ) : Type 0 where
  pub bytes : bytes_after [] (low_bits (8 + rest) number) ≡ number / 2 ^ rest % 256 ∷ bytes_after [] (low_bits rest number)
  pub begun : begun_after [] (low_bits (8 + rest) number) ≡ begun_after [] (low_bits rest number)

pub next_byte : (rest number : ℕ) → NextByte rest number
next_byte rest number =
    let byte = number / 2 ^ rest % 256 in
    let below : byte < 256 = omega arith in
    let same : low_bits 8 (number / 2 ^ rest) ≡ low_bits 8 byte = low_bits-same 8 (number / 2 ^ rest) byte (omega arith) in
    let cut : low_bits (8 + rest) number ≡ low_bits 8 byte ++ low_bits rest number =
    low_bits-append 8 rest number ∙ ap (λ (bits : List Bool). bits ++ low_bits rest number) same in
    record {
      bytes = ap (bytes_after []) cut ∙ byte_first byte (low_bits rest number) below;
      begun = ap (begun_after []) cut;
    }

-- the bytes that a number's bits complete are the first of a longer number's, and the bits that are left
pub record AreFirst (k count number bits : ℕ) : Type 0 where
  pub bytes : bytes_after [] (low_bits count number) ≡ take (count / 8) (bytes_high_first k bits)
  pub begun : begun_after [] (low_bits count number) ≡ low_bits (count % 8) number

-- fewer than eight bits
none : (k count number bits : ℕ) → count < 8 → AreFirst k count number bits
none k count number bits few =
    let len = length-low_bits count number in
    let whole : count / 8 ≡ 0 = omega arith in
    let left : count % 8 ≡ count = omega arith in
    record {
      bytes = rw whole (no_byte [] (low_bits count number) (omega arith));
      begun = rw left (all_begun [] (low_bits count number) (omega arith));
    }

-- eight bits more
one_more : (k rest number bits : ℕ) → rest ≤ 8 * k → bits ≡ number * 2 ^ (8 * k - rest) → AreFirst k rest number bits → AreFirst (suc k) (8 + rest) number bits
one_more k rest number bits few is more =
    let b = next_byte rest number in
    let whole : (8 + rest) / 8 ≡ suc (rest / 8) = omega arith in
    let left : (8 + rest) % 8 ≡ rest % 8 = omega arith in
    let long : 8 * k - rest + rest ≡ 8 * k = omega arith in
    let back : number * 2 ^ (8 * k - rest) / 2 ^ (8 * k) ≡ number / 2 ^ rest = rw long at (shifted_back number (8 * k - rest) rest) in
    let byte : byte_at k bits ≡ number / 2 ^ rest % 256 = byte_is k bits ∙ ap (λ (n : ℕ). n / 2 ^ (8 * k) % 256) is ∙ ap (λ (n : ℕ). n % 256) back in
    record {
      bytes = rw (whole, byte) (b.bytes ∙ ap (λ (bs : List ℕ). number / 2 ^ rest % 256 ∷ bs) more.bytes);
      begun = rw left (b.begun ∙ more.begun);
    }

-- all counts
pub are_first : (k count number bits : ℕ) → count ≤ 8 * k → bits ≡ number * 2 ^ (8 * k - count) → AreFirst k count number bits
are_first zero count number bits few is = none zero count number bits (omega arith)
are_first (suc k) count number bits few is =
    elim (cases_lt count 8) [
      | inl short ↦ none (suc k) count number bits short
      | inr long ↦
          let rest = count - 8 in
          let e : 8 + rest ≡ count = omega arith in
          let same : 8 * suc k - count ≡ 8 * k - rest = omega arith in
          let is_rest : bits ≡ number * 2 ^ (8 * k - rest) = is ∙ ap (λ (j : ℕ). number * 2 ^ j) same in
          let enough : rest ≤ 8 * k = omega arith in
          let step = one_more k rest number bits enough is_rest (are_first k rest number bits enough is_rest) in
          rw e at step
    ]

-- nothing is stuffed after bytes other than 0xff
plain : (byte : ℕ) (bytes : List ℕ) → byte ≢ 255 → stuffed (byte ∷ bytes) ≡ byte ∷ stuffed bytes
plain byte bytes other = rw (false_from_ne_true (byte == 255) (λ full. other (eqb-true byte 255 full))) refl

pub plain_bytes : (n : ℕ) (bytes : List ℕ) → AllByRecursion (λ byte. byte ≢ 255) bytes → stuffed (take n bytes) ≡ take n bytes
plain_bytes zero bytes others = refl
plain_bytes (suc n) [] others = refl
plain_bytes (suc n) (byte ∷ bytes) others =
    plain byte (take n bytes) others.0 ∙ ap (λ (bs : List ℕ). byte ∷ bs) (plain_bytes n bytes others.1)
