-- Masks: a number by its bits, with one bit written.
use Rattle.std.proofs.Common.{◌≡◌, ◌≢◌, ℕ, zero, suc, ◌*◌, ◌%◌, ◌^◌, ◌<◌, Bool, true, false, if◌then◌else◌, ap, refl, ◌∙◌, arith}
use mir.Val.{bool_byte}
use Rattle.std.specs.Prelude.{bit_and, bit_or}
use Rattle.std.specs.Int.{w64, bit_at, bit_not}
use Rattle.std.proofs.lemmas.Nat.{one_shl}
use Rattle.std.proofs.lemmas.Nat.Bits.{bit_at_or, bit_at-zero, bit_at-pow_same, bit_at-pow_other, bit_at_clear_same, bit_at_clear_other}

-- a bit at an index
abbrev placed : ℕ → ℕ → ℕ
placed bit index = bit * 2 ^ index % 2 ^ 64

none : (index : ℕ) → placed 0 index ≡ 0
none index = let e : 0 * 2 ^ index ≡ 0 = omega arith in rw e refl

placed_same : (bit index : ℕ) → bit < 2 → index < 64 → bit_at (placed bit index) index ≡ bit
placed_same zero index small within = ap (λ n. bit_at n index) (none index) ∙ bit_at-zero index
placed_same (suc zero) index small within = ap (λ n. bit_at n index) (one_shl index 64 within) ∙ bit_at-pow_same index
placed_same (suc (suc bit)) index small within = absurd (omega arith)

placed_other : (bit index other : ℕ) → bit < 2 → index < 64 → other ≢ index → bit_at (placed bit index) other ≡ 0
placed_other zero index other small within apart = ap (λ n. bit_at n other) (none index) ∙ bit_at-zero other
placed_other (suc zero) index other small within apart =
    ap (λ n. bit_at n other) (one_shl index 64 within) ∙ bit_at-pow_other index other apart
placed_other (suc (suc bit)) index other small within apart = absurd (omega arith)

-- a mask without the bit at an index
abbrev cleared : ℕ → ℕ → ℕ
cleared mask index = bit_and mask (bit_not w64 (1 * 2 ^ index % 2 ^ 64))

-- the same with a bit in its place
abbrev pub written : ℕ → ℕ → ℕ → ℕ
written mask index bit = bit_or (cleared mask index) (placed bit index)

pub written_same : (mask index bit : ℕ) → bit < 2 → index < 64 → bit_at (written mask index bit) index ≡ bit
written_same mask index bit small within =
    bit_at_or (cleared mask index) (placed bit index) index
    ∙ omega (arith, bit_at_clear_same w64 mask index within, placed_same bit index small within)

pub written_other : (mask index bit other : ℕ) → bit < 2 → index < 64 → other < 64 → other ≢ index
    → bit_at (written mask index bit) other ≡ bit_at mask other
written_other mask index bit other small within inside apart =
    bit_at_or (cleared mask index) (placed bit index) other
    ∙ omega (
      arith,
      bit_at_clear_other w64 mask index within other inside apart,
      placed_other bit index other small within apart,
    )

-- the bit of a test
abbrev pub bit_of : Bool → ℕ
bit_of test = if test then 1 else 0

pub bit_small : (test : Bool) → bit_of test < 2
bit_small true = omega arith
bit_small false = omega arith

-- the same as the machine's byte of a test
pub byte_is_bit : (test : Bool) → bool_byte test ≡ bit_of test
byte_is_bit true = refl
byte_is_bit false = refl
