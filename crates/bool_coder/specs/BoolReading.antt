-- Statement: what bytes give under a list of probs, over whole numbers of any size (RFC 6386, section 7.3).
use Rattle.std.specs.Prelude.{◌≡◌, ℕ, ◌+◌, ◌-◌, ◌*◌, ◌/◌, ◌^◌, ◌<◌, Bool, List, [], ◌∷◌, length, map, nat_le, slice_index}
use Rattle.std.specs.Int.Digits.{number_from_digits}
use Rattle.bool_coder.specs.BoolStream.{Interval, opening, split, after}

-- the first `count` bits of the bytes as a number, with zero bits past their end
unfoldable pub first_bits : List ℕ → ℕ → ℕ
first_bits bytes count = number_from_digits 256 bytes * 2 ^ count / 2 ^ (8 * length bytes)

-- a one if the bits that were looked at, less the bottom, are at least the split (7.3)
abbrev pub next_bit : List ℕ → Interval → ℕ → Bool
next_bit bytes i prob = nat_le (split i.range prob) (first_bits bytes (8 + i.shifts) - i.bottom)

-- what the bytes give under the probs, from an interval on (7.3)
abbrev pub reading : List ℕ → Interval → List ℕ → List Bool
reading bytes i [] = []
reading bytes i (prob ∷ probs) =
    let bit = next_bit bytes i prob in bit ∷ reading bytes (after i (prob, bit)) probs

-- the bools are what the bytes give under their probs
abbrev pub IsReading : List ℕ → List (ℕ × Bool) → Type 0
IsReading bytes bools =
    reading bytes opening (map (λ (b : ℕ × Bool). b.0) bools) ≡ map (λ (b : ℕ × Bool). b.1) bools

-- the opening interval has the first eight bits of the bytes
abbrev pub Starts : List ℕ → Type 0
Starts bytes = (0 < length bytes) × (slice_index bytes 0 < 255)
