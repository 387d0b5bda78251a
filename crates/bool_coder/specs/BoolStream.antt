-- Statement: the stream of a list of bools, over whole numbers of any size (RFC 6386, section 7, but for the flush at
-- its end: docs/FORMAT.md, The stream). A bool has a prob: how many of 256 parts stand for a zero.
use Rattle.std.specs.Prelude.{ℕ, zero, suc, ◌+◌, ◌-◌, ◌*◌, ◌/◌, ◌^◌, ◌<◌, ◌≤◌, Bool, true, false, List, fold, nat_lt, if◌then◌else◌}
use Rattle.std.specs.Int.{bytes_high_first}

-- the part of the line that is left (7.3): its lowest point, how long it is, and how often both were doubled
pub record Interval : Type 0 where
  pub bottom : ℕ
  pub range : ℕ
  pub shifts : ℕ

-- before the first bool (7.3)
abbrev pub opening : Interval
opening = record { bottom = 0; range = 255; shifts = 0 }

-- how much of a range stands for a zero (7.3)
abbrev pub split : ℕ → ℕ → ℕ
split range prob = 1 + (range - 1) * prob / 256

-- a zero keeps the part below the split, a one what is above it (7.3)
abbrev pub chosen : Interval → ℕ → Bool → Interval
chosen i prob false = record i { range = split i.range prob }
chosen i prob true =
    record i { bottom = i.bottom + split i.range prob; range = i.range - split i.range prob }

-- twice as long, and one shift more
abbrev pub doubled : Interval → Interval
doubled i = record { bottom = 2 * i.bottom; range = 2 * i.range; shifts = i.shifts + 1 }

-- doubled until the range is at least 128 (7.3), or that many times
abbrev pub widened : ℕ → Interval → Interval
widened zero i = i
widened (suc times) i = if nat_lt i.range 128 then widened times (doubled i) else i

-- what one bool leaves: a range of at least 1 is at least 128 after seven doublings
unfoldable pub after : Interval → ℕ × Bool → Interval
after i bool = widened 7 (chosen i bool.0 bool.1)

-- what a list of bools leaves
abbrev pub coded : List (ℕ × Bool) → Interval
coded bools = fold after opening bools

-- a byte for the first eight bits, and as many more as hold the bits that were shifted
abbrev pub stream_length : ℕ → ℕ
stream_length shifts = 1 + (shifts + 7) / 8

-- the bottom in 8 + shifts bits, highest first, and then zero bits up to a whole byte (own)
unfoldable pub stream : Interval → List ℕ
stream i =
    let bytes =
    stream_length i.shifts in bytes_high_first bytes (i.bottom * 2 ^ (8 * bytes - (8 + i.shifts)))

-- a prob that a bool can have
abbrev pub IsBool : ℕ × Bool → Type 0
IsBool bool = (1 ≤ bool.0) × (bool.0 < 256)

-- the interval lies within the line of 255 parts, doubled as often as it was
abbrev pub IsOnLine : Interval → Type 0
IsOnLine i = i.bottom + i.range ≤ 255 * 2 ^ i.shifts
