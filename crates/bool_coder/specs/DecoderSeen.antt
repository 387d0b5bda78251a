-- View: a decoder, its next bool, and the bools that it has read (RFC 6386, section 7.3).
use Rattle.std.specs.Prelude.{◌≡◌, ℕ, ◌+◌, ◌-◌, ◌*◌, ◌%◌, ◌^◌, Bool, List, length, min, nat_le}
use Rattle.std.specs.List.{AllByRecursion}
use Rattle.bool_coder.specs.BoolStream.{split, after, coded, IsBool}
use Rattle.bool_coder.specs.BoolReading.{first_bits, IsReading}

-- a decoder (own): `offset` is the number of the bits that were looked at, less the bottom; `position` is a bit offset,
-- the shifts so far, and grows no longer one past the last one that matters
pub record Seen : Type 0 where
  pub bytes : List ℕ
  pub offset : ℕ
  pub range : ℕ
  pub position : ℕ

-- one past the bit offset of the last byte's last bit (own): there each bit is a zero, and the stream of the bools
-- longer
abbrev pub end_position : List ℕ → ℕ
end_position bytes = 8 * (length bytes - 1) + 1

-- the next bool of a decoder
abbrev pub seen_bit : Seen → ℕ → Bool
seen_bit seen prob = nat_le (split seen.range prob) seen.offset

-- a decoder after one more bool: a bit more is looked at for each time that the range was doubled
unfoldable pub seen_after : Seen → ℕ → Seen
seen_after seen prob =
    let i =
    after (record { bottom = 0; range = seen.range; shifts = seen.position })
    (prob, seen_bit seen prob) in
    let more = i.shifts - seen.position in
    record {
      bytes = seen.bytes;
      offset = seen.offset * 2 ^ more + first_bits seen.bytes (8 + i.shifts) % 2 ^ more - i.bottom;
      range = i.range;
      position = min i.shifts (end_position seen.bytes);
    }

-- the decoder has read these bools
pub record Reads (bools : List (ℕ × Bool)) (seen : Seen) : Type 0 where
  pub given : IsReading seen.bytes bools
  pub range : seen.range ≡ (coded bools).range
  pub bottom : (coded bools).bottom + seen.offset ≡ first_bits seen.bytes (8 + (coded bools).shifts)
  pub position : seen.position ≡ min (coded bools).shifts (end_position seen.bytes)
  pub probs : AllByRecursion IsBool bools
