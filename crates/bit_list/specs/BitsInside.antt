-- View: how bits are kept in a byte and in a word, and what always holds of them (own).
use Rattle.std.specs.Prelude.{◌≡◌, ℕ, ◌+◌, ◌-◌, ◌*◌, ◌/◌, ◌%◌, ◌^◌, ◌<◌, ◌≤◌, ◌≢◌, List, length, slice_index_or, Ok, nat_lt, count_ones, if◌then◌else◌}
use Rattle.bit_list.specs.Bits.{low_bits}
use Rattle.bit_list.specs.Units.{Cursor, unit_at}
use Rattle.bit_list.specs.declared.fetched.Fetched.{Fetched}
use Rattle.bit_list.specs.declared.window.Window.{Window}

-- the low bits of a number, which has no others
pub record IsKept (most number count : ℕ) : Type 0 where
  pub few : count ≤ most
  pub below : number < 2 ^ count

-- the cursor that a window stands for
abbrev pub cursor_of : Window → Cursor
cursor_of w = record {
  left = low_bits w.count w.number;
  skip = w.skip;
  last = w.last;
  next = w.next;
}

-- what always holds of a window
pub record IsWindow (w : Window) : Type 0 where
  pub bits : IsKept 8 w.number w.count
  pub skip : w.skip ≤ 7

-- The place before the last n of the units that end at a place (own). Each has one byte, and one more if its bit of
-- `stuffed` is set: the lowest bit is the last unit's.
abbrev pub place_before : ℕ → ℕ → ℕ → ℕ
place_before end stuffed n = end - (n + count_ones (stuffed % 2 ^ n))

-- The cursor before the `count` low bits of a word (own): those of a unit begun, and whole units after them, where
-- `place n` is the place before the last n units. The first unit that was fetched is at `first`; the last bit before it
-- is one of the unit at `last`.
abbrev pub cursor_at : (ℕ → ℕ) → ℕ → ℕ → ℕ → ℕ → ℕ → Cursor
cursor_at place word skip last first count =
    record {
      left = low_bits (count % 8) (word / 2 ^ (8 * (count / 8)));
      skip = skip;
      last = if nat_lt first (place (count / 8)) then place (count / 8 + 1) else last;
      next = place (count / 8);
    }

-- the whole units among the `count` low bits of a word are those at these places (own)
abbrev pub AreUnits : List ℕ → (ℕ → ℕ) → ℕ → ℕ → Type 0
AreUnits bytes place word count =
    (i : ℕ) → i < count / 8
    → unit_at bytes (place (i + 1)) ≡ Ok (word / 2 ^ (8 * i) % 256, place i)

-- the cursor that fetched bits stand for (own)
abbrev pub cursor_of_fetched : Fetched → Cursor
cursor_of_fetched f =
    cursor_at (place_before f.end f.stuffed) f.word f.skip f.last f.first f.count

-- what always holds of fetched bits (own)
pub record IsFetched (bytes : List ℕ) (f : Fetched) : Type 0 where
  pub few : f.count ≤ 63
  pub skip : f.skip ≤ 7
  pub fresh : 8 ≤ f.count → f.skip ≡ 0
  pub run : f.first ≤ place_before f.end f.stuffed (f.count / 8)
  pub units : AreUnits bytes (place_before f.end f.stuffed) f.word f.count

-- a byte at a place, which is a unit (own)
abbrev pub IsPlain : List ℕ → ℕ → ℕ → Type 0
IsPlain bytes place byte = (slice_index_or bytes place 0 ≡ byte) × (byte ≢ 255)

-- six bytes at a place, each a unit, as a number, the first one highest (own)
pub record ArePlain (bytes : List ℕ) (place six : ℕ) : Type 0 where
  pub within : place + 6 ≤ length bytes
  pub below : six < 2 ^ 48
  pub first : IsPlain bytes place (six / 2 ^ 40 % 256)
  pub second : IsPlain bytes (place + 1) (six / 2 ^ 32 % 256)
  pub third : IsPlain bytes (place + 2) (six / 2 ^ 24 % 256)
  pub fourth : IsPlain bytes (place + 3) (six / 2 ^ 16 % 256)
  pub fifth : IsPlain bytes (place + 4) (six / 2 ^ 8 % 256)
  pub sixth : IsPlain bytes (place + 5) (six % 256)
