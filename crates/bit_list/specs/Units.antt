-- Statement: the units of coded bytes, and the bits that are read from them (ITU-T T.81, B.1.1.5 and C.3). A unit is
-- a byte other than 0xff, or 0xff and the zero that was stuffed after it.
use Rattle.std.specs.Prelude.{ℕ, zero, suc, ◌+◌, Bool, false, List, [], ◌∷◌, length, drop, Result, Ok, Err, slice_index_or, ◌==◌, if◌then◌else◌}
use Rattle.bit_list.specs.Bits.{low_bits}
use Rattle.bit_list.specs.declared.fault.BitFault.{BitFault}
use Rattle.bit_list.specs.declared.fault.BitFault.TheVariants.{Cut, MarkerInScan}

-- what comes of a value, and a fault as it is (own)
abbrev pub and_then : {A B : Type 0} → Result A BitFault → (A → Result B BitFault)
    → Result B BitFault
and_then (Ok x) f = f x
and_then (Err fault) f = Err fault

-- the unit at the head of the bytes from a place on, and the place after it; `end` is where the bytes end (B.1.1.5)
abbrev pub unit_of : ℕ → ℕ → List ℕ → Result (ℕ × ℕ) BitFault
unit_of end place [] = Err (Cut end)
unit_of end place (byte ∷ []) = if byte == 255 then Err (Cut end) else Ok (byte, place + 1)
unit_of end place (byte ∷ next ∷ rest) =
    if byte == 255 then (if next == 0 then Ok (255, place + 2) else Err (MarkerInScan place))
    else Ok (byte, place + 1)

-- the unit at a place, and the place after it (B.1.1.5)
unfoldable pub unit_at : List ℕ → ℕ → Result (ℕ × ℕ) BitFault
unit_at bytes place = unit_of (length bytes) place (drop place bytes)

-- where a reader of bits is (own): the bits that are left of the unit at `last`, how many bits of the next unit are
-- skipped, the place of the unit of the last bit that was read, and the place of the next unit
pub record Cursor : Type 0 where
  pub left : List Bool
  pub skip : ℕ
  pub last : ℕ
  pub next : ℕ

-- before the bits of the unit at a place, but for the first ones (own)
abbrev pub starting : ℕ → ℕ → Cursor
starting place bits = record { left = []; skip = bits; last = place; next = place }

-- the unit at the next place, with its bits, the highest first (C.3)
abbrev pub fetched : List ℕ → Cursor → Result Cursor BitFault
fetched bytes cursor =
    and_then (unit_at bytes cursor.next)
    (λ unit. Ok (record {
      left = drop cursor.skip (low_bits 8 unit.0);
      skip = 0;
      last = cursor.next;
      next = unit.1;
    }))

-- a cursor with bits left, if there are any (own)
unfoldable pub filled : List ℕ → Cursor → Result Cursor BitFault
filled bytes cursor = if length cursor.left == 0 then fetched bytes cursor else Ok cursor

-- the next bit, and the cursor after it; no cursor skips a whole unit, but if one did, the bit were a zero (own)
unfoldable pub bit_at : List ℕ → Cursor → Result (Bool × Cursor) BitFault
bit_at bytes cursor =
    and_then (filled bytes cursor)
    (λ at. Ok (slice_index_or at.left 0 false, record at { left = drop 1 at.left }))

-- the next n bits, and the cursor after them (own)
unfoldable pub bits_at : ℕ → List ℕ → Cursor → Result (List Bool × Cursor) BitFault
bits_at zero bytes cursor = Ok ([], cursor)
bits_at (suc n) bytes cursor =
    and_then (bit_at bytes cursor)
    (λ first. and_then (bits_at n bytes first.1) (λ more. Ok (first.0 ∷ more.0, more.1)))

-- what a reader sees: the bytes, and where it is in them (own)
pub record Reading : Type 0 where
  pub bytes : List ℕ
  pub cursor : Cursor
