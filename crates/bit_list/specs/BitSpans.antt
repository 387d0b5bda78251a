-- Law: the bits between two cursors, and the units that hold them (ITU-T T.81, B.1.1.5, C.3).
use Rattle.std.specs.Prelude.{ℕ, ◌≡◌, ◌+◌, ◌*◌, ◌<◌, ◌≤◌, Bool, List, ◌++◌, length, drop, Ok}
use Rattle.std.specs.List.{AllByRecursion}
use Rattle.bit_list.specs.Bits.{IsByte, bits_of, stuffed}
use Rattle.bit_list.specs.Units.{Cursor, starting, bits_at}

-- a cursor that begins no unit but at its first bit
pub record IsWithin (cursor : Cursor) : Type 0 where
  pub few : length cursor.left < 8
  pub skip : cursor.skip ≡ 0

-- The bits between two cursors (own): what was left at the first one and the bits of the units after it are these bits
-- and what is left at the second one, which is after these units.
pub record Spans (bytes : List ℕ) (from : Cursor) (bits : List Bool) (to : Cursor) : Type 0 where
  pub units : List ℕ
  pub are_bytes : AllByRecursion IsByte units
  pub text : drop from.next bytes ≡ stuffed units ++ drop to.next bytes
  pub spelled : from.left ++ bits_of units ≡ bits ++ to.left
  pub place : to.next ≡ from.next + length (stuffed units)
  pub within : IsWithin to

-- n bits that are read are those of the units between (own)
abbrev pub TakenStand : Type 0
TakenStand =
    (n : ℕ) (bytes : List ℕ) (from to : Cursor) (bits : List Bool) → AllByRecursion IsByte bytes
    → IsWithin from → bits_at n bytes from ≡ Ok (bits, to)
    → Spans bytes from bits to × (length bits ≡ n)

-- and the bits of units are read, if less than a unit is left of these (own)
abbrev pub StandingAreTaken : Type 0
StandingAreTaken =
    (units rest bytes : List ℕ) (from : Cursor) (bits more : List Bool) → from.skip ≡ 0
    → drop from.next bytes ≡ stuffed units ++ rest → from.left ++ bits_of units ≡ bits ++ more
    → length more < 8
    → (to : Cursor) × (bits_at (length bits) bytes from ≡ Ok (bits, to)) × (to.left ≡ more)
    × (to.skip ≡ 0) × (to.next ≡ from.next + length (stuffed units))

-- bits that are read after the first few of a unit are those read from within it (own)
abbrev pub TakenFromWithin : Type 0
TakenFromWithin =
    (n skip place : ℕ) (bytes : List ℕ) (prefix : List Bool) (at : Cursor) → 0 < n → 0 < skip
    → skip < 8 → bits_at skip bytes (starting place 0) ≡ Ok (prefix, at)
    → bits_at n bytes (starting place skip) ≡ bits_at n bytes at

-- stuffed bytes are at most twice as many (F.1.2.3)
abbrev pub StuffedAreFew : Type 0
StuffedAreFew = (bytes : List ℕ) → length (stuffed bytes) ≤ 2 * length bytes
