-- Law: what holds of all bits and bytes (ITU-T T.81, B.1.1.5, F.1.2.3).
use Rattle.std.specs.Prelude.{◌≡◌, ℕ, ◌+◌, Bool, List, [], ◌++◌, length, Ok}
use Rattle.bit_list.specs.Bits.{bytes_after, stuffed}
use Rattle.bit_list.specs.Units.{Cursor, starting, bits_at, and_then}
use Rattle.bit_list.specs.Peeked.{peeked}

-- after the last bit of the unit before a place
pub record StandsAt (place : ℕ) (cursor : Cursor) : Type 0 where
  pub left : cursor.left ≡ []
  pub skip : cursor.skip ≡ 0
  pub next : cursor.next ≡ place

-- bits that were put as whole bytes, among other bytes, are read again, and the next unit is the one after them
abbrev pub IsTakenAgain : List Bool → List ℕ → List ℕ → Type 0
IsTakenAgain bits prefix rest =
    (cursor : Cursor) × (bits_at (length bits) (prefix ++ (stuffed (bytes_after [] bits) ++ rest))
    (starting (length prefix) 0) ≡ Ok (bits, cursor))
    × StandsAt (length prefix + length (stuffed (bytes_after [] bits))) cursor

-- to read some bits is to read the first of them, and then the others
abbrev pub IsTakenInParts : ℕ → ℕ → List ℕ → Cursor → Type 0
IsTakenInParts m n bytes cursor =
    bits_at (m + n) bytes cursor
    ≡ and_then (bits_at m bytes cursor)
    (λ prefix. and_then (bits_at n bytes prefix.1) (λ more. Ok (prefix.0 ++ more.0, more.1)))

-- the bits that a peek gives are those that are read next, and then those that a peek after them gives
abbrev pub ArePeeked : Type 0
ArePeeked =
    (n more : ℕ) (bytes : List ℕ) (from to : Cursor) (bits : List Bool)
    → bits_at n bytes from ≡ Ok (bits, to)
    → peeked (n + more) bytes from ≡ bits ++ peeked more bytes to

-- a peek of n bits gives n bits
abbrev pub PeekedAreAsMany : Type 0
PeekedAreAsMany = (n : ℕ) (bytes : List ℕ) (from : Cursor) → length (peeked n bytes from) ≡ n
