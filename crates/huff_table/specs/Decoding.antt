-- Statement: the value of the next code word in stuffed bytes (ITU-T T.81, F.2.2.3).
use Rattle.std.specs.Prelude.{ℕ, zero, suc, ◌≡◌, ◌<◌, Bool, List, [], ◌∷◌, ◌++◌, length, Option, Some, None, Result, Ok, Err}
use Rattle.bit_list.specs.Units.{Cursor, bit_at, bits_at}
use Rattle.bit_list.specs.declared.fault.BitFault.{BitFault}
use Rattle.jpeg_marker.specs.HuffmanTables.{TableFields}
use Rattle.huff_table.specs.CodeWords.{value_of, word_of}
use Rattle.huff_table.specs.declared.fault.CodeFault.{CodeFault}
use Rattle.huff_table.specs.declared.fault.CodeFault.TheVariants.{Bits, NoWord}

-- what follows from a bit and the cursor after it, and a fault of bits as it is (own)
abbrev pub with_bit : {A : Type 0} → Result (Bool × Cursor) BitFault
    → (Bool → Cursor → Result A CodeFault) → Result A CodeFault
with_bit (Ok bit) f = f bit.0 bit.1
with_bit (Err fault) f = Err (Bits fault)

-- a value that was found, or else what longer words give (own)
abbrev pub found_or : Option ℕ → Cursor → Result (ℕ × Cursor) CodeFault
    → Result (ℕ × Cursor) CodeFault
found_or (Some value) cursor later = Ok (value, cursor)
found_or None cursor later = later

-- After bits that are no code word, at most `more` further ones are read, one by one, until they are one (Figure F.16,
-- DECODE): the value, and the cursor after its word.
unfoldable pub value_after : TableFields → ℕ → List ℕ → List Bool → Cursor
    → Result (ℕ × Cursor) CodeFault
value_after table zero bytes prefix cursor = Err (NoWord cursor.last)
value_after table (suc more) bytes prefix cursor =
    with_bit (bit_at bytes cursor)
    (λ bit next. found_or (value_of table (prefix ++ bit ∷ [])) next
    (value_after table more bytes (prefix ++ bit ∷ []) next))

-- the value of the code word at a cursor, and the cursor after it; no word has more than sixteen bits
abbrev pub value_at : TableFields → List ℕ → Cursor → Result (ℕ × Cursor) CodeFault
value_at table bytes cursor = value_after table 16 bytes [] cursor

-- these are the bits from a cursor to another, and they begin with no code word (own)
pub record AreNoWord (table : TableFields) (bytes : List ℕ) (from : Cursor) (bits : List Bool)
    (to : Cursor) : Type 0 where
  pub stand : bits_at (length bits) bytes from ≡ Ok (bits, to)
  pub none : (value : ℕ) (word more : List Bool) → word_of table value ≡ Some word
      → bits ≡ word ++ more → ⊥

-- why there is no code word at a cursor: sixteen bits that begin with none, or fewer, and the next one isn't there
abbrev pub IsFaultAt : TableFields → List ℕ → Cursor → CodeFault → Type 0
IsFaultAt table bytes from (Bits fault) =
    (bits : List Bool) × (to : Cursor) × (length bits < 16) × AreNoWord table bytes from bits to
    × (bit_at bytes to ≡ Err fault)
IsFaultAt table bytes from (NoWord place) =
    (bits : List Bool) × (to : Cursor) × (length bits ≡ 16) × AreNoWord table bytes from bits to
    × (place ≡ to.last)
