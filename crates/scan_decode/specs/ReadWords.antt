-- Steps: what ten bits of a block read (own; F.2.2.2 reads a symbol first, and its value after it).
use Rattle.std.specs.Prelude.{ℕ, ◌≡◌, ◌<◌, ◌≤◌, ◌+◌, Bool, false, List, [], take, length, get_or, slice_index, slice_set, ℤ, pos, unsigned_abs, Result, Ok}
use Rattle.std.specs.List.{All}
use Rattle.bit_list.specs.Bits.{low_bits}
use Rattle.bit_list.specs.Units.{Cursor, bits_at}
use Rattle.coef_block.specs.Zigzag.{zigzag}
use Rattle.jpeg_marker.specs.HuffmanTables.{TableFields}
use Rattle.scan_spec.specs.declared.refusal.ScanRefusal.{ScanRefusal}
use Rattle.scan_spec.specs.declared.slot.Slot.{Slot}
use Rattle.scan_decode.specs.BlockSteps.{Going}
use Rattle.scan_decode.specs.declared.read_word.ReadWord.{ReadWord}

-- what comes of an index past the end of a list of words: no word
abbrev pub blank_read : ReadWord
blank_read = record { bits = 0; zeros = 0; value = pos 0 }

-- whatever reading a block comes to, it goes on after some zeros and a value, which is put where it belongs
abbrev pub Puts : TableFields → List ℕ → ℕ → ℕ → ℤ → Cursor → Cursor → Type 0
Puts table bytes index zeros value from to =
    (whole : Result (List ℤ × Cursor) ScanRefusal) (block : List ℤ) (loose : Bool)
    → Going whole table bytes block index loose from
    → Going whole table bytes (slice_set block (slice_index zigzag (index + zeros)) value) (index + zeros + 1) false to

-- and it ends, if sixteen zeros weren't the last
abbrev pub Ends : TableFields → List ℕ → ℕ → Cursor → Cursor → Type 0
Ends table bytes index from to =
    (whole : Result (List ℤ × Cursor) ScanRefusal) (block : List ℤ)
    → Going whole table bytes block index false from → Going whole table bytes block 64 false to

-- If the next bits are those of a word, as these ten have them, reading them puts its value, or ends the block if it
-- says so.
pub record Reads (table : TableFields) (ten : List Bool) (word : ReadWord) : Type 0 where
  pub few : word.bits ≤ 10
  pub count : word.zeros ≤ 65
  pub value : word.zeros < 64 → (0 < unsigned_abs word.value) × (unsigned_abs word.value ≤ 1023)
  pub puts : word.zeros < 64 → (bytes : List ℕ) (from to : Cursor) (index : ℕ) → index + word.zeros < 64
      → bits_at word.bits bytes from ≡ Ok (take word.bits ten, to)
      → Puts table bytes index word.zeros word.value from to
  pub ends : word.zeros ≡ 64 → (bytes : List ℕ) (from to : Cursor) (index : ℕ) → index < 64
      → bits_at word.bits bytes from ≡ Ok (take word.bits ten, to) → Ends table bytes index from to

-- a word for each ten bits, by their number, or none at all
abbrev pub AreReads : TableFields → List ReadWord → Type 0
AreReads table words =
    (index : ℕ) → index < length words → Reads table (low_bits 10 index) (get_or words index blank_read)

-- words for each slot, by its component
abbrev pub AreReadSlots : List Slot → List (List ReadWord) → Type 0
AreReadSlots slots words = All (λ slot. AreReads slot.codes.ac (get_or words slot.component [])) slots
