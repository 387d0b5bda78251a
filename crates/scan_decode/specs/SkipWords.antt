-- Steps: what twelve bits of a block skip, whose coefficients nobody keeps (own; F.2.2.2 reads them symbol by symbol).
use Rattle.std.specs.Prelude.{ℕ, ◌≡◌, ◌<◌, ◌≤◌, ◌+◌, Bool, false, if◌then◌else◌, List, [], take, length, get_or, ℤ, Result, Ok, Err, ⊤}
use Rattle.std.specs.List.{All}
use Rattle.bit_list.specs.Bits.{low_bits}
use Rattle.bit_list.specs.Units.{Cursor, bits_at}
use Rattle.jpeg_marker.specs.HuffmanTables.{TableFields}
use Rattle.scan_spec.specs.declared.refusal.ScanRefusal.{ScanRefusal}
use Rattle.scan_spec.specs.declared.slot.Slot.{Slot}
use Rattle.scan_decode.specs.BlockSteps.{IsGoing}
use Rattle.scan_decode.specs.declared.skip_word.SkipWord.{SkipWord}

-- what comes of an index past the end of a list of words: no word, since a word has coefficients
abbrev pub blank : SkipWord
blank = record { bits = 0; coefficients = 0; ends = false }

-- the coefficients of a block below a zigzag index were read, and nobody keeps them
abbrev pub IsSkipped : Result (List ℤ × Cursor) ScanRefusal → TableFields → List ℕ → ℕ → Bool → Cursor
    → Type 0
IsSkipped whole table bytes index loose cursor = IsGoing (λ block. ⊤) whole table bytes index loose cursor

-- whatever reading a block comes to, it goes on at another zigzag index and cursor, and not after sixteen zeros
abbrev pub GoesOn : TableFields → List ℕ → ℕ → Cursor → ℕ → Cursor → Type 0
GoesOn table bytes index from next to =
    (whole : Result (List ℤ × Cursor) ScanRefusal) → IsSkipped whole table bytes index false from
    → IsSkipped whole table bytes next false to

-- and it comes to a refusal
abbrev pub IsRefused : TableFields → List ℕ → ℕ → Cursor → ScanRefusal → Type 0
IsRefused table bytes index from refusal =
    (whole : Result (List ℤ × Cursor) ScanRefusal) → IsSkipped whole table bytes index false from
    → whole ≡ Err refusal

-- the zigzag index after a word
abbrev pub index_after : ℕ → SkipWord → ℕ
index_after index word = if word.ends then 64 else index + word.coefficients

-- If the next bits are those of a word, as far as these twelve go, and the block has room for its coefficients,
-- reading them reads that many, or all that are left; not after sixteen zeros.
pub record Skips (table : TableFields) (twelve : List Bool) (word : SkipWord) : Type 0 where
  pub few : word.bits ≤ 16
  pub some : 0 < word.coefficients
  pub count : word.coefficients ≤ 65
  pub does : (bytes : List ℕ) (from to : Cursor) (taken : List Bool) (index : ℕ)
      → index + word.coefficients ≤ 64 → bits_at word.bits bytes from ≡ Ok (taken, to)
      → take 12 taken ≡ take word.bits twelve → GoesOn table bytes index from (index_after index word) to

-- a word for each twelve bits, by their number, or none at all
abbrev pub AreSkips : TableFields → List SkipWord → Type 0
AreSkips table words =
    (index : ℕ) → index < length words → Skips table (low_bits 12 index) (get_or words index blank)

-- words for each slot, by its component
abbrev pub AreSkipSlots : List Slot → List (List SkipWord) → Type 0
AreSkipSlots slots words = All (λ slot. AreSkips slot.codes.ac (get_or words slot.component [])) slots
