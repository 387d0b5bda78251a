-- View: the values of code words of at most nine bits, kept by the next nine bits (own; F.2.2.3 finds them bit by
-- bit).
use Rattle.std.specs.Prelude.{ℕ, zero, suc, ◌+◌, Bool, List, map, take, Option, Some, None}
use Rattle.std.specs.List.{range_with_len}
use Rattle.bit_list.specs.Bits.{low_bits}
use Rattle.jpeg_marker.specs.HuffmanTables.{TableFields}
use Rattle.huff_table.specs.CodeWords.{value_of}
use Rattle.huff_table.specs.declared.word.ShortWord.{ShortWord}

-- no code word of at most nine bits (own)
abbrev pub no_short : ShortWord
no_short = record { value = 0; size = 0 }

-- a value and the size of its word, or else what a longer word gives (own)
abbrev pub short_or : Option ℕ → ℕ → ShortWord → ShortWord
short_or (Some value) size longer = record { value = value; size = size }
short_or None size longer = longer

-- the first size from `size` on, of at most `more` of them, of which the first of these bits are a code word (own)
unfoldable pub short_from : TableFields → List Bool → ℕ → ℕ → ShortWord
short_from table bits size zero = no_short
short_from table bits size (suc more) =
    short_or (value_of table (take size bits)) size (short_from table bits (size + 1) more)

-- what each nine bits begin with, by their number (own)
unfoldable pub by_bits : TableFields → List ShortWord
by_bits table = map (λ index. short_from table (low_bits 9 index) 1 9) (range_with_len 0 512)
