-- What is kept of a table without a code word.
use Rattle.std.proofs.Common.{◌≡◌, ℕ, zero, suc, ◌+◌, Bool, List, [], ◌∷◌, map, replicate, refl, sym, ap₂, arith}
use Rattle.std.specs.List.{range_with_len}
use Rattle.bit_list.specs.Bits.{low_bits}
use Rattle.jpeg_marker.specs.HuffmanTables.{no_table, IsTable}
use Rattle.jpeg_marker.proofs.Repeats.{IsDistinct-from_distinct}
use Rattle.huff_table.specs.CodeWords.{words_of, value_of}
use Rattle.huff_table.specs.CodesInside.{no_word, by_value, IsKept}
use Rattle.huff_table.specs.ShortWords.{no_short, short_from, by_bits}

none_short : (bits : List Bool) (size more : ℕ) → short_from no_table bits size more ≡ no_short
unfolding short_from value_of words_of
none_short bits size zero = refl
none_short bits size (suc more) = none_short bits (size + 1) more

all_same : {B : Type 0} (f : ℕ → B) (b : B) (from n : ℕ) → ((k : ℕ) → f k ≡ b) → replicate n b ≡ map f (range_with_len from n)
all_same f b from zero same = refl
all_same f b from (suc n) same = ap₂ (λ x xs. x ∷ xs) (sym (same from)) (all_same f b (from + 1) n same)

no_words : replicate 256 no_word ≡ by_value no_table
unfolding by_value words_of
no_words = refl

no_shorts : replicate 512 no_short ≡ by_bits no_table
unfolding by_bits
no_shorts = all_same (λ index. short_from no_table (low_bits 9 index) 1 9) no_short 0 512 (λ index. none_short (low_bits 9 index) 1 9)

no_table_is : IsTable no_table
no_table_is = record { lengths = refl; whole = refl; distinct_values = IsDistinct-from_distinct [] refl; space = omega arith }

pub none_kept : IsKept (record { table = no_table; words = replicate 256 no_word; short = replicate 512 no_short; word_ends = replicate 16 0; value_ends = replicate 16 0 })
none_kept = record { table = no_table_is; words = no_words; short = no_shorts; word_ends = refl; value_ends = refl; bytes = tt }
