-- View: how the code words of a table are kept by value (own).
use Rattle.std.specs.Prelude.{◌≡◌, List, fold, replicate, slice_set}
use Rattle.jpeg_marker.specs.HuffmanTables.{TableFields, IsTable}
use Rattle.jpeg_marker.specs.KnownBefore.{AreBytes}
use Rattle.huff_table.specs.CodeWords.{CodeWord, words_of}
use Rattle.huff_table.specs.ShortWords.{by_bits}
use Rattle.huff_table.specs.LongWords.{word_ends, value_ends}
use Rattle.huff_table.specs.declared.word.Word.{Word}
use Rattle.huff_table.specs.declared.codes.Codes.TheInside.{Inside}

-- no code word
abbrev pub no_word : Word
no_word = record { code = 0; size = 0 }

-- each code word at the index that is its value
abbrev pub placed : List Word → List CodeWord → List Word
placed words more =
    fold (λ (all : List Word) (word : CodeWord). slice_set all word.value
    (record { code = word.code; size = word.size })) words more

-- the code words of a table, by value
unfoldable pub by_value : TableFields → List Word
by_value table = placed (replicate 256 no_word) (words_of table)

-- what is kept is a table's
pub record IsKept (c : Inside) : Type 0 where
  pub table : IsTable c.table
  pub words : c.words ≡ by_value c.table
  pub short : c.short ≡ by_bits c.table
  pub word_ends : c.word_ends ≡ word_ends 15 0 c.table.counts
  pub value_ends : c.value_ends ≡ value_ends 0 c.table.counts
  pub bytes : AreBytes c.table.values

-- what is kept of a table
abbrev pub inside_of : TableFields → Inside
inside_of table = record {
  table = table;
  words = by_value table;
  short = by_bits table;
  word_ends = word_ends 15 0 table.counts;
  value_ends = value_ends 0 table.counts;
}
