-- Rows: a table of the standard with its code words: categories of DC differences of luminance (ITU-T T.81, Table
-- K.3).
use Rattle.std.specs.Prelude.{ℕ, List, [], ◌∷◌}
use Rattle.jpeg_marker.specs.HuffmanTables.{TableFields}
use Rattle.huff_table.specs.CodeWords.{CodeWord}

-- DC differences of luminance (Table K.3)
abbrev pub table_k3 : TableFields
table_k3 = record {
  counts = 0 ∷ 1 ∷ 5 ∷ 1 ∷ 1 ∷ 1 ∷ 1 ∷ 1 ∷ 1 ∷ 0 ∷ 0 ∷ 0 ∷ 0 ∷ 0 ∷ 0 ∷ 0 ∷ [];
  values = 0 ∷ 1 ∷ 2 ∷ 3 ∷ 4 ∷ 5 ∷ 6 ∷ 7 ∷ 8 ∷ 9 ∷ 10 ∷ 11 ∷ [];
}

-- a code word by its value, size in bits and number
abbrev word : ℕ → ℕ → ℕ → CodeWord
word value size code = record { value = value; size = size; code = code }

-- 00, 010, 011, 100, 101, 110, 1110 and so on
abbrev pub words_k3 : List CodeWord
words_k3 =
    word 0 2 0 ∷ word 1 3 2 ∷ word 2 3 3 ∷ word 3 3 4 ∷ word 4 3 5 ∷ word 5 3 6 ∷ word 6 4 14
    ∷ word 7 5 30 ∷ word 8 6 62 ∷ word 9 7 126 ∷ word 10 8 254 ∷ word 11 9 510 ∷ []
