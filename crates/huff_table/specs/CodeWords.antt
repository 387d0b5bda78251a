-- Statement: the code words of a Huffman table (ITU-T T.81, Annex C).
use Rattle.std.specs.Prelude.{ℕ, ◌+◌, ◌-◌, ◌^◌, Bool, ◌&&◌, List, [], ◌∷◌, ◌++◌, length, replicate, sum_by, Option, option_map, ◌==◌}
use Rattle.std.specs.List.{find}
use Rattle.bit_list.specs.Bits.{low_bits, number_of}
use Rattle.jpeg_marker.specs.HuffmanTables.{TableFields}

-- a value, how many bits its code word has, and the word as a number (HUFFVAL, HUFFSIZE and HUFFCODE of C.2)
pub record CodeWord : Type 0 where
  pub value : ℕ
  pub size : ℕ
  pub code : ℕ

-- how many bits each code word has, in turn, if the first count is of this size and each further one of the next (C.2)
abbrev pub sizes_from : ℕ → List ℕ → List ℕ
sizes_from size [] = []
sizes_from size (count ∷ counts) = replicate count size ++ sizes_from (size + 1) counts

-- How many words of a size begin with one of the code words of these sizes. The next code word is the first word after
-- them: one more than the last of its size, with zeros appended if it is longer (C.2).
abbrev pub taken : List ℕ → ℕ → ℕ
taken sizes size = sum_by (λ earlier. 2 ^ (size - earlier)) sizes

-- the code words of these sizes and values, after some earlier ones (C.2)
abbrev pub words_after : List ℕ → List ℕ → List ℕ → List CodeWord
words_after earlier [] values = []
words_after earlier (size ∷ sizes) [] = []
words_after earlier (size ∷ sizes) (value ∷ values) =
    record { value = value; size = size; code = taken earlier size }
    ∷ words_after (earlier ++ size ∷ []) sizes values

-- the code words of a table (C.2)
unfoldable pub words_of : TableFields → List CodeWord
words_of table = words_after [] (sizes_from 1 table.counts) table.values

-- its bits, the highest first (C.3)
abbrev pub bits_of : CodeWord → List Bool
bits_of word = low_bits word.size word.code

-- the code word of a value among these, if it has one
abbrev pub word_in : List CodeWord → ℕ → Option CodeWord
word_in words value = find (λ word. word.value == value) words

-- the bits of a value's code word, if it has one (C.3)
unfoldable pub word_of : TableFields → ℕ → Option (List Bool)
word_of table value = option_map bits_of (word_in (words_of table) value)

-- the value among these whose code word the bits are, if they are one
abbrev pub value_in : List CodeWord → List Bool → Option ℕ
value_in words bits =
    option_map (λ word. word.value)
    (find (λ word. word.size == length bits && word.code == number_of bits) words)

-- the same by a table
unfoldable pub value_of : TableFields → List Bool → Option ℕ
value_of table bits = value_in (words_of table) bits
