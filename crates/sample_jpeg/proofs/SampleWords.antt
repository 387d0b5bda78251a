-- Each symbol that a sample's blocks may need has a code word of its table's one size.
use Rattle.std.proofs.Common.{◌≡◌, ℕ, ◌+◌, ◌-◌, ◌*◌, ◌<◌, ◌≤◌, Bool, true, false, ◌&&◌, List, length, refl, sym, ap, ◌∙◌, arith}
use Rattle.std.specs.Prelude.{◌==◌, Ok, Option, Some, None, option_map}
use Rattle.std.proofs.lemmas.Bool.{and_parts, eqb-true, agree_below, agree_below_at}
use Rattle.bit_list.specs.NumbersOfBits.{length-low_bits}
use Rattle.jpeg_marker.specs.HuffmanTables.{TableFields}
use Rattle.huff_table.specs.CodeWords.{CodeWord, bits_of, word_in, words_of, word_of}
use Rattle.scan_spec.specs.BlockBits.{coded_word, word_text}
use Rattle.sample_jpeg.specs.SampleHeader.{dc_table, ac_table}

-- whether a word was found, and has so many bits
abbrev is_sized : ℕ → Option CodeWord → Bool
is_sized size None = false
is_sized size (Some word) = word.size == size

-- a word that was found is the text
found_word : (table : TableFields) (symbol size : ℕ) (found : Option CodeWord)
    → word_in (words_of table) symbol ≡ found → is_sized size found ≡ true
    → (word : List Bool) × (word_text table symbol ≡ Ok word) × (length word ≡ size)
unfolding word_text word_of
found_word table symbol size None e sized = cc
found_word table symbol size (Some word) e sized = (
  bits_of word,
  ap (λ found. coded_word (option_map bits_of found)) e,
  length-low_bits word.size word.code ∙ eqb-true word.size size sized,
)

-- it has that word
sized_word : (table : TableFields) (symbol size : ℕ) → is_sized size (word_in (words_of table) symbol) ≡ true
    → (word : List Bool) × (word_text table symbol ≡ Ok word) × (length word ≡ size)
sized_word table symbol size sized = found_word table symbol size (word_in (words_of table) symbol) refl sized

-- whether each category of a DC difference has a word of 4 bits
abbrev has_dc_words : List CodeWord → Bool
has_dc_words words = agree_below (λ symbol. is_sized 4 (word_in words symbol)) (λ _. true) 12

-- they all have
dc_words : has_dc_words (words_of dc_table) ≡ true
unfolding words_of
dc_words = refl

-- a category of a DC difference (Table F.1)
pub dc_word : (symbol : ℕ) → symbol < 12
    → (word : List Bool) × (word_text dc_table symbol ≡ Ok word) × (length word ≡ 4)
dc_word symbol small =
    sized_word dc_table symbol 4
    (agree_below_at (λ symbol. is_sized 4 (word_in (words_of dc_table) symbol)) (λ _. true) 12 symbol dc_words small)

-- whether each of ten symbols in a row has a word of 8 bits
abbrev has_sizes : List CodeWord → ℕ → Bool
has_sizes words run = agree_below (λ less. is_sized 8 (word_in words (16 * run + (less + 1)))) (λ _. true) 10

-- whether each symbol of an AC coefficient has one, and the two others
abbrev has_ac_words : List CodeWord → Bool
has_ac_words words =
    is_sized 8 (word_in words 0x00)
    && (is_sized 8 (word_in words 0xf0) && agree_below (has_sizes words) (λ _. true) 16)

-- they all have
ac_words : has_ac_words (words_of ac_table) ≡ true
unfolding words_of
ac_words = refl

-- each part of the test
record AcWords (words : List CodeWord) : Type 0 where
  pub end : is_sized 8 (word_in words 0x00) ≡ true
  pub zeros : is_sized 8 (word_in words 0xf0) ≡ true
  pub runs : agree_below (has_sizes words) (λ _. true) 16 ≡ true

-- the test has these parts
ac_parts : (words : List CodeWord) → has_ac_words words ≡ true → AcWords words
ac_parts words all =
    let first = and_parts _ _ all in
    let second = and_parts _ _ first.1 in
    record { end = first.0; zeros = second.0; runs = second.1 }

-- a run and a size from 1 to 10
ac_sized : (words : List CodeWord) (run size : ℕ) → AcWords words → run < 16 → 1 ≤ size → size ≤ 10
    → is_sized 8 (word_in words (16 * run + size)) ≡ true
ac_sized words run size all few some most =
    let row = agree_below_at (has_sizes words) (λ _. true) 16 run all.runs few in
    let less : size - 1 < 10 = omega arith in
    let here = agree_below_at (λ less. is_sized 8 (word_in words (16 * run + (less + 1)))) (λ _. true)
    10 (size - 1) row less in
    let back : size - 1 + 1 ≡ size = omega arith in
    ap (λ n. is_sized 8 (word_in words (16 * run + n))) (sym back) ∙ here

-- a run of zeros and a category of the AC coefficient after it (F.1.2.2.1)
pub ac_word : (run size : ℕ) → run < 16 → 1 ≤ size → size ≤ 10
    → (word : List Bool) × (word_text ac_table (16 * run + size) ≡ Ok word) × (length word ≡ 8)
ac_word run size few some most =
    sized_word ac_table (16 * run + size) 8
    (ac_sized (words_of ac_table) run size (ac_parts (words_of ac_table) ac_words) few some most)

-- the end of a block (F.1.2.2.1)
pub end_word : (word : List Bool) × (word_text ac_table 0x00 ≡ Ok word) × (length word ≡ 8)
end_word = sized_word ac_table 0x00 8 (ac_parts (words_of ac_table) ac_words).end

-- sixteen zeros (F.1.2.2.1)
pub zeros_word : (word : List Bool) × (word_text ac_table 0xf0 ≡ Ok word) × (length word ≡ 8)
zeros_word = sized_word ac_table 0xf0 8 (ac_parts (words_of ac_table) ac_words).zeros
