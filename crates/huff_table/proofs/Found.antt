-- The value of bits among code words: only words of as many bits are looked at, and they are numbered in turn.
use Rattle.std.proofs.Common.{◌≡◌, ◌≢◌, ℕ, ◌+◌, ◌-◌, ◌*◌, ◌<◌, Bool, true, false, eqb, leb, cond, ◌&&◌, List, [], ◌∷◌, ◌++◌, length, take, drop, Option, Some, None, refl, sym, ap, ◌∙◌, arith}
use Rattle.std.specs.Prelude.{option_map, slice_get}
use Rattle.std.specs.Option.{option_or}
use Rattle.std.specs.List.{find}
use Rattle.std.proofs.lemmas.Bool.{eqb-true, false_from_ne_true}
use Rattle.std.proofs.lemmas.Bool.Decides.{nat_tests}
use Rattle.bit_list.specs.Bits.{number_of}
use Rattle.jpeg_marker.specs.HuffmanTables.{TableFields, IsTable}
use Rattle.huff_table.specs.CodeWords.{CodeWord, value_in, value_of}
use Rattle.huff_table.specs.Levels.{level, levels, value_among}
use Rattle.huff_table.proofs.WordSizes.{words_are_levels}

-- whether a word is the one of so many bits with this number
abbrev pub is_word : ℕ → ℕ → CodeWord → Bool
is_word size code word = eqb word.size size && eqb word.code code

-- the value of a word by its size and its number
abbrev pub value_by : ℕ → ℕ → List CodeWord → Option ℕ
value_by size code words = option_map (λ word. word.value) (find (is_word size code) words)

-- the value of a first word, or of one after
abbrev first_or : Bool → ℕ → Option ℕ → Option ℕ
first_or test value later = cond test (Some value) later

value_by-cons : (size code : ℕ) (word : CodeWord) (words : List CodeWord) → value_by size code (word ∷ words) ≡ first_or (is_word size code word) word.value (value_by size code words)
value_by-cons size code word words =
    let P : Bool → Type 0 = λ test. option_map (λ (w : CodeWord). w.value) (cond test (Some word) (find (is_word size code) words)) ≡ first_or test word.value (value_by size code words) in
    elim (is_word size code word) as P [ true ↦ refl | false ↦ refl ]

or_assoc : (test : Bool) (value : ℕ) (a b : Option ℕ) → first_or test value (option_or a b) ≡ option_or (first_or test value a) b
or_assoc true value a b = refl
or_assoc false value a b = refl

value_by-append : (size code : ℕ) (xs ys : List CodeWord) → value_by size code (xs ++ ys) ≡ option_or (value_by size code xs) (value_by size code ys)
value_by-append size code [] ys = refl
value_by-append size code (x ∷ xs) ys =
    value_by-cons size code x (xs ++ ys) ∙ ap (first_or (is_word size code x) x.value) (value_by-append size code xs ys)
    ∙ or_assoc (is_word size code x) x.value (value_by size code xs) (value_by size code ys)
    ∙ ap (λ v. option_or v (value_by size code ys)) (sym (value_by-cons size code x xs))

pub eqb_same : (n : ℕ) → eqb n n ≡ true
eqb_same n = grind (arith, nat_tests)

ne_false : (a b : ℕ) → eqb a b ≡ false → a ≢ b
ne_false a b e = grind (arith, nat_tests)

-- words of another size aren't it
eqb_other : (a b : ℕ) → a ≢ b → eqb a b ≡ false
eqb_other a b other = false_from_ne_true _ (λ e. other (eqb-true a b e))

level_other : (size other code first : ℕ) (values : List ℕ) → other ≢ size → value_by size code (level other first values) ≡ None
level_other size other code first [] ne = refl
level_other size other code first (value ∷ values) ne =
    value_by-cons size code (record { value = value; size = other; code = first }) (level other (first + 1) values)
    ∙ ap (λ test. first_or (test && eqb first code) value (value_by size code (level other (first + 1) values))) (eqb_other other size ne)
    ∙ level_other size other code (first + 1) values ne

levels_longer : (size other code first : ℕ) (counts values : List ℕ) → size < other → value_by size code (levels other first counts values) ≡ None
levels_longer size other code first [] values h = refl
levels_longer size other code first (count ∷ counts) values h =
    value_by-append size code (level other first (take count values)) (levels (other + 1) (2 * (first + count)) counts (drop count values))
    ∙ ap (λ v. option_or v (value_by size code (levels (other + 1) (2 * (first + count)) counts (drop count values)))) (level_other size other code first (take count values) (omega arith))
    ∙ levels_longer size (other + 1) code (2 * (first + count)) counts (drop count values) (omega arith)

-- the words of its own size
among_none : (first code : ℕ) → value_among [] first code ≡ None
among_none first code =
    let P : Bool → Type 0 = λ test. cond test (slice_get {X = ℕ} [] (code - first)) None ≡ None in
    elim (leb first code) as P [ true ↦ refl | false ↦ refl ]

among_first : (value code : ℕ) (values : List ℕ) → value_among (value ∷ values) code code ≡ Some value
among_first value code values = grind arith

among_more : (value first code : ℕ) (values : List ℕ) → first ≢ code → value_among values (first + 1) code ≡ value_among (value ∷ values) first code
among_more value first code values ne = grind arith

level_found : (size code first : ℕ) (values : List ℕ) → value_by size code (level size first values) ≡ value_among values first code
level_found size code first [] = sym (among_none first code)
level_found size code first (value ∷ values) =
    let word : CodeWord = record { value = value; size = size; code = first } in
    let later = value_by size code (level size (first + 1) values) in
    let same = value_by-cons size code word (level size (first + 1) values) ∙ ap (λ test. first_or (test && eqb first code) value later) (eqb_same size) in
    let P : Bool → Type 0 = λ test. eqb first code ≡ test → first_or test value later ≡ value_among (value ∷ values) first code in
    same
    ∙ (elim (eqb first code) as P [
      | true ↦ λ e. let is = eqb-true first code e in sym (rw is (among_first value code values))
      | false ↦ λ e. level_found size code (first + 1) values ∙ among_more value first code values (ne_false first code e)
    ]) refl

or_none : (v : Option ℕ) → option_or v None ≡ v
or_none None = refl
or_none (Some x) = refl

-- the words of this size are those of the first level
pub found_now : (size code first count : ℕ) (counts values : List ℕ) → value_by size code (levels size first (count ∷ counts) values) ≡ value_among (take count values) first code
found_now size code first count counts values =
    let longer = levels (size + 1) (2 * (first + count)) counts (drop count values) in
    value_by-append size code (level size first (take count values)) longer
    ∙ ap (option_or (value_by size code (level size first (take count values)))) (levels_longer size (size + 1) code (2 * (first + count)) counts (drop count values) (omega arith))
    ∙ or_none (value_by size code (level size first (take count values))) ∙ level_found size code first (take count values)

-- and those of longer ones stand after it
pub found_later : (size other code first count : ℕ) (counts values : List ℕ) → other < size
    → value_by size code (levels other first (count ∷ counts) values) ≡ value_by size code (levels (other + 1) (2 * (first + count)) counts (drop count values))
found_later size other code first count counts values h =
    value_by-append size code (level other first (take count values)) (levels (other + 1) (2 * (first + count)) counts (drop count values))
    ∙ ap (λ v. option_or v (value_by size code (levels (other + 1) (2 * (first + count)) counts (drop count values)))) (level_other size other code first (take count values) (omega arith))

-- a table's
pub found_in_table : (table : TableFields) → IsTable table → (bits : List Bool) → value_of table bits ≡ value_by (length bits) (number_of bits) (levels 1 0 table.counts table.values)
unfolding value_of
found_in_table table is bits = ap (λ words. value_in words bits) (words_are_levels table is)
