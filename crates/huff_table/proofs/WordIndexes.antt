-- Code words by value: each stands at the place of its value, and no other one does.
use Rattle.std.proofs.Common.{◌≡◌, ℕ, ◌+◌, ◌*◌, ◌<◌, Bool, true, false, eqb, cond, List, [], ◌∷◌, ◌++◌, length, map, take, drop, set, get_or, sum, Option, Some, None, refl, ap, ap₂, ◌∙◌, subst, arith}
use Rattle.std.specs.List.{AllByRecursion, IsDistinct}
use Rattle.std.proofs.lemmas.Bool.{eqb-true}
use Rattle.std.proofs.lemmas.Bool.Decides.{nat_tests}
use Rattle.std.proofs.lemmas.Grind.{common_steps}
use Rattle.std.proofs.lemmas.List.{length-set, length-drop, take-append-drop}
use Rattle.std.proofs.lemmas.Map.Keys.{IsDistinct-head, IsDistinct-tail}
use Rattle.jpeg_marker.specs.HuffmanTables.{TableFields, IsTable}
use Rattle.huff_table.specs.CodeWords.{CodeWord, word_in, words_of}
use Rattle.huff_table.specs.Levels.{level, levels}
use Rattle.huff_table.specs.CodesInside.{placed}
use Rattle.huff_table.specs.declared.word.Word.{Word}
use Rattle.huff_table.proofs.WordSizes.{words_are_levels, sum_first}

-- the values that words stand for
abbrev pub values_in : List CodeWord → List ℕ
values_in words = map (λ word. word.value) words

values-level : (size code : ℕ) (values : List ℕ) → values_in (level size code values) ≡ values
values-level size code [] = refl
values-level size code (value ∷ values) = ap (λ vs. value ∷ vs) (values-level size (code + 1) values)

values-append : (a b : List CodeWord) → values_in (a ++ b) ≡ values_in a ++ values_in b
values-append [] b = refl
values-append (word ∷ a) b = ap (λ vs. word.value ∷ vs) (values-append a b)

nothing_left : (values : List ℕ) → length values ≡ 0 → [] ≡ values
nothing_left [] h = refl
nothing_left (v ∷ vs) h = absurd (omega arith)

values-levels : (size first : ℕ) (counts values : List ℕ) → length values ≡ sum counts → values_in (levels size first counts values) ≡ values
values-levels size first [] values h = nothing_left values h
values-levels size first (count ∷ counts) values h =
    let rest : length (drop count values) ≡ sum counts = omega (arith, length-drop count values, sum_first count counts, h) in
    values-append (level size first (take count values)) _
    ∙ ap₂ (λ a b. a ++ b) (values-level size first (take count values)) (values-levels (size + 1) (2 * (first + count)) counts (drop count values) rest)
    ∙ take-append-drop count values

-- the words of a table stand for its values
pub values_are : (table : TableFields) → IsTable table → values_in (words_of table) ≡ table.values
values_are table is = ap values_in (words_are_levels table is) ∙ values-levels 1 0 table.counts table.values is.whole

-- a word as it is kept
abbrev pub kept : CodeWord → Word
kept word = record { code = word.code; size = word.size }

abbrev pub kept_or : Word → Option CodeWord → Word
kept_or old None = old
kept_or old (Some word) = kept word

placed_elsewhere : (words : List Word) (more : List CodeWord) (value : ℕ) (d : Word) → AllByRecursion (λ v. eqb value v ≡ false) (values_in more)
    → get_or (placed words more) value d ≡ get_or words value d
placed_elsewhere words [] value d none = refl
placed_elsewhere words (word ∷ more) value d none =
    placed_elsewhere (set words word.value (kept word)) more value d none.1 ∙ grind (arith, common_steps, nat_tests, none.0)

pub placed_at : (words : List Word) (more : List CodeWord) (value : ℕ) (d : Word) → value < length words → IsDistinct eqb (values_in more)
    → get_or (placed words more) value d ≡ kept_or (get_or words value d) (word_in more value)
placed_at words [] value d below once = refl
placed_at words (word ∷ more) value d below once =
    let P : Bool → Type 0 = λ test. eqb word.value value ≡ test → get_or (placed (set words word.value (kept word)) more) value d
    ≡ kept_or (get_or words value d) (cond test (Some word) (word_in more value)) in
    (elim (eqb word.value value) as P [
      | true ↦ λ e.
          let same = eqb-true word.value value e in
          let none = subst (λ (v : ℕ). AllByRecursion (λ w. eqb v w ≡ false) (values_in more)) same (IsDistinct-head eqb word.value (values_in more) once) in
          placed_elsewhere (set words word.value (kept word)) more value d none ∙ grind (arith, common_steps)
      | false ↦ λ e.
          placed_at (set words word.value (kept word)) more value d (omega (arith, length-set words word.value (kept word))) (IsDistinct-tail eqb word.value (values_in more) once)
          ∙ ap (λ old. kept_or old (word_in more value)) (grind (arith, common_steps, nat_tests, e))
    ]) refl
