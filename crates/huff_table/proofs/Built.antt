-- Filling the table of words by value, size by size.
use Rattle.std.proofs.Common.{◌≡◌, ℕ, ◌+◌, ◌*◌, ◌≤◌, List, [], ◌∷◌, ◌++◌, length, take, drop, replicate, sym, ap, ap₂, ◌∙◌, subst, arith}
use Rattle.std.specs.Prelude.{slice_set}
use Rattle.std.proofs.lemmas.List.{length-take}
use Rattle.std.proofs.lemmas.List.Sums.{fold-append}
use Rattle.jpeg_marker.specs.HuffmanTables.{TableFields, IsTable}
use Rattle.huff_table.specs.CodeWords.{CodeWord}
use Rattle.huff_table.specs.Levels.{level, levels}
use Rattle.huff_table.specs.CodesInside.{placed, by_value, no_word}
use Rattle.huff_table.specs.declared.word.Word.{Word}
use Rattle.huff_table.proofs.WordSizes.{words_are_levels}
use Rattle.huff_table.proofs.Fits.{HasRoom, room_of_size, room_next, small_power}
use Rattle.huff_table.proofs.Decoded.{Turn, counts_left}

-- what is left to place, and room for it
pub record Builds (words start : List Word) (size first : ℕ) (counts values : List ℕ) (all : List CodeWord) : Type 0 where
  pub room : HasRoom size first counts
  pub rest : placed words (levels size first counts values) ≡ placed start all

placed-append : (words : List Word) (a b : List CodeWord) → placed words (a ++ b) ≡ placed (placed words a) b
placed-append words a b = fold-append (λ (all : List Word) (word : CodeWord). slice_set all word.value (record { code = word.code; size = word.size })) words a b

turn_builds : {words start : List Word} {size index first count : ℕ} {counts values these longer : List ℕ} {all : List CodeWord}
    → Turn index count counts values these longer → Builds words start size first (drop index counts) values all → Builds words start size first (count ∷ drop (index + 1) counts) values all
turn_builds {words} {start} {size} {index} {first} {count} {counts} {values} {these} {longer} {all} turn at =
    subst (λ (l : List ℕ). Builds words start size first l values all) (counts_left index count counts values these longer turn) at

-- the words of a size stand below 2 ^ 16
pub these_fit : {words start : List Word} {index first count : ℕ} {counts values these longer : List ℕ} {all : List CodeWord}
    → Turn index count counts values these longer → Builds words start (index + 1) first (drop index counts) values all → first + length these ≤ 65536
these_fit {words} {start} {index} {first} {count} {counts} {values} {these} {longer} {all} turn at =
    let now = turn_builds turn at in
    let most : length these ≤ count = omega (arith, ap length turn.prefix, length-take count values) in
    let power = small_power (index + 1) (omega (arith, now.room.sizes)) in
    omega (arith, most, power, room_of_size (index + 1) first count (drop (index + 1) counts) now.room)

-- one size more
pub builds_more : {words start : List Word} {index first count : ℕ} {counts values these longer : List ℕ} {all : List CodeWord} (size : ℕ) → size ≡ index + 1
    → Turn index count counts values these longer → Builds words start (index + 1) first (drop index counts) values all
    → Builds (placed words (level size first these)) start (index + 1 + 1) (2 * (first + count)) (drop (index + 1) counts) longer all
builds_more {words} {start} {index} {first} {count} {counts} {values} {these} {longer} {all} size is turn at =
    let now = turn_builds turn at in
    let rest = drop (index + 1) counts in
    record {
      room = room_next (index + 1) first count rest now.room;
      rest = ap₂ (λ a b. placed (placed words (level size first a)) (levels (index + 1 + 1) (2 * (first + count)) rest b)) turn.prefix turn.back
          ∙ ap (λ n. placed (placed words (level n first (take count values))) (levels (index + 1 + 1) (2 * (first + count)) rest (drop count values))) is
          ∙ sym (placed-append words (level (index + 1) first (take count values)) (levels (index + 1 + 1) (2 * (first + count)) rest (drop count values)))
          ∙ now.rest;
    }

-- all of them
pub all_built : {words start : List Word} {size first : ℕ} {values : List ℕ} {all : List CodeWord} → Builds words start size first [] values all → words ≡ placed start all
all_built at = at.rest

pub built : (table : TableFields) → IsTable table → placed (replicate 256 no_word) (levels 1 0 table.counts table.values) ≡ by_value table
unfolding by_value
built table is = ap (placed (replicate 256 no_word)) (sym (words_are_levels table is))
