-- The code words of a table stand apart: what begins with one of them, among all words of sixteen bits, comes before what
-- begins with those after it.
use Rattle.std.proofs.Common.{◌≡◌, ℕ, ◌+◌, ◌-◌, ◌*◌, ◌^◌, ◌<◌, ◌≤◌, List, [], ◌∷◌, length, take, drop, sym, ap, ◌∙◌, arith, append-nil, subst}
use Rattle.std.specs.List.{AllByRecursion}
use Rattle.std.proofs.Math.Nat.{mul-le-mul_right}
use Rattle.std.proofs.lemmas.List.{length-take}
use Rattle.std.proofs.lemmas.Grind.{pow_more}
use Rattle.jpeg_marker.specs.HuffmanTables.{TableFields, IsTable}
use Rattle.huff_table.specs.CodeWords.{CodeWord, words_of}
use Rattle.huff_table.specs.Levels.{level, levels}
use Rattle.huff_table.proofs.WordSizes.{words_are_levels}
use Rattle.huff_table.proofs.Pairs.{Pairs, all-append, all_weaker, pairs-append}

-- where the words of sixteen bits begin that begin with a code word, and where they end
abbrev pub start_of : CodeWord → ℕ
start_of word = word.code * 2 ^ (16 - word.size)

abbrev pub end_of : CodeWord → ℕ
end_of word = (word.code + 1) * 2 ^ (16 - word.size)

abbrev pub Before : CodeWord → CodeWord → Type 0
Before word later = end_of word ≤ start_of later

-- the words of one size
level_from : (size first low : ℕ) (values : List ℕ) → low ≤ first → AllByRecursion (λ w. low * 2 ^ (16 - size) ≤ start_of w) (level size first values)
level_from size first low [] le = tt
level_from size first low (value ∷ values) le = (mul-le-mul_right (2 ^ (16 - size)) le, level_from size (first + 1) low values (omega arith))

level_to : (size first high : ℕ) (values : List ℕ) → first + length values ≤ high → AllByRecursion (λ w. end_of w ≤ high * 2 ^ (16 - size)) (level size first values)
level_to size first high [] le = tt
level_to size first high (value ∷ values) le = (mul-le-mul_right (2 ^ (16 - size)) (omega arith), level_to size (first + 1) high values (omega arith))

level_pairs : (size first : ℕ) (values : List ℕ) → Pairs Before (level size first values)
level_pairs size first [] = tt
level_pairs size first (value ∷ values) = (level_from size (first + 1) (first + 1) values (omega arith), level_pairs size (first + 1) values)

-- the first word of the next size
next_start : (size first : ℕ) → size < 16 → 2 * first * 2 ^ (16 - (size + 1)) ≡ first * 2 ^ (16 - size)
next_start size first h =
    let more : 16 - size ≡ 16 - (size + 1) + 1 = omega arith in
    let p = 2 ^ (16 - (size + 1)) in
    let e : 2 * first * p ≡ first * (p * 2) = omega arith in
    e ∙ ap (λ n. first * n) (sym (ap (λ n. 2 ^ n) more ∙ pow_more 2 (16 - (size + 1))))

-- the words of a size and of longer ones
levels_from : (size first low : ℕ) (counts values : List ℕ) → size + length counts ≡ 17 → low ≤ first → AllByRecursion (λ w. low * 2 ^ (16 - size) ≤ start_of w) (levels size first counts values)
levels_from size first low [] values h le = tt
levels_from size first low (count ∷ []) values h le = all-append _ _ [] (level_from size first low (take count values) le) tt
levels_from size first low (count ∷ next ∷ counts) values h le =
    let later = levels (size + 1) (2 * (first + count)) (next ∷ counts) (drop count values) in
    let same = next_start size low (omega arith) in
    all-append (λ w. low * 2 ^ (16 - size) ≤ start_of w) (level size first (take count values)) later (level_from size first low (take count values) le)
    (all_weaker (λ w. 2 * low * 2 ^ (16 - (size + 1)) ≤ start_of w) (λ w. low * 2 ^ (16 - size) ≤ start_of w) (λ w g. omega (arith, same, g)) later
    (levels_from (size + 1) (2 * (first + count)) (2 * low) (next ∷ counts) (drop count values) (omega arith) (omega arith)))

-- words that end where others begin
cross : (bound : ℕ) (xs ys : List CodeWord) → AllByRecursion (λ w. end_of w ≤ bound) xs → AllByRecursion (λ w. bound ≤ start_of w) ys → AllByRecursion (λ x. AllByRecursion (Before x) ys) xs
cross bound [] ys p q = tt
cross bound (x ∷ xs) ys p q = (all_weaker (λ w. bound ≤ start_of w) (Before x) (λ w g. omega (arith, p.0, g)) ys q, cross bound xs ys p.1 q)

levels_pairs : (size first : ℕ) (counts values : List ℕ) → size + length counts ≡ 17 → Pairs Before (levels size first counts values)
levels_pairs size first [] values h = tt
levels_pairs size first (count ∷ []) values h = subst (Pairs Before) (sym (append-nil (level size first (take count values)))) (level_pairs size first (take count values))
levels_pairs size first (count ∷ next ∷ counts) values h =
    let these = level size first (take count values) in
    let later = levels (size + 1) (2 * (first + count)) (next ∷ counts) (drop count values) in
    let bound = (first + count) * 2 ^ (16 - size) in
    let most : length (take count values) ≤ count = omega (arith, length-take count values) in
    let same = next_start size (first + count) (omega arith) in
    let from = levels_from (size + 1) (2 * (first + count)) (2 * (first + count)) (next ∷ counts) (drop count values) (omega arith) (omega arith) in
    pairs-append Before these later (level_pairs size first (take count values)) (levels_pairs (size + 1) (2 * (first + count)) (next ∷ counts) (drop count values) (omega arith))
    (cross bound these later (level_to size first (first + count) (take count values) (omega (arith, most)))
    (all_weaker (λ w. 2 * (first + count) * 2 ^ (16 - (size + 1)) ≤ start_of w) (λ w. bound ≤ start_of w) (λ w g. omega (arith, same, g)) later from))

-- those of a table
pub words_apart : (table : TableFields) → IsTable table → Pairs Before (words_of table)
words_apart table is = subst (Pairs Before) (sym (words_are_levels table is)) (levels_pairs 1 0 table.counts table.values (omega (arith, is.lengths)))
