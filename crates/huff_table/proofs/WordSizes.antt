-- The code words of a table are those of each size in turn, the first of a size being twice the one after the last of
-- the size before.
use Rattle.std.proofs.Common.{◌≡◌, ℕ, zero, suc, ◌+◌, ◌-◌, ◌*◌, ◌^◌, ◌≤◌, List, [], ◌∷◌, ◌++◌, length, take, drop, replicate, sum, refl, sym, ap, ap₂, ◌∙◌, append_assoc, append-nil, arith}
use Rattle.std.proofs.lemmas.List.{length-drop}
use Rattle.std.proofs.lemmas.List.Sums.{sum_by-append, sum_by-cons, sum_by_push}
use Rattle.std.proofs.lemmas.List.Folds.{sum_by-replicate}
use Rattle.std.proofs.lemmas.Grind.{pow_more}
use Rattle.jpeg_marker.specs.HuffmanTables.{TableFields, IsTable}
use Rattle.huff_table.specs.CodeWords.{CodeWord, sizes_from, taken, words_after, words_of}
use Rattle.huff_table.specs.Levels.{level, levels}

-- none of these is longer
abbrev AreUpTo : ℕ → List ℕ → Type 0
AreUpTo size [] = Prim.Unit {0}
AreUpTo size (e ∷ es) = (e ≤ size) × AreUpTo size es

up_to-replicate : (size count : ℕ) → AreUpTo (size + 1) (replicate count size)
up_to-replicate size zero = tt
up_to-replicate size (suc count) = (omega arith, up_to-replicate size count)

up_to_more : (size count : ℕ) (earlier : List ℕ) → AreUpTo size earlier → AreUpTo (size + 1) (earlier ++ replicate count size)
up_to_more size count [] all = up_to-replicate size count
up_to_more size count (e ∷ es) all = (omega (arith, all.0), up_to_more size count es all.1)

same_size : (size : ℕ) → 2 ^ (size - size) ≡ 1
same_size size = let e : size - size ≡ 0 = omega arith in ap (λ n. 2 ^ n) e

taken_push : (earlier : List ℕ) (size : ℕ) → taken (earlier ++ size ∷ []) size ≡ taken earlier size + 1
taken_push earlier size = sum_by_push (λ (e : ℕ). 2 ^ (size - e)) earlier size ∙ ap (λ n. taken earlier size + n) (same_size size)

taken_level : (earlier : List ℕ) (count size : ℕ) → taken (earlier ++ replicate count size) size ≡ taken earlier size + count
taken_level earlier count size =
    sum_by-append (λ (e : ℕ). 2 ^ (size - e)) earlier (replicate count size)
    ∙ ap (λ n. taken earlier size + n) (sum_by-replicate (λ (e : ℕ). 2 ^ (size - e)) count size ∙ ap (λ n. count * n) (same_size size) ∙ omega arith)

twice : (size e : ℕ) → e ≤ size → 2 ^ (size + 1 - e) ≡ 2 * 2 ^ (size - e)
twice size e le =
    let more : size + 1 - e ≡ size - e + 1 = omega arith in
    ap (λ n. 2 ^ n) more ∙ pow_more 2 (size - e) ∙ omega arith

taken_longer : (earlier : List ℕ) (size : ℕ) → AreUpTo size earlier → taken earlier (size + 1) ≡ 2 * taken earlier size
taken_longer [] size all = refl
taken_longer (e ∷ es) size all =
    let rest = taken_longer es size all.1 in
    let first = twice size e all.0 in
    sum_by-cons (λ (e : ℕ). 2 ^ (size + 1 - e)) e es ∙ (let whole = sum_by-cons (λ (e : ℕ). 2 ^ (size - e)) e es in omega (arith, rest, first, whole))

up_to-level : (size count : ℕ) (earlier : List ℕ) → AreUpTo size earlier → AreUpTo size (earlier ++ replicate count size)
up_to-level size zero [] all = tt
up_to-level size (suc count) [] all = (omega arith, up_to-level size count [] all)
up_to-level size count (e ∷ es) all = (all.0, up_to-level size count es all.1)

taken_next : (earlier : List ℕ) (count size : ℕ) → AreUpTo size earlier → taken (earlier ++ replicate count size) (size + 1) ≡ 2 * (taken earlier size + count)
taken_next earlier count size all =
    taken_longer (earlier ++ replicate count size) size (up_to-level size count earlier all) ∙ ap (λ n. 2 * n) (taken_level earlier count size)

-- the words of one size, and those after them
words-level : (count : ℕ) (earlier sizes values : List ℕ) (size : ℕ) → count ≤ length values
    → words_after earlier (replicate count size ++ sizes) values
    ≡ level size (taken earlier size) (take count values) ++ words_after (earlier ++ replicate count size) sizes (drop count values)
words-level zero earlier sizes values size h = ap (λ e. words_after e sizes values) (sym (append-nil earlier))
words-level (suc count) earlier sizes [] size h = absurd (omega arith)
words-level (suc count) earlier sizes (value ∷ values) size h =
    let first : CodeWord = record { value = value; size = size; code = taken earlier size } in
    ap (λ words. first ∷ words)
    (words-level count (earlier ++ size ∷ []) sizes values size (omega arith)
    ∙ ap₂ (λ n e. level size n (take count values) ++ words_after e sizes (drop count values)) (taken_push earlier size) (append_assoc earlier (size ∷ []) (replicate count size)))

pub sum_first : (count : ℕ) (counts : List ℕ) → sum (count ∷ counts) ≡ count + sum counts
sum_first count counts = sum_by-cons (λ (x : ℕ). x) count counts

words-levels : (counts earlier values : List ℕ) (size : ℕ) → AreUpTo size earlier → sum counts ≤ length values
    → words_after earlier (sizes_from size counts) values ≡ levels size (taken earlier size) counts values
words-levels [] earlier values size all h = refl
words-levels (count ∷ counts) earlier values size all h =
    let whole = sum_first count counts in
    let few : count ≤ length values = omega arith in
    let rest : sum counts ≤ length (drop count values) = omega (arith, length-drop count values) in
    words-level count earlier (sizes_from (size + 1) counts) values size few
    ∙ ap (λ words. level size (taken earlier size) (take count values) ++ words)
    (words-levels counts (earlier ++ replicate count size) (drop count values) (size + 1) (up_to_more size count earlier all) rest
    ∙ ap (λ n. levels (size + 1) n counts (drop count values)) (taken_next earlier count size all))

-- so it is with a table's
pub words_are_levels : (table : TableFields) → IsTable table → words_of table ≡ levels 1 0 table.counts table.values
unfolding words_of
words_are_levels table is = words-levels table.counts [] table.values 1 tt (omega (arith, is.whole))
