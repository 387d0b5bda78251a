-- Values that stand once, from the first on.
use Rattle.std.proofs.Common.{◌≡◌, ℕ, ◌+◌, ◌<◌, ◌≤◌, Bool, true, false, not, ◌&&◌, ◌||◌, List, [], ◌∷◌, ◌++◌, length, get_or, take, drop, set, replicate, arith, refl, eqb, IsTrue, ap, sym, ◌∙◌, drop-cons, suc}
use Rattle.std.specs.List.{list_any, IsDistinct, AllByRecursion}
use Rattle.std.proofs.lemmas.Map.Keys.{IsDistinct-cons, IsDistinct-from_apart}
use Rattle.std.proofs.lemmas.Bool.{false≢true}
use Rattle.std.proofs.lemmas.List.{take_more, take-append-drop}
use Rattle.std.proofs.lemmas.List.Folds.{list_any-append, list_any_more}
use Rattle.std.proofs.lemmas.Map.Steps.{length-le_from_distinct_below}
use Rattle.std.proofs.lemmas.Bool.Decides.{nat_tests}
use Rattle.std.proofs.lemmas.Grind.{common_steps}
use Rattle.jpeg_marker.specs.HuffmanTables.{distinct}

pub distinct-push : (xs : List ℕ) (y : ℕ) → distinct xs ≡ true → list_any (eqb y) xs ≡ false → distinct (xs ++ y ∷ []) ≡ true
distinct-push [] y d f = refl
distinct-push (x ∷ xs) y d f = grind (arith, nat_tests, list_any-append, distinct-push xs y)

pub distinct-again : (xs : List ℕ) (y : ℕ) (ys : List ℕ) → list_any (eqb y) xs ≡ true → distinct (xs ++ y ∷ ys) ≡ false
distinct-again [] y ys f = cc
distinct-again (x ∷ xs) y ys f = grind (arith, nat_tests, list_any-append, distinct-again xs y ys)

pub both_hold : (a b : Bool) → a && b ≡ true → (a ≡ true) × (b ≡ true)
both_hold true b h = (refl, h)
both_hold false b h = absurd (false≢true h)

pub not_holds : (a : Bool) → not a ≡ true → a ≡ false
not_holds true h = absurd (false≢true h)
not_holds false h = refl

pub neither : (a b : Bool) → a || b ≡ false → (a ≡ false) × (b ≡ false)
neither true b h = cc
neither false b h = (refl, h)

none_equal : (x : ℕ) (xs : List ℕ) → list_any (eqb x) xs ≡ false → AllByRecursion (λ y. eqb x y ≡ false) xs
none_equal x [] h = tt
none_equal x (y ∷ ys) h = let parts = neither (eqb x y) (list_any (eqb x) ys) h in (parts.0, none_equal x ys parts.1)

member_below : (q : ℕ) (xs : List ℕ) → ((i : ℕ) → get_or xs i 0 < 256) → list_any (eqb q) xs ≡ true → q < 256
member_below q [] bytes h = absurd (false≢true h)
member_below q (x ∷ xs) bytes h =
    let rest = member_below q xs (λ i. bytes (suc i)) in
    let first = bytes 0 in
    grind (arith, nat_tests)

pub IsDistinct-from_distinct : (xs : List ℕ) → distinct xs ≡ true → IsDistinct eqb xs
IsDistinct-from_distinct [] d = IsDistinct-from_apart eqb [] (λ i j e before below. absurd (omega arith))
IsDistinct-from_distinct (x ∷ xs) d =
    let parts = both_hold (not (list_any (eqb x) xs)) (distinct xs) d in
    IsDistinct-cons eqb x xs (none_equal x xs (not_holds (list_any (eqb x) xs) parts.0)) (IsDistinct-from_distinct xs parts.1)

-- at most as many as there are bytes
pub few_distinct : (xs : List ℕ) → ((i : ℕ) → get_or xs i 0 < 256) → IsTrue (distinct xs) → length xs ≤ 256
few_distinct xs bytes d = length-le_from_distinct_below xs 256 (IsDistinct-from_distinct xs d) (λ q member. member_below q xs bytes member)

-- a step of the loop over values, where those that came are marked
pub marked_more : (xs : List ℕ) (seen : List Bool) (i x : ℕ) → length seen ≡ 256 → i < length xs → x ≡ get_or xs i 0 → x < 256 → ((v : ℕ) → v < 256 → get_or seen v false ≡ list_any (eqb v) (take i xs)) → (v : ℕ) → v < 256 → get_or (set seen x true) v false ≡ list_any (eqb v) (take (i + 1) xs)
marked_more xs seen i x size below is byte marked v small = grind (arith, common_steps, nat_tests, list_any_more (eqb v) xs i 0 below, marked v small)

pub once_more : (xs : List ℕ) (seen : List Bool) (i x : ℕ) → i < length xs → x ≡ get_or xs i 0 → x < 256 → ((v : ℕ) → v < 256 → get_or seen v false ≡ list_any (eqb v) (take i xs)) → get_or seen x false ≡ false → distinct (take i xs) ≡ true → distinct (take (i + 1) xs) ≡ true
once_more xs seen i x below is byte marked new once =
    let none : list_any (eqb x) (take i xs) ≡ false = sym (marked x byte) ∙ new in
    rw (take_more xs i 0 below, ← is) (distinct-push (take i xs) x once none)

pub found_again : (xs : List ℕ) (seen : List Bool) (i x : ℕ) → i < length xs → x ≡ get_or xs i 0 → x < 256 → ((v : ℕ) → v < 256 → get_or seen v false ≡ list_any (eqb v) (take i xs)) → get_or seen x false ≡ true → distinct xs ≡ false
found_again xs seen i x below is byte marked old =
    let some : list_any (eqb x) (take i xs) ≡ true = sym (marked x byte) ∙ old in
    let rest = drop-cons xs i 0 below in
    let parts : take i xs ++ x ∷ drop (suc i) xs ≡ xs = rw (is, ← rest) (take-append-drop i xs) in
    ap distinct (sym parts) ∙ distinct-again (take i xs) x (drop (suc i) xs) some

pub get_or-falses : (n v : ℕ) → get_or (replicate n false) v false ≡ false
get_or-falses n v = grind (arith, common_steps)
