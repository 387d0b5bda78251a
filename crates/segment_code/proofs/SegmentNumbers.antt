-- Lists with an entry for each segment.
use Rattle.std.proofs.Common.{◌≡◌, ℕ, zero, suc, ◌+◌, ◌<◌, List, [], ◌∷◌, ◌++◌, length, map, get_or, refl, ap, ap₂, ◌∙◌, sym, arith}
use Rattle.std.proofs.lemmas.List.{map-append}
use Rattle.std.specs.List.{range_with_len}

-- a number more
numbers_more : (count from : ℕ) → range_with_len from (count + 1)
    ≡ range_with_len from count ++ (from + count) ∷ []
numbers_more zero from = let sum : from + 0 ≡ from = omega arith in ap (λ (n : ℕ). n ∷ []) (sym sum)
numbers_more (suc count) from =
    let sum : from + 1 + count ≡ from + suc count = omega arith in
    let next : suc count + 1 ≡ suc (count + 1) = omega arith in
    ap (range_with_len from) next ∙ ap (λ (ns : List ℕ). from ∷ ns) (numbers_more count (from + 1))
    ∙ ap (λ (n : ℕ). from ∷ (range_with_len (from + 1) count ++ n ∷ [])) sum

pub map_more : {A : Type 0} (f : ℕ → A) (count : ℕ) (last : A) → last ≡ f count
    → map f (range_with_len 0 (count + 1)) ≡ map f (range_with_len 0 count) ++ last ∷ []
map_more {A = A} f count last is =
    let sum : 0 + count ≡ count = omega arith in
    ap (map f) (numbers_more count 0) ∙ map-append f (range_with_len 0 count) ((0 + count) ∷ [])
    ∙ ap (λ (x : A). map f (range_with_len 0 count) ++ x ∷ []) (ap f sum ∙ sym is)

-- entries that are equal each
alike_from : {A : Type 0} (f g : ℕ → A) (count from : ℕ) → ((i : ℕ) → i < from + count → f i ≡ g i)
    → map f (range_with_len from count) ≡ map g (range_with_len from count)
alike_from f g zero from each = refl
alike_from {A = A} f g (suc count) from each =
    ap₂ (λ (x : A) (xs : List A). x ∷ xs) (each from (omega arith))
    (alike_from f g count (from + 1) (λ i under. each i (omega (arith, under))))

pub map_alike : {A : Type 0} (f g : ℕ → A) (count : ℕ) → ((i : ℕ) → i < count → f i ≡ g i)
    → map f (range_with_len 0 count) ≡ map g (range_with_len 0 count)
map_alike f g count each = alike_from f g count 0 (λ i under. each i (omega (arith, under)))

-- and the entry of one
entry_from : {A : Type 0} (f : ℕ → A) (other : A) (count from i : ℕ) → i < count
    → get_or (map f (range_with_len from count)) i other ≡ f (from + i)
entry_from f other zero from i under = absurd (omega (arith, under))
entry_from f other (suc count) from zero under = let sum : from ≡ from + 0 = omega arith in ap f sum
entry_from f other (suc count) from (suc i) under =
    let sum : from + 1 + i ≡ from + suc i = omega arith in
    entry_from f other count (from + 1) i (omega (arith, under)) ∙ ap f sum

pub entry : {A : Type 0} (f : ℕ → A) (other : A) (count i : ℕ) → i < count
    → get_or (map f (range_with_len 0 count)) i other ≡ f i
entry f other count i under = let sum : 0 + i ≡ i = omega arith in
    entry_from f other count 0 i under ∙ ap f sum

-- as many
pub length_numbers : {A : Type 0} (f : ℕ → A) (count from : ℕ)
    → length (map f (range_with_len from count)) ≡ count
length_numbers f zero from = refl
length_numbers f (suc count) from = let rest = length_numbers f count (from + 1) in
    omega (arith, rest)
