-- A test that computes, for lists of numbers that are each other in another order.
use Rattle.std.proofs.Common.{◌≡◌, ℕ, Bool, true, false, ◌&&◌, ◌==◌, nat_lt, List, [], ◌∷◌, length, slice_index, slice_index_or, sym, ◌∙◌}
use Rattle.std.specs.List.{position_or_len, remove}
use Rattle.std.specs.List.Sorted.{IsPermutation}
use Rattle.std.proofs.lemmas.Bool.{and_parts, eqb-true, ltb-true}
use Rattle.std.proofs.lemmas.Grind.{get_or_default_zero}
use Rattle.std.proofs.lemmas.List.Sorted.{IsPermutation-refl, IsPermutation-cons, IsPermutation-remove, IsPermutation-trans}

-- whether y stands at this position of xs, and the rest, without it, passes
abbrev takes : List ℕ → ℕ → ℕ → (List ℕ → Bool) → Bool
takes xs position y rest = nat_lt position (length xs) && (slice_index xs position == y) && rest (remove xs position)

-- whether each of ys in turn can be taken from xs, and nothing is left
abbrev pub is_shuffle : List ℕ → List ℕ → Bool
is_shuffle [] [] = true
is_shuffle (x ∷ xs) [] = false
is_shuffle xs (y ∷ ys) = takes xs (position_or_len (λ x. x == y) xs) y (λ left. is_shuffle left ys)

pub IsPermutation-is_shuffle : (xs ys : List ℕ) → is_shuffle xs ys ≡ true → IsPermutation xs ys
IsPermutation-is_shuffle [] [] h = IsPermutation-refl []
IsPermutation-is_shuffle (x ∷ xs) [] h = cc
IsPermutation-is_shuffle xs (y ∷ ys) h =
    let position = position_or_len (λ x. x == y) xs in
    let outer = and_parts _ _ h in
    let inner = and_parts _ _ outer.0 in
    let within = ltb-true _ _ inner.0 in
    let here : y ≡ slice_index_or xs position y = sym (get_or_default_zero xs position y within ∙ eqb-true _ _ inner.1) in
    let left = IsPermutation-is_shuffle (remove xs position) ys outer.1 in
    IsPermutation-trans _ _ _ (IsPermutation-remove xs position y within here) (IsPermutation-cons y _ _ left)
