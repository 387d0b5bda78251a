-- Lists by the numbers of their items.
use Rattle.std.proofs.Common.{◌≡◌, ℕ, zero, suc, ◌+◌, ◌<◌, ◌≤◌, List, [], ◌∷◌, length, map, get_or, refl, ap, ap₂, ◌∙◌, arith, Some, None}
use Rattle.std.specs.Prelude.{slice_get}
use Rattle.std.specs.List.{range_with_len}

-- a list of these items
pub mapped_is : {A : Type 0} (f : ℕ → A) (xs : List A) (from : ℕ) (d : A)
    → ((k : ℕ) → k < length xs → get_or xs k d ≡ f (from + k))
    → xs ≡ map f (range_with_len from (length xs))
mapped_is f [] from d each = refl
mapped_is f (x ∷ xs) from d each =
    let e : from + 0 ≡ from = omega arith in
    ap₂ (λ (y : _) (ys : List _). y ∷ ys) (each 0 (omega arith) ∙ ap f e)
    (mapped_is f xs (from + 1) d (λ k within.
    let g : from + suc k ≡ (from + 1) + k = omega arith in
    each (suc k) (omega (arith, within)) ∙ ap f g))

-- an item that is there, or none
pub got_at : {A : Type 0} (xs : List A) (k : ℕ) (d : A) → k < length xs
    → slice_get xs k ≡ Some (get_or xs k d)
got_at [] k d within = absurd (omega (arith, within))
got_at (x ∷ xs) zero d within = refl
got_at (x ∷ xs) (suc k) d within = got_at xs k d (omega (arith, within))

pub got_none : {A : Type 0} (xs : List A) (k : ℕ) → length xs ≤ k → slice_get xs k ≡ None
got_none [] k past = refl
got_none (x ∷ xs) zero past = absurd (omega (arith, past))
got_none (x ∷ xs) (suc k) past = got_none xs k (omega (arith, past))

-- the same items of two functions
pub mapped_same : {A : Type 0} (f g : ℕ → A) (from count : ℕ)
    → ((k : ℕ) → from ≤ k → k < from + count → f k ≡ g k)
    → map f (range_with_len from count) ≡ map g (range_with_len from count)
mapped_same f g from zero same = refl
mapped_same f g from (suc count) same =
    ap₂ (λ (y : _) (ys : List _). y ∷ ys) (same from (omega arith) (omega arith))
    (mapped_same f g (from + 1) count (λ k after within.
    same k (omega (arith, after)) (omega (arith, within))))
