-- Lists from an item on.
use Rattle.std.proofs.Common.{◌≡◌, ℕ, zero, suc, ◌+◌, ◌≤◌, List, [], ◌∷◌, ◌++◌, length, take, drop, map, min, refl, sym, ap, ◌∙◌, arith, length-append}
use Rattle.std.specs.Prelude.{slice_index_or}
use Rattle.std.specs.List.{range_with_len}
use lib.Seq.{take-append-le, take_all, take-append_seam, drop-append_seam, drop-drop}
use lib.ListN.{length-drop, length-take}

-- what is left after a first part of a rest
pub rest_after : (xs out more : List ℕ) (from : ℕ) → drop from xs ≡ out ++ more
    → drop (from + length out) xs ≡ more
rest_after xs out more from e =
    sym (drop-drop (length out) from xs) ∙ ap (drop (length out)) e ∙ drop-append_seam out more

-- the first part of a rest
pub first_of_rest : (xs out more : List ℕ) (from : ℕ) → drop from xs ≡ out ++ more
    → take (length out) (drop from xs) ≡ out
first_of_rest xs out more from e = ap (take (length out)) e ∙ take-append_seam out more

-- a first part of a rest doesn't pass the end
pub rest_within : (xs out more : List ℕ) (from : ℕ) → from ≤ length xs → drop from xs ≡ out ++ more
    → from + length out ≤ length xs
rest_within xs out more from within e =
    let long = ap length e ∙ length-append out more in
    let rest = length-drop from xs in
    omega (arith, long, rest, within)

-- and reaches it, where nothing is left
pub rest_ends : (xs out : List ℕ) (from : ℕ) → from ≤ length xs → drop from xs ≡ out
    → from + length out ≡ length xs
rest_ends xs out from within e =
    let long = ap length e in
    let rest = length-drop from xs in
    omega (arith, long, rest, within)

-- past the end of a list of lists nothing stands
pub past_end : (xs : List (List ℕ)) (i : ℕ) → length xs ≤ i → slice_index_or xs i [] ≡ []
past_end [] i past = refl
past_end (x ∷ xs) zero past = absurd (omega (arith, past))
past_end (x ∷ xs) (suc i) past = past_end xs i (omega (arith, past))

-- parts of items by their numbers
pub mapped_twice : {A B : Type 0} (part : A → B) (f : ℕ → A) (from count : ℕ)
    → map part (map f (range_with_len from count)) ≡ map (λ i. part (f i)) (range_with_len from count)
mapped_twice part f from zero = refl
mapped_twice {B = B} part f from (suc count) =
    ap (λ (xs : List B). part (f from) ∷ xs) (mapped_twice part f (from + 1) count)

-- the first items of a buffer are those that were taken into it
pub front : (xs before now : List ℕ) (n : ℕ) → now ≡ take n xs ++ drop n before
    → length now ≡ length before → n ≤ length before
    → (take n now ≡ take n xs) × (n ≤ length xs)
front xs before now n is same within =
    let long = ap length is ∙ length-append (take n xs) (drop n before) in
    let rest = length-drop n before in
    let some : length (take n xs) ≡ n = omega (arith, long, rest, same, within) in
    let least : length (take n xs) ≡ min n (length xs) = length-take n xs in (
      ap (take n) is ∙ take-append-le n (take n xs) (drop n before) (omega (arith, some))
          ∙ take_all n (take n xs) (omega (arith, some)),
      omega (arith, some, least),
    )
