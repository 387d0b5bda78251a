-- Law: sums of lists that a step changes, for the tests' rule that the value is the sum of what the passes have added
-- (own).
use Rattle.std.specs.Prelude.{◌≡◌, ℕ, ◌+◌, List, [], ◌∷◌, ◌++◌, sum, slice_set}
use Rattle.std.proofs.Common.{sym, arith, zero, suc, ◌∙◌}
use Rattle.std.proofs.lemmas.List.Sums.{sum_by-cons, sum_by-append}
use mathlib.Core.Option.{some, some-injective, some-ne-none}
use lib.ListN.{get_elem?}

-- a sum is its first number and the others
sum_cons : (x : ℕ) (xs : List ℕ) → sum (x ∷ xs) ≡ x + sum xs
sum_cons x xs = sum_by-cons (λ n. n) x xs

-- a sum in which one number is replaced
pub sum_set : (views : List ℕ) (number v w : ℕ) → get_elem? views number ≡ some v
    → sum (slice_set views number w) + v ≡ sum views + w
sum_set [] number v w at = absurd (some-ne-none v (sym at))
sum_set (x ∷ xs) zero v w at =
    let e : x ≡ v = some-injective x v at in
    omega (arith, sum_cons w xs, sum_cons x xs)
sum_set (x ∷ xs) (suc number) v w at =
    let h = sum_set xs number v w at in
    omega (arith, sum_cons x (slice_set xs number w), sum_cons x xs)

-- a sum with one number more
pub sum_more : (views : List ℕ) (w : ℕ) → sum (views ++ w ∷ []) ≡ sum views + w
sum_more views w = sum_by-append (λ n. n) views (w ∷ []) ∙ omega arith

-- a split leaves the sum as it is
pub sum_splits : (x : ℕ) (views : List ℕ) (number v : ℕ) → x ≡ sum views
    → get_elem? views number ≡ some v → Unit {0} → x ≡ sum (slice_set views number v ++ 0 ∷ [])
sum_splits x views number v is at _ =
    let h = sum_set views number v v at in
    omega (arith, sum_more (slice_set views number v) 0)

-- a number more under the lock is one more in the holder's view
pub sum_adds : (x y n : ℕ) (views : List ℕ) (number v : ℕ) → y ≡ x + n → x ≡ sum views
    → get_elem? views number ≡ some v → y ≡ sum (slice_set views number (v + n))
sum_adds x y n views number v more is at = let h = sum_set views number v (v + n) at in omega arith
