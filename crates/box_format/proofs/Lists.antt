-- Numbers from one on, and what stands in parts of a list.
use Rattle.std.proofs.Common.{◌≡◌, ◌<◌, ◌≤◌, ℕ, zero, suc, ◌+◌, List, [], ◌∷◌, take, drop, map, get_or, refl, ap, ◌∙◌, arith}
use Rattle.std.specs.Prelude.{sum}
use Rattle.std.proofs.lemmas.List.{drop-drop}
use Rattle.std.proofs.lemmas.List.Sums.{sum_by-cons}
use Rattle.std.specs.List.{range_with_len}
use Rattle.box_format.specs.Raws.{parted}

-- a sum by its first number
pub sum_first : (x : ℕ) (xs : List ℕ) → sum (x ∷ xs) ≡ x + sum xs
sum_first x xs = sum_by-cons (λ n. n) x xs

-- that of the values at some numbers
pub sum_next : (f : ℕ → ℕ) (from n : ℕ)
    → sum (map f (range_with_len from (suc n))) ≡ f from + sum (map f (range_with_len (from + 1) n))
sum_next f from n = sum_first (f from) (map f (range_with_len (from + 1) n))

-- one number more
pub sum_more : (f : ℕ → ℕ) (from n : ℕ)
    → sum (map f (range_with_len from (suc n))) ≡ sum (map f (range_with_len from n)) + f (from + n)
sum_more f from zero =
    let e : from + 0 ≡ from = omega arith in
    rw e (omega (arith, sum_next f from 0))
sum_more f from (suc n) =
    let e : from + suc n ≡ from + 1 + n = omega arith in
    rw e (omega (arith, sum_next f from (suc n), sum_next f from n, sum_more f (from + 1) n))

-- the first numbers and the one after them are not more than all
pub sum_part : (f : ℕ → ℕ) (from i n : ℕ) → i < n
    → sum (map f (range_with_len from i)) + f (from + i) ≤ sum (map f (range_with_len from n))
sum_part f from i zero below = absurd (omega arith)
sum_part f from zero (suc n) below =
    let e : from + 0 ≡ from = omega arith in
    rw e (omega (arith, sum_next f from n))
sum_part f from (suc i) (suc n) below =
    let e : from + suc i ≡ from + 1 + i = omega arith in
    rw e (omega (
      arith,
      sum_next f from i,
      sum_next f from n,
      sum_part f (from + 1) i n (omega arith),
    ))

-- one of the parts
pub part_at : (f : ℕ → ℕ) (from i n : ℕ) (xs : List ℕ) → i < n
    → get_or (parted (map f (range_with_len from n)) xs) i []
    ≡ take (f (from + i)) (drop (sum (map f (range_with_len from i))) xs)
part_at f from i zero xs below = absurd (omega arith)
part_at f from zero (suc n) xs below =
    let e : from + 0 ≡ from = omega arith in
    rw e refl
part_at f from (suc i) (suc n) xs below =
    let e : from + suc i ≡ from + 1 + i = omega arith in
    rw (e, sum_next f from i)
    (part_at f (from + 1) i n (drop (f from) xs) (omega arith)
    ∙ ap (take (f (from + 1 + i))) (drop-drop (sum (map f (range_with_len (from + 1) i))) (f from) xs))
