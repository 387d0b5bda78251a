-- How many events values and counts have.
use Rattle.std.proofs.Common.{◌≡◌, ℕ, zero, suc, ◌+◌, ◌*◌, ◌-◌, ◌/◌, ◌%◌, ◌^◌, ◌<◌, ◌≤◌, arith, refl, true, false, List, [], ◌∷◌, ◌++◌, length}
use Rattle.std.specs.Prelude.{◌==◌, nat_lt, if◌then◌else◌, ℤ, unsigned_abs}
use Rattle.std.specs.List.{AllByRecursion}
use Rattle.std.proofs.lemmas.Bool.Decides.{nat_tests}
use Rattle.std.proofs.lemmas.List.{length-append}
use Rattle.block_spec.specs.BitEvents.{bits_events, ones}
use Rattle.coef_context.specs.ValueBins.{ValueBins}
use Rattle.block_spec.specs.Values.{category_of, nonzeros, step_events, rest_events, value_events, count_events, one_events, values_events}
use Rattle.block_spec.proofs.ValuesApart.{IsTen}

bits_length : (bin : ℕ → ℕ → ℕ) (from count n : ℕ) → length (bits_events bin from count n) ≡ count
bits_length bin from zero n = refl
bits_length bin from (suc count) n =
    let above = bits_length bin (from + 1) count (n / 2) in
    let both = length-append (bits_events bin (from + 1) count (n / 2)) ((bin from (n / 2), n % 2 == 1) ∷ []) in
    omega (arith, above, both)

ones_length : (bin : ℕ → ℕ) (from count : ℕ) → length (ones bin from count) ≡ count
ones_length bin from zero = refl
ones_length bin from (suc count) = let h = ones_length bin (from + 1) count in omega (arith, h)

steps_length : (bin : ℕ → ℕ) (first steps s : ℕ) → s ≤ steps → length (step_events bin first steps s) ≤ steps
steps_length bin first steps s most =
    let run = ones_length bin first (s - first) in
    elim (nat_lt s steps) as (λ t. nat_lt s steps ≡ t → length (ones bin first (s - first) ++ (if t then (bin s, false) ∷ [] else [])) ≤ steps) [
      | true ↦ λ e.
          let below : s < steps = grind (arith, nat_tests) in
          let both = length-append (ones bin first (s - first)) ((bin s, false) ∷ []) in
          omega (arith, run, both, below)
      | false ↦ λ e.
          let both = length-append (ones bin first (s - first)) [] in
          omega (arith, run, both)
    ] refl

rest_length : (bins : ValueBins) (s : ℕ) (x : ℤ) → length (rest_events bins s x) ≡ s
rest_length bins zero x = refl
rest_length bins (suc low) x = let h = bits_length (λ bit above. bins.low (suc low) bit) 0 low (unsigned_abs x) in omega (arith, h)

-- a value has two events at most for each of its steps
pub value_length : (bins : ValueBins) (first steps : ℕ) (x : ℤ) → category_of x ≤ steps
    → length (value_events bins first steps x) ≤ 2 * steps
unfolding value_events
value_length bins first steps x most =
    let up = steps_length bins.step first steps (category_of x) most in
    let rest = rest_length bins (category_of x) x in
    let both = length-append (step_events bins.step first steps (category_of x)) (rest_events bins (category_of x) x) in
    omega (arith, up, rest, both)

pub count_length : (bin : ℕ → ℕ) (bits n : ℕ) → length (count_events bin bits n) ≡ bits
unfolding count_events
count_length bin bits n = bits_length (λ bit node. bin node) 0 bits (2 ^ bits + n)

one_length : (bins : ValueBins) (remain places : ℕ) (x : ℤ) → IsTen x → length (one_events bins remain places x) ≤ 20
one_length bins remain places x ten =
    elim (remain == 0) as (λ t. length (if t then [] else value_events bins (if remain == places then 1 else 0) 10 x) ≤ 20) [
      | true ↦ omega arith
      | false ↦ value_length bins (if remain == places then 1 else 0) 10 x ten
    ]

pub values_length : (bins : ℕ → ℕ → ValueBins) (place : ℕ) (xs : List ℤ) → AllByRecursion IsTen xs
    → length (values_events bins place xs) ≤ 20 * length xs
unfolding values_events
values_length bins place [] tens = omega arith
values_length bins place (x ∷ xs) tens =
    let here = one_length (bins place (nonzeros (x ∷ xs))) (nonzeros (x ∷ xs)) (length (x ∷ xs)) x tens.0 in
    let rest = values_length bins (place + 1) xs tens.1 in
    let both = length-append (one_events (bins place (nonzeros (x ∷ xs))) (nonzeros (x ∷ xs)) (length (x ∷ xs)) x) (values_events bins (place + 1) xs) in
    omega (arith, here, rest, both)
