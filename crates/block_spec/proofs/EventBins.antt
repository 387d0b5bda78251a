-- Which bins the events of values and counts are in.
use Rattle.std.proofs.Common.{◌≡◌, ℕ, zero, suc, ◌+◌, ◌*◌, ◌-◌, ◌/◌, ◌%◌, ◌^◌, ◌<◌, ◌≤◌, arith, refl, Bool, true, false, List, [], ◌∷◌, ◌++◌, length, pow-suc}
use Rattle.std.specs.Prelude.{◌==◌, nat_lt, if◌then◌else◌, ℤ, unsigned_abs}
use Rattle.std.specs.List.{AllByRecursion}
use Rattle.std.proofs.lemmas.Bool.Decides.{nat_tests}
use Rattle.std.proofs.lemmas.Nat.{pow_pos}
use Rattle.block_spec.specs.BitEvents.{bits_events, ones}
use Rattle.coef_context.specs.ValueBins.{ValueBins}
use Rattle.block_spec.specs.Values.{category_of, nonzeros, step_events, rest_events, value_events, count_events, one_events, values_events}
use Rattle.block_spec.proofs.ValuesApart.{IsTen, nonzeros_le}

-- each event's bin is one of some
abbrev pub AreIn : (ℕ → Type 0) → List (ℕ × Bool) → Type 0
AreIn P events = AllByRecursion (λ (event : ℕ × Bool). P event.0) events

pub both_in : (P : ℕ → Type 0) (xs ys : List (ℕ × Bool)) → AreIn P xs → AreIn P ys → AreIn P (xs ++ ys)
both_in P [] ys p q = q
both_in P (x ∷ xs) ys p q = (p.0, both_in P xs ys p.1 q)

-- the bins of lower bits, by the index of the bit
low_bits_in : (P : ℕ → Type 0) (bin : ℕ → ℕ) (most from count n : ℕ) → ((bit : ℕ) → bit < most → P (bin bit))
    → from + count ≤ most
    → AreIn P (bits_events (λ bit above. bin bit) from count n)
low_bits_in P bin most from zero n ok within = tt
low_bits_in P bin most from (suc count) n ok within =
    both_in P (bits_events (λ bit above. bin bit) (from + 1) count (n / 2)) ((bin from, n % 2 == 1) ∷ [])
    (low_bits_in P bin most (from + 1) count (n / 2) ok (omega arith)) (ok from (omega arith), tt)

-- the bins of a count's bits, by the node
nodes_in : (P : ℕ → Type 0) (bin : ℕ → ℕ) (most from count n : ℕ) → ((node : ℕ) → 1 ≤ node → node < most → P (bin node))
    → 2 ^ count ≤ n → n < 2 * 2 ^ count → 2 ^ count ≤ most → AreIn P (bits_events (λ bit node. bin node) from count n)
nodes_in P bin most from zero n ok low high within = tt
nodes_in P bin most from (suc count) n ok low high within =
    let twice : 2 ^ suc count ≡ 2 ^ count * 2 = pow-suc 2 count in
    let some = pow_pos count in
    both_in P (bits_events (λ bit node. bin node) (from + 1) count (n / 2)) ((bin (n / 2), n % 2 == 1) ∷ [])
    (nodes_in P bin most (from + 1) count (n / 2) ok (omega (arith, twice, low)) (omega (arith, twice, high)) (omega (arith, twice, within)))
    (ok (n / 2) (omega (arith, twice, low, some)) (omega (arith, twice, high, within)), tt)

pub count_in : (P : ℕ → Type 0) (bin : ℕ → ℕ) (bits n : ℕ) → ((node : ℕ) → 1 ≤ node → node < 2 ^ bits → P (bin node))
    → n < 2 ^ bits
    → AreIn P (count_events bin bits n)
unfolding count_events
count_in P bin bits n ok below = nodes_in P bin (2 ^ bits) 0 bits (2 ^ bits + n) ok (omega arith) (omega (arith, below)) (omega arith)

ones_in : (P : ℕ → Type 0) (bin : ℕ → ℕ) (steps from count : ℕ) → ((step : ℕ) → step < steps → P (bin step))
    → from + count ≤ steps
    → AreIn P (ones bin from count)
ones_in P bin steps from zero ok within = tt
ones_in P bin steps from (suc count) ok within = (ok from (omega arith), ones_in P bin steps (from + 1) count ok (omega arith))

steps_in : (P : ℕ → Type 0) (bin : ℕ → ℕ) (first steps s : ℕ) → ((step : ℕ) → step < steps → P (bin step))
    → first ≤ steps → s ≤ steps
    → AreIn P (step_events bin first steps s)
steps_in P bin first steps s ok from most =
    both_in P (ones bin first (s - first)) (if nat_lt s steps then (bin s, false) ∷ [] else []) (ones_in P bin steps first (s - first) ok (omega arith))
    (elim (nat_lt s steps) as (λ t. nat_lt s steps ≡ t → AreIn P (if t then (bin s, false) ∷ [] else [])) [
      | true ↦ λ e. (ok s (grind (arith, nat_tests)), tt)
      | false ↦ λ e. tt
    ] refl)

-- the bins of a value of so many steps
pub record AreValueBins (P : ℕ → Type 0) (bins : ValueBins) (steps : ℕ) : Type 0 where
  pub step : (j : ℕ) → j < steps → P (bins.step j)
  pub sign : (s : ℕ) → 1 ≤ s → s ≤ steps → P (bins.sign s)
  pub low : (s bit : ℕ) → 2 ≤ s → s ≤ steps → bit + 2 ≤ s → P (bins.low s bit)

rest_in : (P : ℕ → Type 0) (bins : ValueBins) (steps s : ℕ) (x : ℤ) → AreValueBins P bins steps → s ≤ steps
    → AreIn P (rest_events bins s x)
rest_in P bins steps zero x are most = tt
rest_in P bins steps (suc low) x are most = (
  are.sign (suc low) (omega arith) most,
  low_bits_in P (bins.low (suc low)) low 0 low (unsigned_abs x) (λ bit below. are.low (suc low) bit (omega (arith, below)) most (omega (arith, below))) (omega arith),
)

pub value_in : (P : ℕ → Type 0) (bins : ValueBins) (first steps : ℕ) (x : ℤ) → AreValueBins P bins steps → first ≤ steps
    → category_of x ≤ steps
    → AreIn P (value_events bins first steps x)
unfolding value_events
value_in P bins first steps x are from most =
    both_in P (step_events bins.step first steps (category_of x)) (rest_events bins (category_of x) x)
    (steps_in P bins.step first steps (category_of x) are.step from most) (rest_in P bins steps (category_of x) x are most)

first_at_most : (remain places : ℕ) → (if remain == places then 1 else 0) ≤ 10
first_at_most remain places = elim (remain == places) as (λ t. (if t then 1 else 0) ≤ 10) [ true ↦ omega arith | false ↦ omega arith ]

one_in : (P : ℕ → Type 0) (bins : ValueBins) (remain places : ℕ) (x : ℤ) → (1 ≤ remain → AreValueBins P bins 10)
    → IsTen x
    → AreIn P (one_events bins remain places x)
one_in P bins remain places x are ten =
    elim (remain == 0) as (λ t. remain == 0 ≡ t → AreIn P (if t then [] else value_events bins (if remain == places then 1 else 0) 10 x)) [
      | true ↦ λ e. tt
      | false ↦ λ e. value_in P bins (if remain == places then 1 else 0) 10 x (are (grind (arith, nat_tests))) (first_at_most remain places) ten
    ] refl

-- values at places below a count
pub list_in : (P : ℕ → Type 0) (bins : ℕ → ℕ → ValueBins) (count place : ℕ) (xs : List ℤ)
    → ((place remain : ℕ) → place < count → 1 ≤ remain → remain ≤ count → AreValueBins P (bins place remain) 10) → place + length xs ≤ count
    → AllByRecursion IsTen xs → AreIn P (values_events bins place xs)
unfolding values_events
list_in P bins count place [] ok within tens = tt
list_in P bins count place (x ∷ xs) ok within tens =
    let remain : ℕ = nonzeros (x ∷ xs) in
    let most = nonzeros_le (x ∷ xs) in
    both_in P (one_events (bins place remain) remain (length (x ∷ xs)) x) (values_events bins (place + 1) xs)
    (one_in P (bins place remain) remain (length (x ∷ xs)) x (λ some. ok place remain (omega arith) some (omega (arith, most))) tens.0)
    (list_in P bins count (place + 1) xs ok (omega arith) tens.1)
