-- Statement: the events of a value and of a list of values (docs/FORMAT.md, The events of a block).
use Rattle.std.specs.Prelude.{ℕ, zero, suc, ◌+◌, ◌-◌, ◌^◌, ◌==◌, Bool, false, if◌then◌else◌, nat_lt, List, [], ◌∷◌, ◌++◌, length, ℤ, pos, unsigned_abs, int_lt}
use Rattle.coef_block.specs.Categories.{category}
use Rattle.coef_context.specs.ValueBins.{ValueBins}
use Rattle.block_spec.specs.BitEvents.{bits_events, ones}

-- the category of a value (T.81 F.1.2.1.2): how many bits its magnitude has, 0 for 0
abbrev pub category_of : ℤ → ℕ
category_of x = category (unsigned_abs x)

-- a category in steps from the first on (own): a one for each step below it, and a zero at its own if there is such a
-- step
abbrev pub step_events : (ℕ → ℕ) → ℕ → ℕ → ℕ → List (ℕ × Bool)
step_events bin first steps s =
    ones bin first (s - first) ++ (if nat_lt s steps then (bin s, false) ∷ [] else [])

-- what a category leaves open of a value (own): the sign, a one below 0, and the bits below the highest
abbrev pub rest_events : ValueBins → ℕ → ℤ → List (ℕ × Bool)
rest_events bins zero x = []
rest_events bins (suc low) x =
    (bins.sign (suc low), int_lt x (pos 0))
    ∷ bits_events (λ bit above. bins.low (suc low) bit) 0 low (unsigned_abs x)

-- a value whose category has `steps` steps, from the first on (own)
unfoldable pub value_events : ValueBins → ℕ → ℕ → ℤ → List (ℕ × Bool)
value_events bins first steps x =
    step_events bins.step first steps (category_of x) ++ rest_events bins (category_of x) x

-- a count in `bits` bits, highest first (own); a bit's bin is that of its node: 1 at first, then twice the node plus
-- the bit
unfoldable pub count_events : (ℕ → ℕ) → ℕ → ℕ → List (ℕ × Bool)
count_events bin bits n = bits_events (λ bit node. bin node) 0 bits (2 ^ bits + n)

-- whether a value is 0 (own)
abbrev pub is_zero : ℤ → Bool
is_zero x = unsigned_abs x == 0

-- how many values are not 0 (own)
abbrev pub nonzeros : List ℤ → ℕ
nonzeros [] = 0
nonzeros (x ∷ xs) = (if is_zero x then 0 else 1) + nonzeros xs

-- one value of ten steps (own): nothing if no value that is not 0 remains; the step 0 is left out if as many remain as
-- places are left
abbrev pub one_events : ValueBins → ℕ → ℕ → ℤ → List (ℕ × Bool)
one_events bins remain places x =
    if remain == 0 then [] else value_events bins (if remain == places then 1 else 0) 10 x

-- values from a place on (own), the bins of each by its place and by how many that are not 0 remain
unfoldable pub values_events : (ℕ → ℕ → ValueBins) → ℕ → List ℤ → List (ℕ × Bool)
values_events bins place [] = []
values_events bins place (x ∷ xs) =
    let remain = nonzeros (x ∷ xs) in
    one_events (bins place remain) remain (length (x ∷ xs)) x ++ values_events bins (place + 1) xs
