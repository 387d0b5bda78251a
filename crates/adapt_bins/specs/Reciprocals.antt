-- View: what a table of reciprocals holds: those of sums of two counts, by which a division is a product (own).
use Rattle.std.specs.Prelude.{ℕ, ◌+◌, ◌-◌, ◌/◌, ◌==◌, ◌&&◌, Bool, true, List, [], ◌∷◌}

-- one, in the units of a reciprocal: 2 to the 26
abbrev pub unit : ℕ
unit = 67108864

-- the largest sum of two counts: twice 255
abbrev pub most_sum : ℕ
most_sum = 510

-- the reciprocal of a sum, in units of 2 to the -26, rounded up
abbrev pub reciprocal : ℕ → ℕ
reciprocal sum = (unit + sum - 1) / sum

-- whether the entries are the reciprocals of these sums, from one sum on
abbrev pub are_reciprocals : ℕ → List ℕ → Bool
are_reciprocals sum [] = true
are_reciprocals sum (r ∷ rs) = r == reciprocal sum && are_reciprocals (sum + 1) rs
