-- Law: lists of events that differ at a bit of one bin, so that no bytes give both (own).
use Rattle.std.specs.Prelude.{◌≡◌, ◌≢◌, ◌⊎◌, ℕ, Bool, List, [], ◌∷◌}

-- at their first difference both have a bit in one bin, and not the same bit (own)
abbrev pub AreApart : List (ℕ × Bool) → List (ℕ × Bool) → Type 0
AreApart [] ys = ⊥
AreApart (x ∷ xs) [] = ⊥
AreApart (x ∷ xs) (y ∷ ys) =
    (x.0 ≡ y.0) × ((x.1 ≢ y.1) ⊎ ((x.1 ≡ y.1) × AreApart xs ys))

-- two things are one, or their events are apart (own)
abbrev pub OneOrApart : {X : Type 0} → X → X → List (ℕ × Bool) → List (ℕ × Bool) → Type 0
OneOrApart x y xs ys = (x ≡ y) ⊎ AreApart xs ys
