-- Law: what holds of all slices (own).
use Rattle.std.specs.Prelude.{ℕ, ◌≡◌, ◌-◌, ◌<◌, ◌≤◌, min, Bool, true, List, ◌++◌, length, Some}
use Rattle.byte_window.specs.Windows.{window}
use Rattle.byte_window.specs.Slices.{Cover, slice, cover}

-- a slice of two lists joined
abbrev pub SliceOfParts : Type 0
SliceOfParts =
    (a b : ℕ) (xs ys : List ℕ)
    → slice a b (xs ++ ys) ≡ slice a b xs ++ slice (a - length xs) (b - length xs) ys

-- what a window lets through of a slice that holds all of another one
abbrev pub SliceIsWindow : Type 0
SliceIsWindow =
    (a b p q : ℕ) (xs : List ℕ) → p ≤ a → min b (length xs) ≤ q
    → slice a b xs
    ≡ window (record { skip = a - p; most = Some (min b (length xs) - a) }) (slice p q xs)

-- slices one after another
abbrev pub SlicesJoin : Type 0
SlicesJoin =
    (a b c : ℕ) (xs : List ℕ) → a ≤ b → b ≤ c
    → slice a b xs ++ slice b c xs ≡ slice a c xs

-- a cover has every part that is met; it begins and ends with one that is; none is 0 to before 0
pub record IsCover (met : ℕ → Bool) (count : ℕ) (c : Cover) : Type 0 where
  pub all : (i : ℕ) → i < count → met i ≡ true → (c.from ≤ i) × (i < c.to)
  pub some : c.from < c.to → (met c.from ≡ true) × (met (c.to - 1) ≡ true) × (c.to ≤ count)
  pub order : c.from ≤ c.to
  pub none : c.from ≡ c.to → (c.from ≡ 0) × (c.to ≡ 0)

abbrev pub CoverIsExact : Type 0
CoverIsExact = (met : ℕ → Bool) (count : ℕ) → IsCover met count (cover met count)

-- how long a slice is
abbrev pub MostIsCounted : Type 0
MostIsCounted =
    (a b : ℕ) (xs : List ℕ) → length (slice a b xs) ≡ min b (length xs) - a
