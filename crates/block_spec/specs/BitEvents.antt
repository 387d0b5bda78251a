-- Statement: the events of the bits of a number (docs/FORMAT.md, The events of a block). An event is a bin and a bit.
use Rattle.std.specs.Prelude.{ℕ, ◌+◌, ◌/◌, ◌%◌, ◌==◌, Bool, true, List, [], ◌∷◌, ◌++◌, zero, suc}

-- the `count` low bits of a number, highest first (own): the lowest has the index `from`, and a bit's bin follows from
-- its index and from the bits above it
abbrev pub bits_events : (ℕ → ℕ → ℕ) → ℕ → ℕ → ℕ → List (ℕ × Bool)
bits_events bin from zero n = []
bits_events bin from (suc count) n =
    bits_events bin (from + 1) count (n / 2) ++ (bin from (n / 2), n % 2 == 1) ∷ []

-- `count` ones, each in the bin of its step, from one step on (own)
abbrev pub ones : (ℕ → ℕ) → ℕ → ℕ → List (ℕ × Bool)
ones bin from zero = []
ones bin from (suc count) = (bin from, true) ∷ ones bin (from + 1) count
