-- Statement: events, which are bits, each in a bin, and the probabilities that the earlier events give them
-- (docs/FORMAT.md, Bins).
use Rattle.std.specs.Prelude.{ℕ, ◌==◌, Bool, if◌then◌else◌, List, [], ◌∷◌, ◌++◌, fold}
use Rattle.adapt_bins.specs.Counts.{Counts, unseen, counted, prob_of}

-- the bits of the events in one bin
abbrev pub bits_in : ℕ → List (ℕ × Bool) → List Bool
bits_in bin [] = []
bits_in bin (e ∷ es) = if e.0 == bin then e.1 ∷ bits_in bin es else bits_in bin es

-- the counts of a bin after events
abbrev pub counts_in : ℕ → List (ℕ × Bool) → Counts
counts_in bin events = fold counted unseen (bits_in bin events)

-- the probability of a zero in a bin after earlier events
abbrev pub probability : List (ℕ × Bool) → ℕ → ℕ
probability earlier bin = prob_of (counts_in bin earlier)

-- events after earlier ones, as the bools of a stream: each bit with its probability
abbrev pub bools_after : List (ℕ × Bool) → List (ℕ × Bool) → List (ℕ × Bool)
bools_after earlier [] = []
bools_after earlier (e ∷ es) =
    (probability earlier e.0, e.1) ∷ bools_after (earlier ++ e ∷ []) es

-- events as the bools of a stream
abbrev pub bools_of : List (ℕ × Bool) → List (ℕ × Bool)
bools_of es = bools_after [] es
