-- Statement: which bytes a sink takes (own).
use Rattle.std.specs.Prelude.{ℕ, List, ◌++◌}

-- whatever it is
abbrev pub Anything : {Sink : Type 0} → Sink → List ℕ → Type 0
Anything _ _ = Unit {0}

-- a source may be read at any time
abbrev pub Always : {Source : Type 0} → Source → Type 0
Always _ = Unit {0}

module _ {Sink : Type 0} (takes : Sink → List ℕ → Type 0) where
  -- it takes any text
  abbrev pub TakesAll : Sink → Type 0
  TakesAll sink = (text : List ℕ) → takes sink text

  -- it takes these bytes next, with any others behind them
  abbrev pub TakesNext : Sink → List ℕ → Type 0
  TakesNext sink bytes = (rest : List ℕ) × takes sink (bytes ++ rest)

  -- these bytes were written: of each text that begins with them it takes what is behind them
  abbrev pub MovesOn : Sink → Sink → List ℕ → Type 0
  MovesOn old new bytes = (rest : List ℕ) → takes old (bytes ++ rest) → takes new rest
