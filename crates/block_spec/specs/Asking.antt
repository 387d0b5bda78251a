-- Statement: a value that bits give, each asked for in a bin that follows from the bits before it
-- (docs/FORMAT.md, The events of a block). An event is a bin and a bit.
use Rattle.std.specs.Prelude.{ℕ, Bool, List, [], ◌∷◌, ◌++◌}

-- a value that is known, or a bin whose bit says what follows (own)
pub data Asked (A : Type 0) : Type 0 where
  Told : A → Asked A
  Ask : ℕ → (Bool → Asked A) → Asked A

-- and then what the value asks for (own)
abbrev pub then_ask : {A B : Type 0} → Asked A → (A → Asked B) → Asked B
then_ask (Told x) more = more x
then_ask (Ask bin next) more = Ask bin (λ bit. then_ask (next bit) more)

-- the bit that is given in a bin after events (own)
abbrev pub Giver : Type 0
Giver = List (ℕ × Bool) → ℕ → Bool

-- the value that the bits given after earlier events make, and all events (own)
unfoldable pub told_by : {A : Type 0} → Giver → List (ℕ × Bool) → Asked A → A × List (ℕ × Bool)
told_by giver earlier (Told x) = (x, earlier)
told_by giver earlier (Ask bin next) =
    let bit = giver earlier bin in told_by giver (earlier ++ (bin, bit) ∷ []) (next bit)
