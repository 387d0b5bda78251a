-- Steps: the first step of a value (own).
use Rattle.std.specs.Prelude.{ℕ, ◌-◌, Bool, true, false, List, [], ◌∷◌}
use Rattle.block_spec.specs.BitEvents.{ones}
use Rattle.coef_context.specs.ValueBins.{ValueBins}

-- whether a value isn't 0, if it may be 0: the first step is 0 or 1 (own)
abbrev pub nonzero_events : ValueBins → ℕ → Bool → List (ℕ × Bool)
nonzero_events bins first true = ones bins.step first (1 - first)
nonzero_events bins first false = (bins.step 0, false) ∷ []
