-- Statement: what a count of faults says of two states of a source or a sink (own).
use Rattle.std.specs.Prelude.{ℕ, ◌<◌, ◌⊎◌}

-- the count rose from one state to a later one, or is at its last value and can't rise
abbrev pub Rose : {End : Type 0} → (End → ℕ) → (End → Type 0) → End → End → Type 0
Rose faults full old new = (faults old < faults new) ⊎ full new

-- the count of a source or a sink that has none
abbrev pub no_faults : {End : Type 0} → End → ℕ
no_faults _ = 0

-- the last value of a count that has none
abbrev pub Never : {End : Type 0} → End → Type 0
Never _ = ⊥
