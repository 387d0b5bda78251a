-- Statement: what a sink got (own).
use Rattle.std.specs.Prelude.{ℕ, ◌≡◌, ◌<◌, List, length, take, Option}
use Rattle.std.specs.Io.KnownBytes.{Appends}
use Rattle.outside_core.specs.Faults.{Rose}
use Rattle.outside_core.specs.Takes.{MovesOn}

-- these bytes were appended, no write failed, and the sink takes what comes behind them
pub record HasWritten {Sink : Type 0} (held : Sink → Option (List ℕ))
    (takes : Sink → List ℕ → Type 0) (faults : Sink → ℕ)
    (old new : Sink) (bytes : List ℕ) : Type 0 where
  pub appended : Appends (held old) (held new) bytes
  pub unfailed : faults new ≡ faults old
  pub onward : MovesOn takes old new bytes

-- a write failed, after the first `written` of these bytes
pub record HasFailed {Sink : Type 0} (held : Sink → Option (List ℕ)) (faults : Sink → ℕ)
    (full : Sink → Type 0) (old new : Sink) (bytes : List ℕ) (written : ℕ) : Type 0 where
  pub rose : Rose faults full old new
  pub short : written < length bytes
  pub appended : Appends (held old) (held new) (take written bytes)
