-- Steps: a table of bins after some events (own).
use Rattle.std.specs.Prelude.{◌≡◌, ℕ, ◌<◌, Bool, List, length, get_or}
use Rattle.adapt_bins.specs.Counts.{Counts, unseen}
use Rattle.adapt_bins.specs.Events.{counts_in}

-- each bin of a table has counted its bits of these events
pub record HasCounted (table : List Counts) (events : List (ℕ × Bool)) : Type 0 where
  pub each : (bin : ℕ) → bin < length table → get_or table bin unseen ≡ counts_in bin events
