-- View: what a table of bins has beside these (own).
use Rattle.std.specs.Prelude.{◌<◌, length}
use Rattle.adapt_bins.specs.Shares.{AreShares}
use Rattle.adapt_bins.specs.declared.bins.Bins.TheInside.{Inside}

-- if there are bins, it has the shares of all counts
pub record HasShares (b : Inside) : Type 0 where
  pub shares : 0 < length b.table.items → AreShares b.shares.items
