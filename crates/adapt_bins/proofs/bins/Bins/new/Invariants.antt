use Rattle.std.proofs.Common.{◌≡◌, ◌≤◌, ◌-◌, replicate}
use Rattle.adapt_bins.specs.Counts.{unseen}
use Rattle.adapt_bins.proofs.bins.Bins.new.Given as goal

abbrev pub invariant-loop-fresh : goal.invariant-loop-fresh
invariant-loop-fresh l = record {
  few : l.table.len ≤ l.n;
  fresh : l.table.items ≡ replicate l.table.len unseen;
}

abbrev pub decreases-loop-fresh : goal.decreases-loop-fresh
decreases-loop-fresh l = l.n - l.table.len
