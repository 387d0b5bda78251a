use Rattle.std.proofs.Common.{◌≡◌, ◌≤◌, ◌-◌, replicate, length, take}
use Rattle.adapt_bins.specs.Counts.{unseen}
use Rattle.adapt_bins.proofs.bins.make_fresh.Given as goal

abbrev pub invariant-loop-done : goal.invariant-loop-done
invariant-loop-done l = record {
  within : l.done ≤ length l.table;
  fresh : take l.done l.table ≡ replicate l.done unseen;
}

abbrev pub decreases-loop-done : goal.decreases-loop-done
decreases-loop-done l = length l.table - l.done
