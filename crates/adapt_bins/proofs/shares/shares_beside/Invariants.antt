use Rattle.std.proofs.Common.{◌≡◌, ◌<◌, ◌+◌, ◌*◌, ℕ, length, get_or}
use Rattle.adapt_bins.specs.Shares.{share_at}
use Rattle.adapt_bins.proofs.shares.shares_beside.Given as goal

abbrev pub invariant-loop-zeros : goal.invariant-loop-zeros
invariant-loop-zeros l = record {
  many : length l.row ≡ 256;
  each : (zeros : ℕ) → zeros < l.zeros → get_or l.row zeros 0 ≡ share_at (256 * l.fn.ones + zeros);
}
