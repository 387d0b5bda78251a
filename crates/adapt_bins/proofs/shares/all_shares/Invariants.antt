use Rattle.std.proofs.Common.{◌≡◌, ◌<◌, ◌*◌, ℕ, length, get_or}
use Rattle.adapt_bins.specs.Shares.{share_at}
use Rattle.adapt_bins.proofs.shares.all_shares.Given as goal

abbrev pub invariant-loop-ones : goal.invariant-loop-ones
invariant-loop-ones l = record {
  many : length l.shares.items ≡ 256 * l.ones;
  each : (both : ℕ) → both < 256 * l.ones → get_or l.shares.items both 0 ≡ share_at both;
}
