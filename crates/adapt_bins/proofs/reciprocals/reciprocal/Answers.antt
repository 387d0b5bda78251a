use Rattle.std.proofs.Common.{refl, ℕ, ◌≡◌, ◌≤◌, arith, get_or}
use Rattle.adapt_bins.specs.Reciprocals.{reciprocal, most_sum}
use Rattle.adapt_bins.specs.declared.reciprocals.TheConstants.{RECIPROCALS}
use Rattle.adapt_bins.proofs.Quotients.{table_is}
use Rattle.adapt_bins.proofs.reciprocals.reciprocal.Goals as goal

entry : (sum : ℕ) → sum ≤ most_sum → get_or RECIPROCALS sum 0 ≡ reciprocal sum
entry sum most = table_is RECIPROCALS sum (omega arith) refl

pub returns : goal.returns
returns c = entry c.args.sum c.requires
