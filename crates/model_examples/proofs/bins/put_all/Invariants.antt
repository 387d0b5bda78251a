use Rattle.std.proofs.Common.{◌≡◌, length}
use Rattle.model_examples.proofs.bins.put_all.Given as goal

abbrev pub invariant-events : goal.invariant-events
invariant-events l = length l.put.bins ≡ 3
