use Rattle.std.proofs.Common.{◌≡◌, length}
use Rattle.model_examples.proofs.bins.gets_all.Given as goal

abbrev pub invariant-events : goal.invariant-events
invariant-events l = length l.get.bins ≡ 3
