use Rattle.std.specs.Prelude.{◌≡◌}
use Rattle.store_examples.proofs.failing.fails_once.Given as goal

abbrev pub invariant-loop-number : goal.invariant-loop-number
invariant-loop-number g l = (l.caller.table ≡ l.store) × (l.second.table ≡ l.other)
