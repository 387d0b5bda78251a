use Rattle.std.specs.Prelude.{◌≡◌}
use Rattle.store_examples.proofs.shared.work.Given as goal

abbrev pub invariant-loop : goal.invariant-loop
invariant-loop g l = l.worker.caller.table ≡ l.store
