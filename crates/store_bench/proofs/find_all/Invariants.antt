use Rattle.std.proofs.Common.{◌≡◌}
use Rattle.store_bench.proofs.find_all.Given as goal

abbrev pub invariant-loop : goal.invariant-loop
invariant-loop g l = l.task.caller.table ≡ l.store
