use Rattle.std.proofs.Common.{◌≡◌}
use Rattle.store_bench.proofs.put_all.Given as goal

abbrev pub invariant-loop-number : goal.invariant-loop-number
invariant-loop-number g l = l.task.caller.table ≡ l.store
