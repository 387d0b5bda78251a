use Rattle.std.proofs.Common.{◌≡◌, All}
use Rattle.store_bench.proofs.tasks_of.Given as goal

abbrev pub invariant-loop-caller : goal.invariant-loop-caller
invariant-loop-caller l = record {
  made : All (λ task. task.caller.table ≡ l.store) l.tasks.items;
  left : All (λ caller. caller.table ≡ l.store) l.caller-iterator.rest.items;
}
