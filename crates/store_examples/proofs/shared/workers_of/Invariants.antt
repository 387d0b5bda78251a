use Rattle.std.specs.Prelude.{◌≡◌}
use Rattle.std.specs.List.{All}
use Rattle.store_examples.proofs.shared.workers_of.Given as goal

abbrev pub invariant-loop-caller : goal.invariant-loop-caller
invariant-loop-caller l =
    All (λ worker. worker.caller.table ≡ l.store) l.workers.items
    × All (λ caller. caller.table ≡ l.store) l.caller-iterator.rest.items
