use Rattle.std.proofs.Common.{◌≡◌, ◌++◌}
use Rattle.segment_encode.proofs.relay.append.Given as goal

abbrev pub invariant-loop-item : goal.invariant-loop-item
invariant-loop-item g l =
    l.initial.list.items ++ l.fn.more.items ≡ l.list.items ++ l.item-iterator.rest.items
