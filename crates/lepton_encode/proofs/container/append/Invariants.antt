use Rattle.std.proofs.Common.{◌≡◌, ◌++◌}
use Rattle.lepton_encode.proofs.container.append.Given as goal

abbrev pub invariant-loop-stream : goal.invariant-loop-stream
invariant-loop-stream l =
    l.fn.streams.items ++ l.fn.more.items ≡ l.streams.items ++ l.stream-iterator.rest.items
