use Rattle.std.proofs.Common.{◌≡◌, ◌+◌, drop}
use Rattle.outside_core.specs.Memory.{shared_prefix}
use Rattle.outside_core.proofs.watch.prefix_length.Given as goal

abbrev pub invariant-loop-i : goal.invariant-loop-i
invariant-loop-i l = shared_prefix l.a l.b ≡ l.i + shared_prefix (drop l.i l.a) (drop l.i l.b)
