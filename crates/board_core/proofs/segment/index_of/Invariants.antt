use Rattle.std.proofs.Common.{◌≢◌, ℕ, ◌<◌, Some}
use Rattle.board_core.specs.CoreInside.{kept_at}
use Rattle.board_core.proofs.segment.index_of.Given as goal

abbrev pub invariant-loop-i : goal.invariant-loop-i
invariant-loop-i l = (k : ℕ) → k < l.i → (kept_at l.segments k).owner ≢ Some l.actor
