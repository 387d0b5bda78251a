use Rattle.std.proofs.Common.{◌≢◌, ℕ, ◌<◌, Some, false}
use Rattle.std.specs.Prelude.{slice_get}
use Rattle.board_core.proofs.readers.all_left.Given as goal

abbrev pub invariant-loop-flag : goal.invariant-loop-flag
invariant-loop-flag l = (k : ℕ) → k < l.flag-index → slice_get l.flags k ≢ Some false
