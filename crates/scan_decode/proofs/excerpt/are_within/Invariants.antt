use Rattle.std.proofs.Common.{◌≤◌, ◌<◌, ℕ, ℤ, get_or, unsigned_abs}
use Rattle.scan_decode.proofs.excerpt.are_within.Given as goal

abbrev pub invariant-loop-i : goal.invariant-loop-i
invariant-loop-i l = (k : ℕ) (d : ℤ) → k < l.i → unsigned_abs (get_or l.numbers k d) ≤ l.most
