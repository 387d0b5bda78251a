use Rattle.seat_lock.specs.Passes.{IsReady, IsFor}
use Rattle.thread_examples.proofs.holds.add_ones.Given as goal

abbrev pub invariant-loop : goal.invariant-loop
invariant-loop g l = IsFor l.lock l.pass × IsReady l.pass
