use Rattle.std.proofs.Common.{All}
use Rattle.seat_lock.specs.Passes.{IsReady, IsFor, IsFirst}
use Rattle.thread_examples.proofs.holds.split_off.Given as goal

abbrev pub invariant-loop : goal.invariant-loop
invariant-loop l =
    IsFor l.lock l.first
    × IsReady l.first
    × IsFirst l.first
    × All (λ pass. IsFor l.lock pass × IsReady pass) l.passes.items
