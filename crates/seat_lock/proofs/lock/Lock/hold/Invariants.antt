use Rattle.std.proofs.Common.{◌≡◌}
use Rattle.seat_lock.proofs.lock.Lock.hold.Given as goal

abbrev pub invariant-loop : goal.invariant-loop
invariant-loop g l =
    (l.pass.seat.table_id ≡ l.initial.pass.seat.table_id)
    × (l.pass.seat.id ≡ l.initial.pass.seat.id)
    × (l.pass.seat.me ≡ l.initial.pass.seat.me)
