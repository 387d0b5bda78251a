use Rattle.std.proofs.Common.{◌≡◌}
use Rattle.seat_lock.specs.Passes.{IsReady, IsFor, IsFirst, splits_of, view_of, lock_id}
use Rattle.output_board.specs.declared.view.Role.TheVariants.{Emits}
use Rattle.output_board.specs.Seats.{new_emitter, new_seat, new_worker_seats}
use Rattle.output_board.specs.SeatPasses.{emitter_value}
use Rattle.output_board.proofs.board.Board.prepare.Given as goal

abbrev pub invariant-loop-number : goal.invariant-loop-number
invariant-loop-number g l =
    IsFor l.lock l.first
    × IsReady l.first
    × IsFirst l.first
    × (splits_of l.first ≡ l.number)
    × ((view_of l.first).role ≡ Emits (new_emitter l.number l.workers l.capacity))
    × (emitter_value l.first ≡ new_seat (lock_id l.lock) l.fn.content (new_emitter l.number l.workers l.capacity))
    × (l.seats.items ≡ new_worker_seats (lock_id l.lock) l.fn.content l.number)
