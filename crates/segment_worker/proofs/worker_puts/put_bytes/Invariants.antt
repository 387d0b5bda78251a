use Rattle.std.proofs.Common.{◌≡◌, ◌+◌, ◌≤◌, length}
use Rattle.segment_worker.specs.OwnSegments.{IsSameSeat}
use Rattle.segment_worker.proofs.worker_puts.put_bytes.Given as goal

abbrev pub invariant-loop : goal.invariant-loop
invariant-loop g l =
    (l.put ≤ length l.bytes) × IsSameSeat l.initial.seat l.seat
    × (l.seat.view ≡ record l.initial.seat.view { put = l.initial.seat.view.put + l.put })
