use Rattle.std.specs.Prelude.{All, ◌≡◌, ◌+◌, ◌≤◌, length}
use Rattle.atomic_table.specs.Seated.{TableId}
use Rattle.box_format.specs.Containers.{segment_count}
use Rattle.segment_worker.specs.Contents.{Stretch}
use Rattle.segment_crew.specs.Teams.{AreNewSeats, IsIdleWorker, IsNewSeat}
use Rattle.segment_crew.proofs.team.team_of.Given as goal

abbrev pub invariant-loop-seat : goal.invariant-loop-seat
invariant-loop-seat l = record {
  team : (table : TableId) (v : Stretch) → v.container ≡ l.view → v.first + v.count ≤ segment_count v.container → AreNewSeats table v l.fn.seats.items
      → All (IsIdleWorker table v) l.team.items × All (IsNewSeat table v) l.seat-iterator.rest.items;
  count : length l.team.items + length l.seat-iterator.rest.items ≡ length l.fn.seats.items;
}
