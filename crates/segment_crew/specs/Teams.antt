-- Steps: the emitter and the workers of a crew (own).
use Rattle.std.specs.Prelude.{All, ℕ, ◌≡◌, ◌+◌, ◌*◌, ◌≤◌, None, true, false, List, length, map, Option, Result, IfOk, OnOk, OnErr}
use Rattle.byte_window.specs.declared.window.Window.{Window}
use Rattle.atomic_table.specs.Seated.{TableId}
use Rattle.box_format.specs.Versions.{most_segments}
use Rattle.box_format.specs.Containers.{segment_count}
use Rattle.output_board.specs.declared.view.EmitterView.{EmitterView}
use Rattle.output_board.specs.declared.view.WorkerView.{WorkerView}
use Rattle.output_board.specs.Seats.{SeatValue}
use Rattle.segment_worker.specs.declared.emitted.Emitted.{Emitted}
use Rattle.segment_worker.specs.declared.emitted.EmitStop.{EmitStop}
use Rattle.segment_worker.specs.Contents.{Stretch, segment_room}
use Rattle.segment_worker.specs.Emitting.{Emits, IsNewEmitter, IsThrough, IsUsedEmitter, joined_in, seen_through}
use Rattle.segment_worker.specs.Working.{IsIdle, HasLeft}
use Rattle.segment_crew.specs.Crews.{Member}
use Rattle.segment_crew.specs.declared.team.Emitter.{Emitter}
use Rattle.segment_crew.specs.declared.team.Worker.{Worker}

-- what clauses see of the emitter
abbrev pub emitter_member : Emitter → Member EmitterView
emitter_member emitter = record {
  view = emitter.seat.view;
  claims = emitter.seat.claims;
  begun = emitter.decoder.begun;
}

-- of a worker
abbrev pub worker_member : Worker → Member WorkerView
worker_member worker = record {
  view = worker.seat.view;
  claims = worker.seat.claims;
  begun = worker.decoder.begun;
}

-- and of each worker
abbrev pub members_of : List Worker → List (Member WorkerView)
members_of team = map worker_member team

-- a worker between two segments of the board of a stretch, all of whose segments the container has
pub record IsIdleWorker (table : TableId) (v : Stretch) (worker : Worker) : Type 0 where
  pub within : v.first + v.count ≤ segment_count v.container
  pub idle : IsIdle table v worker.seat worker.decoder

-- a worker that left
abbrev pub IsLeftWorker : TableId → Stretch → Worker → Type 0
IsLeftWorker table v worker = HasLeft table v worker.seat worker.decoder

-- the emitter before its first call, on the board of a stretch, all of whose segments the container has
pub record IsNewLead (table : TableId) (v : Stretch) (emitter : Emitter) : Type 0 where
  pub within : v.first + v.count ≤ segment_count v.container
  pub new : IsNewEmitter table v emitter.seat emitter.decoder

-- the emitter after its last call, with this window on the segments
pub record LeadEnds {Sink : Type 0} (held : Sink → Option (List ℕ))
    (takes : Sink → List ℕ → Type 0) (faults : Sink → ℕ) (full : Sink → Type 0)
    (table : TableId) (w : Window) (v : Stretch) (emitter : Emitter) (old new : Sink)
    (result : Result Emitted EmitStop) : Type 0 where
  pub ends : Emits held takes faults full old new (seen_through w (joined_in v)) result
  pub came : IfOk result (λ emitted. emitted.came ≡ length (joined_in v).bytes)
  pub through : OnOk result (IsThrough v.count emitter.seat.view)
  pub stopped : OnErr result (emitter.seat.view.stopped ≡ true)
  pub used : IsUsedEmitter table v emitter.seat emitter.decoder
  pub few : length (joined_in v).bytes ≤ segment_room * most_segments
  pub lasting : faults old ≤ faults new

-- a worker's seat before its first call
pub record IsNewSeat (table : TableId) (v : Stretch) (seat : SeatValue Stretch WorkerView)
    : Type 0 where
  pub own : seat.table ≡ table
  pub content : seat.content ≡ v
  pub free : seat.view.segment ≡ None
  pub going : seat.view.over ≡ false
  pub here : seat.view.left ≡ false
  pub claims : seat.claims ≡ 0

-- workers' seats before their first calls
abbrev pub AreNewSeats : TableId → Stretch → List (SeatValue Stretch WorkerView) → Type 0
AreNewSeats table v seats = All (IsNewSeat table v) seats
