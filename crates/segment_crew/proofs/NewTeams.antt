-- The seats of a team before their first calls, and what clauses see of workers.
use Rattle.std.proofs.Common.{◌≡◌, ℕ, zero, suc, ◌+◌, ◌≤◌, true, List, [], ◌∷◌, length, length-append, refl, sym, ap, subst, ◌∙◌, arith}
use Rattle.std.proofs.lemmas.List.Elements.{All-map, All-push, All-weaker}
use Rattle.std.specs.Prelude.{All}
use Rattle.atomic_table.specs.Seated.{TableId}
use Rattle.box_format.specs.Containers.{all_plans, segment_count}
use Rattle.output_board.specs.declared.view.EmitterView.{EmitterView}
use Rattle.output_board.specs.declared.view.WorkerView.{WorkerView}
use Rattle.output_board.specs.SeatRule.{new_worker}
use Rattle.output_board.specs.Seats.{SeatValue, new_emitter_seat, new_seat, new_worker_seats}
use Rattle.segment_worker.specs.Contents.{Stretch}
use Rattle.segment_crew.specs.Crews.{HasBegunItsClaims, Member}
use Rattle.segment_crew.specs.Teams.{AreNewSeats, IsIdleWorker, IsLeftWorker, IsNewLead, IsNewSeat, members_of, worker_member}
use Rattle.segment_crew.specs.declared.team.Emitter.{Emitter}
use Rattle.segment_crew.specs.declared.team.Worker.{Worker}

-- the emitter's is new
pub new_lead : (table : TableId) (v : Stretch) (workers ring : ℕ) (emitter : Emitter)
    → v.first + v.count ≤ segment_count v.container
    → emitter.seat ≡ new_emitter_seat table v workers ring → emitter.decoder.plans ≡ all_plans v.container
    → emitter.decoder.begun ≡ 0 → IsNewLead table emitter.seat.content emitter
new_lead table v workers ring emitter within e plans begun =
    let content = ap (λ (s : SeatValue Stretch EmitterView). s.content) (sym e) in record {
      within = subst (λ (s : Stretch). s.first + s.count ≤ segment_count s.container) content within;
      new = record {
        own = ap (λ (s : SeatValue Stretch EmitterView). s.table) e;
        content = refl;
        cur = ap (λ (s : SeatValue Stretch EmitterView). s.view.cur) e;
        taken = ap (λ (s : SeatValue Stretch EmitterView). s.view.taken) e;
        free = ap (λ (s : SeatValue Stretch EmitterView). s.view.owns) e;
        going = ap (λ (s : SeatValue Stretch EmitterView). s.view.stopped) e;
        claims = ap (λ (s : SeatValue Stretch EmitterView). s.claims) e;
        plans = plans ∙ ap (λ (s : Stretch). all_plans s.container) content;
        begun = begun;
      };
    }

-- and a worker's with a new seat
pub idle_worker : (table : TableId) (v : Stretch) (seat : SeatValue Stretch WorkerView) (worker : Worker)
    → v.first + v.count ≤ segment_count v.container → IsNewSeat table v seat → worker.seat ≡ seat
    → worker.decoder.plans ≡ all_plans v.container → worker.decoder.begun ≡ 0 → IsIdleWorker table v worker
idle_worker table v seat worker within new same plans begun =
    let is = subst (IsNewSeat table v) (sym same) new in record {
      within = within;
      idle = record {
        own = is.own;
        content = is.content;
        free = is.free;
        going = is.going;
        here = is.here;
        plans = plans;
        begun = begun ∙ sym is.claims;
      };
    }

-- the workers' seats are new
pub new_seats : (table : TableId) (v : Stretch) (workers : ℕ)
    → AreNewSeats table v (new_worker_seats table v workers)
new_seats table v zero = λ k d within. absurd (omega (arith, within))
new_seats table v (suc workers) =
    All-push (IsNewSeat table v) (new_worker_seats table v workers) _ (new_seats table v workers)
    (record { own = refl; content = refl; free = refl; going = refl; here = refl; claims = refl })

-- there are as many seats as workers
pub seats_long : (table : TableId) (v : Stretch) (workers : ℕ)
    → length (new_worker_seats table v workers) ≡ workers
seats_long table v zero = refl
seats_long table v (suc workers) =
    let before = seats_long table v workers in
    let longer = length-append (new_worker_seats table v workers) (new_seat table v (new_worker workers) ∷ []) in
    omega (arith, before, longer)

-- workers that left say so
pub left_members : (table : TableId) (v : Stretch) (team : List Worker) → All (IsLeftWorker table v) team
    → All (λ (member : Member WorkerView). member.view.left ≡ true) (members_of team)
left_members table v team all =
    let each = All-weaker (IsLeftWorker table v) (λ (worker : Worker). worker.seat.view.left ≡ true)
    (λ worker left. left.left) team all in
    All-map (λ (member : Member WorkerView). member.view.left ≡ true) worker_member team each

-- each began as many segments as it claimed, when it has left
pub begun_members : (table : TableId) (v : Stretch) (team : List Worker) → All (IsLeftWorker table v) team
    → All HasBegunItsClaims (members_of team)
begun_members table v team all =
    let each = All-weaker (IsLeftWorker table v) (λ (worker : Worker). HasBegunItsClaims (worker_member worker))
    (λ worker left. left.begun) team all in
    All-map HasBegunItsClaims worker_member team each

-- and before its first call
pub idle_members : (table : TableId) (v : Stretch) (team : List Worker) → All (IsIdleWorker table v) team
    → All HasBegunItsClaims (members_of team)
idle_members table v team all =
    let each = All-weaker (IsIdleWorker table v) (λ (worker : Worker). HasBegunItsClaims (worker_member worker))
    (λ worker is. is.idle.begun) team all in
    All-map HasBegunItsClaims worker_member team each

-- clauses see as many as there are
pub members_long : (team : List Worker) → length (members_of team) ≡ length team
members_long [] = refl
members_long (worker ∷ team) = ap suc (members_long team)
