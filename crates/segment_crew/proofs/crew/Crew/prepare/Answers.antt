use Rattle.std.proofs.Common.{◌∙◌, refl, sym, ap, subst, List, length}
use Rattle.std.specs.Prelude.{All}
use Rattle.output_board.specs.declared.view.EmitterView.{EmitterView}
use Rattle.output_board.specs.declared.view.WorkerView.{WorkerView}
use Rattle.output_board.specs.Seats.{SeatValue}
use Rattle.segment_worker.specs.Contents.{Stretch, stretch}
use Rattle.segment_crew.specs.Teams.{AreNewSeats, IsIdleWorker}
use Rattle.segment_crew.proofs.NewTeams.{idle_members, members_long, new_lead, new_seats, seats_long}
use Rattle.segment_crew.proofs.crew.Crew.prepare.Goals as goal

pub invariant_of-result : goal.invariant_of-result
invariant_of-result c =
    let v = stretch c.args.view.now c.args.first c.args.count in
    let board = c.in_ok-board.board in
    let team = c.in_ok-team.team.items in
    let e = c.in_ok-board.ensures.emitter in
    let content = ap (λ (s : SeatValue Stretch EmitterView). s.content) e in
    let seats = subst (λ (seats : List (SeatValue Stretch WorkerView)). AreNewSeats board v seats)
    (sym c.in_ok-board.ensures.workers) (new_seats board v c.min-workers.result) in
    let idle = c.in_ok-team.ensures.idle board v refl c.requires.within seats in
    record {
      first = ap (λ (s : Stretch). s.first) (sym content);
      count = ap (λ (s : Stretch). s.count) (sym content);
      emitter = c.in_ok-decoder.ensures.begun ∙ ap (λ (s : SeatValue Stretch EmitterView). s.claims) (sym e);
      team = idle_members board v team idle;
      new = λ unused. new_lead board v c.min-workers.result c.args.ring _ c.requires.within e
          (c.in_ok-decoder.ensures.plans ∙ c.plans.ensures) c.in_ok-decoder.ensures.begun;
      idle = λ unused. subst (λ (s : Stretch). All (IsIdleWorker board s) team) (sym content) idle;
    }

pub returns-clause-team : goal.returns-clause-team
returns-clause-team c =
    let v = stretch c.args.view.now c.args.first c.args.count in
    members_long c.in_ok-team.team.items ∙ c.in_ok-team.ensures.count ∙ ap length c.in_ok-board.ensures.workers
    ∙ seats_long c.in_ok-board.board v c.min-workers.result ∙ c.min-workers.ensures
