use Rattle.std.proofs.Common.{rules, ◌≡◌, ◌∷◌, [], ◌∙◌, sym, ap, subst, length, length-append, arith}
use Rattle.std.specs.Prelude.{All}
use Rattle.std.proofs.lemmas.List.Elements.{All-push, All-tail}
use Rattle.box_format.specs.Containers.{all_plans}
use Rattle.segment_crew.specs.Teams.{IsIdleWorker, IsNewSeat}
use Rattle.segment_crew.proofs.NewTeams.{idle_worker}
use Rattle.segment_crew.proofs.team.team_of.Goals as goal

pub loop-seat-preserved : goal.loop-seat-preserved
loop-seat-preserved c =
    let before = c.loop-seat.invariant in
    let next : c.loop-seat.seat-iterator.rest.items ≡ c.in-Some.seat ∷ c.next.new.self.rest.items =
    search rules in
    let made = c.in_ok-worker in
    record {
      team = λ table v container within new.
          let each = before.team table v container within new in
          let rest = subst (All (IsNewSeat table v)) next each.1 in (
            subst (All (IsIdleWorker table v)) (sym c.in_ok-push.ensures.items)
                (All-push (IsIdleWorker table v) c.loop-seat.team.items made.worker each.0
                (idle_worker table v c.in-Some.seat made.worker within (rest 0 c.in-Some.seat (omega arith)) made.ensures.seat (made.ensures.plans ∙ ap all_plans (sym container)) made.ensures.begun)),
            All-tail (IsNewSeat table v) c.in-Some.seat c.next.new.self.rest.items rest,
          );
      count =
          let longer = ap length c.in_ok-push.ensures.items
          ∙ length-append c.loop-seat.team.items (made.worker ∷ []) in
          let shorter = ap length next in
          let count = before.count in
          omega (arith, longer, shorter, count);
    }

pub returns-clause-idle : goal.returns-clause-idle
returns-clause-idle c = λ table v container within new. (c.loop-seat.invariant.team table v container within new).0
