use Rattle.std.proofs.Common.{rules, vec_len, ◌≡◌, sym, subst, List, length, true}
use Rattle.std.specs.Prelude.{All}
use Rattle.std.proofs.lemmas.List.{with_items_is}
use Rattle.output_board.specs.declared.view.WorkerView.{WorkerView}
use Rattle.segment_worker.specs.Contents.{stretch}
use Rattle.segment_crew.specs.Crews.{HasBegunItsClaims, Member}
use Rattle.segment_crew.specs.Teams.{members_of}
use Rattle.segment_crew.specs.declared.team.Worker.{Worker}
use Rattle.segment_crew.proofs.NewTeams.{begun_members, left_members}
use Rattle.segment_crew.proofs.crew.emit_beside.Goals as goal

pub returns-clause-left : goal.returns-clause-left
returns-clause-left g c =
    let v = stretch c.args.shared.now.view.now c.args.shared.now.first c.args.shared.now.count in
    let e : length c.lead_beside.new.tasks ≡ vec_len c.args.team.now = search rules in
    subst (λ (workers : List Worker). All (λ (member : Member WorkerView). member.view.left ≡ true) (members_of workers))
    (sym (with_items_is c.args.team.now c.lead_beside.new.tasks e))
    (left_members c.args.shared.now.board.now v c.lead_beside.new.tasks c.lead_beside.ensures.tasks)

pub returns-clause-team : goal.returns-clause-team
returns-clause-team g c =
    let v = stretch c.args.shared.now.view.now c.args.shared.now.first c.args.shared.now.count in
    let e : length c.lead_beside.new.tasks ≡ vec_len c.args.team.now = search rules in
    subst (λ (workers : List Worker). All HasBegunItsClaims (members_of workers))
    (sym (with_items_is c.args.team.now c.lead_beside.new.tasks e))
    (begun_members c.args.shared.now.board.now v c.lead_beside.new.tasks c.lead_beside.ensures.tasks)
