use Rattle.std.proofs.Common.{ap, ◌∙◌}
use Rattle.output_board.proofs.HoldFacts.{among, fits_value}
use Rattle.output_board.proofs.WorkerKept.{may_leave, leaves}
use Rattle.output_board.proofs.board.Board.leave.Goals as goal

pub step-requires-clause-can : goal.step-requires-clause-can
step-requires-clause-can g c =
    let found = c.value-core.ensures.value ∙ c.hold-held.ensures.found in
    let view = c.hold-held.ensures.knows.view in
    let role = ap (λ v. v.role) view ∙ c.seat.invariant.role in
    let over = ap (λ s. s.view.over) c.seat.view_is ∙ c.requires.over in
    let here = ap (λ s. s.view.left) c.seat.view_is ∙ c.requires.here in
    let k = among g.C.Content.bytes g.C.Content.outcomes _ _ _ _ _ found view c.hold-held.ensures.fits in
    may_leave g.C.Content.bytes g.C.Content.outcomes _ _ _ _ k.fitted k.at _ role c.seat.inside.number
    c.seat.invariant.number_is over here

pub release-requires-clause-keeps : goal.release-requires-clause-keeps
release-requires-clause-keeps g c κs within =
    let found = c.value-core.ensures.value ∙ c.hold-held.ensures.found in
    let view = c.hold-held.ensures.knows.view in
    let role = ap (λ v. v.role) view ∙ c.seat.invariant.role in
    let here = ap (λ s. s.view.left) c.seat.view_is ∙ c.requires.here in
    λ views h at.
    leaves g.C.Content.bytes g.C.Content.outcomes _ views _ _ (fits_value g.C.Content.bytes
    g.C.Content.outcomes _ _ views found h) at
    _ role c.seat.inside.number c.seat.invariant.number_is c.step.new.self c.look-seen.result
    c.hold-held.result.found.value
    here c.step.ensures.step
