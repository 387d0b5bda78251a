use Rattle.std.proofs.Common.{sym, ap, ◌∙◌, subst, refl, inl}
use Rattle.output_board.specs.Answers.{IsAtEnd}
use Rattle.output_board.specs.Releases.{kind_of, FindsOver, Finishes}
use Rattle.output_board.proofs.HoldFacts.{among, fits_value, end_moves, worker_tells}
use Rattle.output_board.proofs.WorkerKept.{knows_over}
use Rattle.output_board.proofs.WorkerSegment.{may_finish, names_finish, finishes}
use Rattle.output_board.proofs.board.Board.finish.Goals as goal

pub release-requires-clause-tells : goal.release-requires-clause-tells
release-requires-clause-tells g c κs within =
    let found = c.value-core.ensures.value ∙ c.hold-held.ensures.found in
    let view = c.hold-held.ensures.knows.view in
    let role = ap (λ v. v.role) view ∙ c.seat.invariant.role in
    let k = among g.C.Content.bytes g.C.Content.outcomes _ _ _ _ _ found view c.hold-held.ensures.fits in
    worker_tells g.C.Content.bytes g.C.Content.outcomes _ _ _ _ _ _ _ (kind_of FindsOver) 0
    c.look-seen.result found k role
    c.seat.invariant.number_is c.look-seen.ensures refl

pub release-requires-2-clause-tells : goal.release-requires-2-clause-tells
release-requires-2-clause-tells g c κs within =
    let found = c.value-core.ensures.value ∙ c.hold-held.ensures.found in
    let view = c.hold-held.ensures.knows.view in
    let role = ap (λ v. v.role) view ∙ c.seat.invariant.role in
    let end_value = subst
    (λ s. IsAtEnd (g.C.Content.bytes s.content) (g.C.Content.outcomes s.content) s.view c.args.outcome)
    (sym c.seat.view_is) c.requires.end in
    let k = among g.C.Content.bytes g.C.Content.outcomes _ _ _ _ _ found view c.hold-held.ensures.fits in
    let end = end_moves g.C.Content.bytes g.C.Content.outcomes _ _ _ _ view end_value in
    worker_tells g.C.Content.bytes g.C.Content.outcomes _ _ _ _ _ _ _ (kind_of Finishes) 0
    c.look-seen.result found k role
    c.seat.invariant.number_is c.look-seen.ensures (names_finish g.C.Content.bytes g.C.Content.outcomes _
    _ _ _ k.fitted k.at _ role c.seat.inside.number c.seat.invariant.number_is c.args.outcome end _
    c.step.ensures.step)

pub release-requires-clause-keeps : goal.release-requires-clause-keeps
release-requires-clause-keeps g c κs within =
    let found = c.value-core.ensures.value ∙ c.hold-held.ensures.found in
    let view = c.hold-held.ensures.knows.view in
    let role = ap (λ v. v.role) view ∙ c.seat.invariant.role in
    λ views h at.
    knows_over g.C.Content.bytes g.C.Content.outcomes _ views _ _ (fits_value g.C.Content.bytes
    g.C.Content.outcomes _ _ views found h) at
    _ role c.seat.inside.number c.seat.invariant.number_is c.look-seen.result c.hold-held.result.found.value
    (inl (sym c.look-seen.ensures.2.stopped ∙ c.if-seen.true))

pub step-requires-clause-can : goal.step-requires-clause-can
step-requires-clause-can g c =
    let found = c.value-core.ensures.value ∙ c.hold-held.ensures.found in
    let view = c.hold-held.ensures.knows.view in
    let role = ap (λ v. v.role) view ∙ c.seat.invariant.role in
    let end_value = subst
    (λ s. IsAtEnd (g.C.Content.bytes s.content) (g.C.Content.outcomes s.content) s.view c.args.outcome)
    (sym c.seat.view_is) c.requires.end in
    let k = among g.C.Content.bytes g.C.Content.outcomes _ _ _ _ _ found view c.hold-held.ensures.fits in
    let end = end_moves g.C.Content.bytes g.C.Content.outcomes _ _ _ _ view end_value in
    may_finish g.C.Content.bytes g.C.Content.outcomes _ _ _ _ k.fitted k.at _ role c.seat.inside.number
    c.seat.invariant.number_is c.args.outcome end (sym c.look-seen.ensures.2.stopped ∙ c.if-seen.false)

pub release-requires-2-clause-keeps : goal.release-requires-2-clause-keeps
release-requires-2-clause-keeps g c κs within =
    let found = c.value-core.ensures.value ∙ c.hold-held.ensures.found in
    let view = c.hold-held.ensures.knows.view in
    let role = ap (λ v. v.role) view ∙ c.seat.invariant.role in
    let end_value = subst
    (λ s. IsAtEnd (g.C.Content.bytes s.content) (g.C.Content.outcomes s.content) s.view c.args.outcome)
    (sym c.seat.view_is) c.requires.end in
    let end = end_moves g.C.Content.bytes g.C.Content.outcomes _ _ _ _ view end_value in
    λ views h at.
    finishes g.C.Content.bytes g.C.Content.outcomes _ views _ _ (fits_value g.C.Content.bytes
    g.C.Content.outcomes _ _ views found h) at
    _ role c.seat.inside.number c.seat.invariant.number_is c.args.outcome end c.step.new.self c.step.ensures.step
    c.look-seen.result c.hold-held.result.found.value
