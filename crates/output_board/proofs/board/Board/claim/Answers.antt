use Rattle.std.proofs.Common.{sym, ap, ◌∙◌, refl, inl}
use Rattle.output_board.specs.Releases.{kind_of, FindsOver}
use Rattle.output_board.proofs.HoldFacts.{among, fits_value, worker_tells}
use Rattle.output_board.proofs.WorkerKept.{may_claim, none_left, knows_over, claims}
use Rattle.output_board.proofs.board.Board.claim.Goals as goal

pub release-requires-clause-tells : goal.release-requires-clause-tells
release-requires-clause-tells g c κs within =
    let found = c.value-core.ensures.value ∙ c.hold-held.ensures.found in
    let view = c.hold-held.ensures.knows.view in
    let role = ap (λ v. v.role) view ∙ c.seat.invariant.role in
    let k = among g.C.Content.bytes g.C.Content.outcomes _ _ _ _ _ found view c.hold-held.ensures.fits in
    worker_tells g.C.Content.bytes g.C.Content.outcomes _ _ _ _ _ _ _ (kind_of FindsOver) 0
    c.look-seen.result found k role
    c.seat.invariant.number_is c.look-seen.ensures refl

pub release-requires-then-seen-count-clause-tells :
    goal.release-requires-then-seen-count-clause-tells
release-requires-then-seen-count-clause-tells g c κs within =
    let found = c.value-core.ensures.value ∙ c.hold-held.ensures.found in
    let view = c.hold-held.ensures.knows.view in
    let role = ap (λ v. v.role) view ∙ c.seat.invariant.role in
    let k = among g.C.Content.bytes g.C.Content.outcomes _ _ _ _ _ found view c.hold-held.ensures.fits in
    worker_tells g.C.Content.bytes g.C.Content.outcomes _ _ _ _ _ _ _ (kind_of FindsOver) 0
    c.look-seen.result found k role
    c.seat.invariant.number_is c.look-seen.ensures refl

pub release-requires-clause-keeps : goal.release-requires-clause-keeps
release-requires-clause-keeps g c κs within =
    let found = c.value-core.ensures.value ∙ c.hold-held.ensures.found in
    let view = c.hold-held.ensures.knows.view in
    let role = ap (λ v. v.role) view ∙ c.seat.invariant.role in
    λ views h at.
    knows_over g.C.Content.bytes g.C.Content.outcomes _ views _ _ (fits_value g.C.Content.bytes
    g.C.Content.outcomes _ _ views found h) at
    _ role c.seat.inside.number c.seat.invariant.number_is c.look-seen.result c.hold-held.result.found.value
    (inl (sym c.look-seen.ensures.2.stopped ∙ c.if-seen.true))

pub release-requires-then-seen-count-clause-keeps :
    goal.release-requires-then-seen-count-clause-keeps
release-requires-then-seen-count-clause-keeps g c κs within =
    let found = c.value-core.ensures.value ∙ c.hold-held.ensures.found in
    let view = c.hold-held.ensures.knows.view in
    let role = ap (λ v. v.role) view ∙ c.seat.invariant.role in
    let free = ap (λ s. s.view.segment) c.seat.view_is ∙ c.requires.free in
    λ views h at.
    knows_over g.C.Content.bytes g.C.Content.outcomes _ views _ _ (fits_value g.C.Content.bytes
    g.C.Content.outcomes _ _ views found h) at
    _ role c.seat.inside.number c.seat.invariant.number_is c.look-seen.result c.hold-held.result.found.value
    (none_left g.C.Content.bytes g.C.Content.outcomes _ views _ _ (fits_value g.C.Content.bytes
    g.C.Content.outcomes _ _ views found h) at
    _ role c.seat.inside.number c.seat.invariant.number_is free
    (sym c.look-seen.ensures.2.next ∙ (c.if-seen-count.true ∙ c.count.ensures)))

pub step-requires-clause-can : goal.step-requires-clause-can
step-requires-clause-can g c =
    let found = c.value-core.ensures.value ∙ c.hold-held.ensures.found in
    let view = c.hold-held.ensures.knows.view in
    let role = ap (λ v. v.role) view ∙ c.seat.invariant.role in
    let free = ap (λ s. s.view.segment) c.seat.view_is ∙ c.requires.free in
    let here = ap (λ s. s.view.left) c.seat.view_is ∙ c.requires.here in
    let k = among g.C.Content.bytes g.C.Content.outcomes _ _ _ _ _ found view c.hold-held.ensures.fits in
    may_claim g.C.Content.bytes g.C.Content.outcomes _ _ _ _ k.fitted k.at _ role c.seat.inside.number
    c.seat.invariant.number_is free here (sym c.look-seen.ensures.2.stopped ∙
    c.if-seen.false) (λ e. c.if-seen-count.false (c.look-seen.ensures.2.next ∙ (e ∙ sym c.count.ensures)))

pub release-requires-2-clause-keeps : goal.release-requires-2-clause-keeps
release-requires-2-clause-keeps g c κs within =
    let found = c.value-core.ensures.value ∙ c.hold-held.ensures.found in
    let view = c.hold-held.ensures.knows.view in
    let role = ap (λ v. v.role) view ∙ c.seat.invariant.role in
    λ views h at.
    claims g.C.Content.bytes g.C.Content.outcomes _ views _ _ (fits_value g.C.Content.bytes
    g.C.Content.outcomes _ _ views found h) at
    _ role c.seat.inside.number c.seat.invariant.number_is c.step.new.self c.look-seen.result
    c.hold-held.result.found.value
    c.look-seen.ensures.2.next c.step.ensures.step
