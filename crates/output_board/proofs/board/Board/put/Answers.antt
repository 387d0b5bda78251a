use Rattle.std.proofs.Common.{◌≤◌, sym, ap, ◌∙◌, subst, refl, length, inl, arith}
use Rattle.output_board.specs.Answers.{HasNext}
use Rattle.output_board.specs.Releases.{kind_of, Nothing, FindsOver, Puts}
use Rattle.output_board.proofs.HoldFacts.{among, fits_value, next_moves, worker_sees, worker_tells}
use Rattle.output_board.proofs.WorkerKept.{knows_over, learns_nothing}
use Rattle.output_board.proofs.WorkerSegment.{put_fits, may_put, names_put, puts}
use Rattle.output_board.proofs.board.Board.put.Goals as goal

pub release-requires-clause-tells : goal.release-requires-clause-tells
release-requires-clause-tells g c κs within =
    let found = c.value-core.ensures.value ∙ c.hold-held.ensures.found in
    let view = c.hold-held.ensures.knows.view in
    let role = ap (λ v. v.role) view ∙ c.seat.invariant.role in
    let k = among g.C.Content.bytes g.C.Content.outcomes _ _ _ _ _ found view c.hold-held.ensures.fits in
    worker_tells g.C.Content.bytes g.C.Content.outcomes _ _ _ _ _ _ _ (kind_of FindsOver) 0
    c.look-seen.result found k role
    c.seat.invariant.number_is c.look-seen.ensures refl

pub release-requires-then-n-eq0-clause-tells : goal.release-requires-then-n-eq0-clause-tells
release-requires-then-n-eq0-clause-tells g c κs within =
    let found = c.value-core.ensures.value ∙ c.hold-held.ensures.found in
    let view = c.hold-held.ensures.knows.view in
    let role = ap (λ v. v.role) view ∙ c.seat.invariant.role in
    let k = among g.C.Content.bytes g.C.Content.outcomes _ _ _ _ _ found view c.hold-held.ensures.fits in
    worker_tells g.C.Content.bytes g.C.Content.outcomes _ _ _ _ _ _ _ (kind_of Nothing) 0
    c.look-seen.result found k role
    c.seat.invariant.number_is c.look-seen.ensures refl

pub release-requires-2-clause-tells : goal.release-requires-2-clause-tells
release-requires-2-clause-tells g c κs within =
    let found = c.value-core.ensures.value ∙ c.hold-held.ensures.found in
    let view = c.hold-held.ensures.knows.view in
    let role = ap (λ v. v.role) view ∙ c.seat.invariant.role in
    let next_value = subst (λ s. HasNext (g.C.Content.bytes s.content) s.view c.args.bytes.now)
    (sym c.seat.view_is) c.requires.next in
    let k = among g.C.Content.bytes g.C.Content.outcomes _ _ _ _ _ found view c.hold-held.ensures.fits in
    let next = next_moves g.C.Content.bytes g.C.Content.outcomes _ _ _ _ view next_value in
    let n = c.min-n.result in
    let few : n ≤ length c.args.bytes.now = let e = c.min-n.ensures in omega arith in
    worker_tells g.C.Content.bytes g.C.Content.outcomes _ _ _ _ _ _ _ (kind_of Puts) n
    c.look-seen.result found k role
    c.seat.invariant.number_is c.look-seen.ensures (names_put g.C.Content.bytes g.C.Content.outcomes _ _ _
    _ k.fitted k.at _ role c.seat.inside.number c.seat.invariant.number_is c.args.bytes.now next _ n few
    c.step.ensures.step)

pub release-requires-clause-keeps : goal.release-requires-clause-keeps
release-requires-clause-keeps g c κs within =
    let found = c.value-core.ensures.value ∙ c.hold-held.ensures.found in
    let view = c.hold-held.ensures.knows.view in
    let role = ap (λ v. v.role) view ∙ c.seat.invariant.role in
    λ views h at.
    knows_over g.C.Content.bytes g.C.Content.outcomes _ views _ _ (fits_value g.C.Content.bytes
    g.C.Content.outcomes _ _ views found h) at
    _ role c.seat.inside.number c.seat.invariant.number_is c.look-seen.result c.hold-held.result.found.value
    (inl (sym c.look-seen.ensures.2.stopped ∙ c.if-seen.true))

pub release-requires-then-n-eq0-clause-keeps : goal.release-requires-then-n-eq0-clause-keeps
release-requires-then-n-eq0-clause-keeps g c κs within =
    let found = c.value-core.ensures.value ∙ c.hold-held.ensures.found in
    let view = c.hold-held.ensures.knows.view in
    let role = ap (λ v. v.role) view ∙ c.seat.invariant.role in
    λ views h at.
    learns_nothing g.C.Content.bytes g.C.Content.outcomes _ views _ _ (fits_value g.C.Content.bytes
    g.C.Content.outcomes _ _ views found h) at
    _ role c.seat.inside.number c.seat.invariant.number_is c.look-seen.result c.hold-held.result.found.value

pub step-requires-clause-can : goal.step-requires-clause-can
step-requires-clause-can g c =
    let found = c.value-core.ensures.value ∙ c.hold-held.ensures.found in
    let view = c.hold-held.ensures.knows.view in
    let role = ap (λ v. v.role) view ∙ c.seat.invariant.role in
    let next_value = subst (λ s. HasNext (g.C.Content.bytes s.content) s.view c.args.bytes.now)
    (sym c.seat.view_is) c.requires.next in
    let k = among g.C.Content.bytes g.C.Content.outcomes _ _ _ _ _ found view c.hold-held.ensures.fits in
    let next = next_moves g.C.Content.bytes g.C.Content.outcomes _ _ _ _ view next_value in
    let n = c.min-n.result in
    let few : n ≤ length c.args.bytes.now = let e = c.min-n.ensures in omega arith in
    let room : n ≤ c.look-seen.result.free = let e = c.min-n.ensures in omega arith in
    may_put g.C.Content.bytes g.C.Content.outcomes _ _ _ _ k.fitted k.at _ role c.seat.inside.number
    c.seat.invariant.number_is c.args.bytes.now next n c.look-seen.result (sym
    c.look-seen.ensures.2.stopped ∙ c.if-seen.false) c.if-n-eq0.false few room (worker_sees
    g.C.Content.bytes g.C.Content.outcomes _ _ _ k c.look-seen.result _ c.seat.inside.number role
    c.seat.invariant.number_is c.look-seen.ensures)

pub step-requires-clause-small : goal.step-requires-clause-small
step-requires-clause-small g c =
    let found = c.value-core.ensures.value ∙ c.hold-held.ensures.found in
    let view = c.hold-held.ensures.knows.view in
    let role = ap (λ v. v.role) view ∙ c.seat.invariant.role in
    let next_value = subst (λ s. HasNext (g.C.Content.bytes s.content) s.view c.args.bytes.now)
    (sym c.seat.view_is) c.requires.next in
    let k = among g.C.Content.bytes g.C.Content.outcomes _ _ _ _ _ found view c.hold-held.ensures.fits in
    let next = next_moves g.C.Content.bytes g.C.Content.outcomes _ _ _ _ view next_value in
    put_fits g.C.Content.bytes g.C.Content.outcomes _ _ _ _ k.fitted k.at _ role c.seat.inside.number
    c.seat.invariant.number_is c.args.bytes.now next c.min-n.result

pub release-requires-2-clause-keeps : goal.release-requires-2-clause-keeps
release-requires-2-clause-keeps g c κs within =
    let found = c.value-core.ensures.value ∙ c.hold-held.ensures.found in
    let view = c.hold-held.ensures.knows.view in
    let role = ap (λ v. v.role) view ∙ c.seat.invariant.role in
    let next_value = subst (λ s. HasNext (g.C.Content.bytes s.content) s.view c.args.bytes.now)
    (sym c.seat.view_is) c.requires.next in
    let next = next_moves g.C.Content.bytes g.C.Content.outcomes _ _ _ _ view next_value in
    let n = c.min-n.result in
    let few : n ≤ length c.args.bytes.now = let e = c.min-n.ensures in omega arith in
    λ views h at.
    puts g.C.Content.bytes g.C.Content.outcomes _ views _ _ (fits_value g.C.Content.bytes
    g.C.Content.outcomes _ _ views found h) at
    _ role c.seat.inside.number c.seat.invariant.number_is c.args.bytes.now next c.step.new.self n few
    c.step.ensures.step
    c.look-seen.result c.hold-held.result.found.value
