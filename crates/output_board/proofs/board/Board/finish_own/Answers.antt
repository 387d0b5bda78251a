use Rattle.std.proofs.Common.{◌≡◌, sym, ap, ◌∙◌, subst, length, rules}
use Rattle.std.specs.Prelude.{slice_get}
use Rattle.board_core.specs.BoardInvariants.{bytes_at}
use Rattle.output_board.specs.Releases.{kind_of, Finishes}
use Rattle.output_board.proofs.HoldFacts.{among, fits_value, length_moves, outcome_moves, emitter_tells, cur_seen}
use Rattle.output_board.proofs.EmitterSegment.{may_finish, names_finish, finishes}
use Rattle.output_board.proofs.board.Board.finish_own.Goals as goal

pub step-requires-clause-can : goal.step-requires-clause-can
step-requires-clause-can g c =
    let found = c.value-core.ensures.value ∙ c.hold-held.ensures.found in
    let view = c.hold-held.ensures.knows.view in
    let role = ap (λ v. v.role) view ∙ c.seat.invariant.role in
    let owns = ap (λ s. s.view.owns) c.seat.view_is ∙ c.requires.owns in
    let going = ap (λ s. s.view.stopped) c.seat.view_is ∙ c.requires.going in
    let k = among g.C.Content.bytes g.C.Content.outcomes _ _ _ _ _ found view c.hold-held.ensures.fits in
    may_finish g.C.Content.bytes g.C.Content.outcomes _ _ _ _ k.fitted k.at _ role owns
    going

pub release-requires-clause-tells : goal.release-requires-clause-tells
release-requires-clause-tells g c κs within =
    let found = c.value-core.ensures.value ∙ c.hold-held.ensures.found in
    let view = c.hold-held.ensures.knows.view in
    let role = ap (λ v. v.role) view ∙ c.seat.invariant.role in
    let outcome = ap (λ s. slice_get (g.C.Content.outcomes s.content) s.view.cur) c.seat.view_is ∙ c.requires.outcome in
    let owns = ap (λ s. s.view.owns) c.seat.view_is ∙ c.requires.owns in
    let all_put = subst (λ s. s.view.taken ≡ length (bytes_at (g.C.Content.bytes s.content) s.view.cur))
    (sym c.seat.view_is) c.requires.all in
    let k = among g.C.Content.bytes g.C.Content.outcomes _ _ _ _ _ found view c.hold-held.ensures.fits in
    let all = all_put ∙ sym (length_moves g.C.Content.bytes g.C.Content.outcomes _ _ _ view role) in
    let ends = outcome_moves g.C.Content.bytes g.C.Content.outcomes _ _ _ view role ∙ outcome in
    emitter_tells g.C.Content.bytes g.C.Content.outcomes _ _ _ _ _ _ (kind_of Finishes) 0
    c.look-seen.result found k role
    c.look-seen.ensures (names_finish g.C.Content.bytes g.C.Content.outcomes _ _ _ _ k.fitted k.at _ role
    owns _ c.args.outcome ends c.step.ensures.step)

pub release-requires-clause-keeps : goal.release-requires-clause-keeps
release-requires-clause-keeps g c κs within =
    let found = c.value-core.ensures.value ∙ c.hold-held.ensures.found in
    let view = c.hold-held.ensures.knows.view in
    let role = ap (λ v. v.role) view ∙ c.seat.invariant.role in
    let outcome = ap (λ s. slice_get (g.C.Content.outcomes s.content) s.view.cur) c.seat.view_is ∙ c.requires.outcome in
    let owns = ap (λ s. s.view.owns) c.seat.view_is ∙ c.requires.owns in
    let all_put = subst (λ s. s.view.taken ≡ length (bytes_at (g.C.Content.bytes s.content) s.view.cur))
    (sym c.seat.view_is) c.requires.all in
    let all = all_put ∙ sym (length_moves g.C.Content.bytes g.C.Content.outcomes _ _ _ view role) in
    let ends = outcome_moves g.C.Content.bytes g.C.Content.outcomes _ _ _ view role ∙ outcome in
    λ views h at.
    finishes g.C.Content.bytes g.C.Content.outcomes _ views _ _ (fits_value g.C.Content.bytes
    g.C.Content.outcomes _ _ views found h) at
    _ role owns c.step.new.self c.args.outcome c.look-seen.result c.hold-held.result.found.value
    all ends c.step.ensures.step

pub returns-clause-told : goal.returns-clause-told
returns-clause-told g c =
    let found = c.value-core.ensures.value ∙ c.hold-held.ensures.found in
    let view = c.hold-held.ensures.knows.view in
    let role = ap (λ v. v.role) view ∙ c.seat.invariant.role in
    let k = among g.C.Content.bytes g.C.Content.outcomes _ _ _ _ _ found view c.hold-held.ensures.fits in
    rw (← c.seat.view_is) (
      search rules,
      c.look-seen.result,
      (
        record { last = search rules; view = search rules; claims = search rules },
        cur_seen g.C.Content.bytes g.C.Content.outcomes _ _ _ k c.look-seen.result _ role c.look-seen.ensures,
      ),
    )
