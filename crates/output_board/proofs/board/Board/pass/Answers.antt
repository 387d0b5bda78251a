use Rattle.std.proofs.Common.{◌+◌, ◌≤◌, sym, ap, ◌∙◌, subst, length, rules}
use Rattle.board_core.specs.BoardInvariants.{bytes_at}
use Rattle.output_board.proofs.HoldFacts.{among, fits_value, within_moves, cur_seen}
use Rattle.output_board.proofs.EmitterSegment.{may_pass, pass_fits, passes}
use Rattle.output_board.proofs.board.Board.pass.Goals as goal

pub step-requires-clause-can : goal.step-requires-clause-can
step-requires-clause-can g c =
    let found = c.value-core.ensures.value ∙ c.hold-held.ensures.found in
    let view = c.hold-held.ensures.knows.view in
    let role = ap (λ v. v.role) view ∙ c.seat.invariant.role in
    let owns = ap (λ s. s.view.owns) c.seat.view_is ∙ c.requires.owns in
    let going = ap (λ s. s.view.stopped) c.seat.view_is ∙ c.requires.going in
    let k = among g.C.Content.bytes g.C.Content.outcomes _ _ _ _ _ found view c.hold-held.ensures.fits in
    may_pass g.C.Content.bytes g.C.Content.outcomes _ _ _ _ k.fitted k.at _ role owns c.args.n
    going c.requires.some

pub step-requires-clause-small : goal.step-requires-clause-small
step-requires-clause-small g c =
    let found = c.value-core.ensures.value ∙ c.hold-held.ensures.found in
    let view = c.hold-held.ensures.knows.view in
    let role = ap (λ v. v.role) view ∙ c.seat.invariant.role in
    let owns = ap (λ s. s.view.owns) c.seat.view_is ∙ c.requires.owns in
    let within_value = subst (λ s. s.view.taken + c.args.n ≤ length (bytes_at (g.C.Content.bytes s.content) s.view.cur))
    (sym c.seat.view_is) c.requires.within in
    let k = among g.C.Content.bytes g.C.Content.outcomes _ _ _ _ _ found view c.hold-held.ensures.fits in
    let bound = within_moves g.C.Content.bytes g.C.Content.outcomes _ _ _ _ view role within_value in
    pass_fits g.C.Content.bytes g.C.Content.outcomes _ _ _ _ k.fitted k.at _ role owns c.args.n
    bound

pub release-requires-clause-keeps : goal.release-requires-clause-keeps
release-requires-clause-keeps g c κs within =
    let found = c.value-core.ensures.value ∙ c.hold-held.ensures.found in
    let view = c.hold-held.ensures.knows.view in
    let role = ap (λ v. v.role) view ∙ c.seat.invariant.role in
    let owns = ap (λ s. s.view.owns) c.seat.view_is ∙ c.requires.owns in
    let within_value = subst (λ s. s.view.taken + c.args.n ≤ length (bytes_at (g.C.Content.bytes s.content) s.view.cur))
    (sym c.seat.view_is) c.requires.within in
    let bound = within_moves g.C.Content.bytes g.C.Content.outcomes _ _ _ _ view role within_value in
    λ views h at.
    passes g.C.Content.bytes g.C.Content.outcomes _ views _ _ (fits_value g.C.Content.bytes
    g.C.Content.outcomes _ _ views found h) at
    _ role owns c.step.new.self c.args.n c.look-seen.result c.hold-held.result.found.value
    bound c.step.ensures.step

pub returns-clause-told : goal.returns-clause-told
returns-clause-told g c =
    let found = c.value-core.ensures.value ∙ c.hold-held.ensures.found in
    let view = c.hold-held.ensures.knows.view in
    let role = ap (λ v. v.role) view ∙ c.seat.invariant.role in
    let k = among g.C.Content.bytes g.C.Content.outcomes _ _ _ _ _ found view c.hold-held.ensures.fits in
    rw (← c.seat.view_is) (
      search rules,
      c.look-seen.result,
      (
        record { last = search rules; view = search rules; claims = search rules },
        cur_seen g.C.Content.bytes g.C.Content.outcomes _ _ _ k c.look-seen.result _ role c.look-seen.ensures,
      ),
    )
