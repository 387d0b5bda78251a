use Rattle.std.proofs.Common.{ap, ◌∙◌, rules}
use Rattle.output_board.proofs.HoldFacts.{among, fits_value, cur_seen}
use Rattle.output_board.proofs.EmitterKept.{stops}
use Rattle.output_board.proofs.board.Board.stop.Goals as goal

pub release-requires-clause-keeps : goal.release-requires-clause-keeps
release-requires-clause-keeps g c κs within =
    let found = c.value-core.ensures.value ∙ c.hold-held.ensures.found in
    let view = c.hold-held.ensures.knows.view in
    let role = ap (λ v. v.role) view ∙ c.seat.invariant.role in
    λ views h at.
    stops g.C.Content.bytes g.C.Content.outcomes _ views _ _ (fits_value g.C.Content.bytes
    g.C.Content.outcomes _ _ views found h) at
    _ role c.step.new.self c.look-seen.result c.hold-held.result.found.value c.step.ensures.step

pub returns-clause-told : goal.returns-clause-told
returns-clause-told g c =
    let found = c.value-core.ensures.value ∙ c.hold-held.ensures.found in
    let view = c.hold-held.ensures.knows.view in
    let role = ap (λ v. v.role) view ∙ c.seat.invariant.role in
    let k = among g.C.Content.bytes g.C.Content.outcomes _ _ _ _ _ found view c.hold-held.ensures.fits in
    rw (← c.seat.view_is) (
      search rules,
      c.look-seen.result,
      (
        record { last = search rules; view = search rules; claims = search rules },
        cur_seen g.C.Content.bytes g.C.Content.outcomes _ _ _ k c.look-seen.result _ role c.look-seen.ensures,
      ),
    )
