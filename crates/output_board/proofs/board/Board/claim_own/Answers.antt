use Rattle.std.proofs.Common.{◌≡◌, ◌≢◌, sym, ap, ◌∙◌, refl, length, inl, inr, arith, rules}
use Rattle.output_board.proofs.HoldFacts.{among, fits_value, count_moves, cur_seen}
use Rattle.output_board.proofs.EmitterKept.{learns_nothing, count_is, cur_within}
use Rattle.output_board.proofs.EmitterSegment.{may_claim_own, none_taken, claims_own}
use Rattle.output_board.proofs.board.Board.claim_own.Goals as goal

pub step-requires-clause-can : goal.step-requires-clause-can
step-requires-clause-can g c =
    let found = c.value-core.ensures.value ∙ c.hold-held.ensures.found in
    let view = c.hold-held.ensures.knows.view in
    let role = ap (λ v. v.role) view ∙ c.seat.invariant.role in
    let free = ap (λ s. s.view.owns) c.seat.view_is ∙ c.requires.free in
    let going = ap (λ s. s.view.stopped) c.seat.view_is ∙ c.requires.going in
    let k = among g.C.Content.bytes g.C.Content.outcomes _ _ _ _ _ found view c.hold-held.ensures.fits in
    let same : c.value-core.result.now.next ≡ c.value-core.result.now.cur =
    sym c.look-seen.ensures.2.next ∙ (c.if-seen.false ∙ c.look-seen.ensures.2.cur) in
    let more : c.value-core.result.now.cur ≢ length c.value-core.result.now.segments = λ e.
    c.if-seen-count.false (c.look-seen.ensures.2.cur ∙ (e ∙ sym c.count.ensures)) in
    may_claim_own g.C.Content.bytes g.C.Content.outcomes _ _ _ _ k.fitted k.at _ role free
    going same more

pub release-requires-clause-keeps : goal.release-requires-clause-keeps
release-requires-clause-keeps g c κs within =
    let found = c.value-core.ensures.value ∙ c.hold-held.ensures.found in
    let view = c.hold-held.ensures.knows.view in
    let role = ap (λ v. v.role) view ∙ c.seat.invariant.role in
    λ views h at.
    learns_nothing g.C.Content.bytes g.C.Content.outcomes _ views _ _ (fits_value g.C.Content.bytes
    g.C.Content.outcomes _ _ views found h) at
    _ role c.look-seen.result c.hold-held.result.found.value

pub release-requires-then-seen-count-clause-keeps :
    goal.release-requires-then-seen-count-clause-keeps
release-requires-then-seen-count-clause-keeps g c κs within =
    let found = c.value-core.ensures.value ∙ c.hold-held.ensures.found in
    let view = c.hold-held.ensures.knows.view in
    let role = ap (λ v. v.role) view ∙ c.seat.invariant.role in
    λ views h at.
    learns_nothing g.C.Content.bytes g.C.Content.outcomes _ views _ _ (fits_value g.C.Content.bytes
    g.C.Content.outcomes _ _ views found h) at
    _ role c.look-seen.result c.hold-held.result.found.value

pub release-requires-2-clause-keeps : goal.release-requires-2-clause-keeps
release-requires-2-clause-keeps g c κs within =
    let found = c.value-core.ensures.value ∙ c.hold-held.ensures.found in
    let view = c.hold-held.ensures.knows.view in
    let role = ap (λ v. v.role) view ∙ c.seat.invariant.role in
    λ views h at.
    claims_own g.C.Content.bytes g.C.Content.outcomes _ views _ _ (fits_value g.C.Content.bytes
    g.C.Content.outcomes _ _ views found h) at
    _ role c.step.new.self c.look-seen.result c.hold-held.result.found.value
    c.step.ensures.step

pub returns-then-seen-clause-answer : goal.returns-then-seen-clause-answer
returns-then-seen-clause-answer g c =
    let found = c.value-core.ensures.value ∙ c.hold-held.ensures.found in
    let view = c.hold-held.ensures.knows.view in
    let role = ap (λ v. v.role) view ∙ c.seat.invariant.role in
    let k = among g.C.Content.bytes g.C.Content.outcomes _ _ _ _ _ found view c.hold-held.ensures.fits in
    rw (← c.seat.view_is) (
      search rules,
      c.look-seen.result,
      (
        record { last = search rules; view = search rules; claims = search rules },
        cur_seen g.C.Content.bytes g.C.Content.outcomes _ _ _ k c.look-seen.result _ role c.look-seen.ensures,
      ),
      inl c.if-seen.true,
    )

pub returns-then-seen-count-clause-answer : goal.returns-then-seen-count-clause-answer
returns-then-seen-count-clause-answer g c =
    let found = c.value-core.ensures.value ∙ c.hold-held.ensures.found in
    let view = c.hold-held.ensures.knows.view in
    let role = ap (λ v. v.role) view ∙ c.seat.invariant.role in
    let k = among g.C.Content.bytes g.C.Content.outcomes _ _ _ _ _ found view c.hold-held.ensures.fits in
    let count = sym (count_moves g.C.Content.bytes g.C.Content.outcomes _ _ view) ∙ count_is
    g.C.Content.bytes g.C.Content.outcomes _ _ _ _ k.fitted k.at _ role in
    rw (← c.seat.view_is) (
      search rules,
      c.look-seen.result,
      (
        record { last = search rules; view = search rules; claims = search rules },
        cur_seen g.C.Content.bytes g.C.Content.outcomes _ _ _ k c.look-seen.result _ role c.look-seen.ensures,
      ),
      inr (c.if-seen-count.true ∙ (c.count.ensures ∙ sym count)),
    )

pub returns-clause-answer : goal.returns-clause-answer
returns-clause-answer g c =
    let found = c.value-core.ensures.value ∙ c.hold-held.ensures.found in
    let view = c.hold-held.ensures.knows.view in
    let role = ap (λ v. v.role) view ∙ c.seat.invariant.role in
    let k = among g.C.Content.bytes g.C.Content.outcomes _ _ _ _ _ found view c.hold-held.ensures.fits in
    let same : c.value-core.result.now.next ≡ c.value-core.result.now.cur =
    sym c.look-seen.ensures.2.next ∙ (c.if-seen.false ∙ c.look-seen.ensures.2.cur) in
    let count = sym (count_moves g.C.Content.bytes g.C.Content.outcomes _ _ view) ∙ count_is
    g.C.Content.bytes g.C.Content.outcomes _ _ _ _ k.fitted k.at _ role in
    let within = cur_within g.C.Content.bytes g.C.Content.outcomes _ _ _ _ k.fitted k.at _ role in
    rw (← c.seat.view_is) (
      search rules,
      none_taken g.C.Content.bytes g.C.Content.outcomes _ _ _ _ k.fitted k.at _ role same,
      search rules,
      c.look-seen.result,
      (
        record { last = search rules; view = search rules; claims = search rules },
        cur_seen g.C.Content.bytes g.C.Content.outcomes _ _ _ k c.look-seen.result _ role c.look-seen.ensures,
      ),
      c.if-seen.false,
      (let a = c.look-seen.ensures.2.cur in let b = c.if-seen-count.false in let d = c.count.ensures in
          omega arith),
      refl,
    )
