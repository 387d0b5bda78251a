use Rattle.std.proofs.Common.{◌≡◌, ◌≢◌, ◌≤◌, ◌++◌, sym, ap, ◌∙◌, refl, length, drop, arith, Some, rules}
use Rattle.std.specs.Prelude.{is_some}
use Rattle.board_core.specs.BoardStates.{segment_at}
use Rattle.output_board.proofs.HoldFacts.{among, fits_value, length_moves, outcome_moves, count_moves, next_bytes_move, cur_seen}
use Rattle.output_board.proofs.EmitterKept.{learns_nothing, more_left, takes, may_advance, advances, prefix_is, outcome_is, all_taken, count_is}
use Rattle.output_board.proofs.board.Board.take.Goals as goal

pub release-requires-clause-keeps : goal.release-requires-clause-keeps
release-requires-clause-keeps g c κs within =
    let found = c.value-core.ensures.value ∙ c.hold-held.ensures.found in
    let view = c.hold-held.ensures.knows.view in
    let role = ap (λ v. v.role) view ∙ c.seat.invariant.role in
    λ views h at.
    learns_nothing g.C.Content.bytes g.C.Content.outcomes _ views _ _ (fits_value g.C.Content.bytes
    g.C.Content.outcomes _ _ views found h) at
    _ role c.look-seen.result c.hold-held.result.found.value

pub release-requires-then-seen-clause-keeps : goal.release-requires-then-seen-clause-keeps
release-requires-then-seen-clause-keeps g c κs within =
    let found = c.value-core.ensures.value ∙ c.hold-held.ensures.found in
    let view = c.hold-held.ensures.knows.view in
    let role = ap (λ v. v.role) view ∙ c.seat.invariant.role in
    λ views h at.
    learns_nothing g.C.Content.bytes g.C.Content.outcomes _ views _ _ (fits_value g.C.Content.bytes
    g.C.Content.outcomes _ _ views found h) at
    _ role c.look-seen.result c.hold-held.result.found.value

pub release-requires-in-Some-Bad-clause-keeps : goal.release-requires-in-Some-Bad-clause-keeps
release-requires-in-Some-Bad-clause-keeps g c κs within =
    let found = c.value-core.ensures.value ∙ c.hold-held.ensures.found in
    let view = c.hold-held.ensures.knows.view in
    let role = ap (λ v. v.role) view ∙ c.seat.invariant.role in
    λ views h at.
    learns_nothing g.C.Content.bytes g.C.Content.outcomes _ views _ _ (fits_value g.C.Content.bytes
    g.C.Content.outcomes _ _ views found h) at
    _ role c.look-seen.result c.hold-held.result.found.value

pub release-requires-in-None-clause-keeps : goal.release-requires-in-None-clause-keeps
release-requires-in-None-clause-keeps g c κs within =
    let found = c.value-core.ensures.value ∙ c.hold-held.ensures.found in
    let view = c.hold-held.ensures.knows.view in
    let role = ap (λ v. v.role) view ∙ c.seat.invariant.role in
    λ views h at.
    learns_nothing g.C.Content.bytes g.C.Content.outcomes _ views _ _ (fits_value g.C.Content.bytes
    g.C.Content.outcomes _ _ views found h) at
    _ role c.look-seen.result c.hold-held.result.found.value

pub release-requires-then-seen-gt0-clause-keeps : goal.release-requires-then-seen-gt0-clause-keeps
release-requires-then-seen-gt0-clause-keeps g c κs within =
    let found = c.value-core.ensures.value ∙ c.hold-held.ensures.found in
    let view = c.hold-held.ensures.knows.view in
    let role = ap (λ v. v.role) view ∙ c.seat.invariant.role in
    let free = ap (λ s. s.view.owns) c.seat.view_is ∙ c.requires.free in
    λ views h at.
    takes g.C.Content.bytes g.C.Content.outcomes _ views _ _ (fits_value g.C.Content.bytes
    g.C.Content.outcomes _ _ views found h) at
    _ role c.step.new.self c.front-n.result c.look-seen.result c.hold-held.result.found.value
    free c.step.ensures.step

pub release-requires-in-Some-Good-clause-keeps : goal.release-requires-in-Some-Good-clause-keeps
release-requires-in-Some-Good-clause-keeps g c κs within =
    let found = c.value-core.ensures.value ∙ c.hold-held.ensures.found in
    let view = c.hold-held.ensures.knows.view in
    let role = ap (λ v. v.role) view ∙ c.seat.invariant.role in
    let free = ap (λ s. s.view.owns) c.seat.view_is ∙ c.requires.free in
    λ views h at.
    advances g.C.Content.bytes g.C.Content.outcomes _ views _ _ (fits_value g.C.Content.bytes
    g.C.Content.outcomes _ _ views found h) at
    _ role c.step-in-Some-Good.new.self c.look-seen.result
    c.hold-held.result.found.value free c.step-in-Some-Good.ensures.step

pub step-requires-in-Some-Good-clause-can : goal.step-requires-in-Some-Good-clause-can
step-requires-in-Some-Good-clause-can g c =
    let found = c.value-core.ensures.value ∙ c.hold-held.ensures.found in
    let view = c.hold-held.ensures.knows.view in
    let role = ap (λ v. v.role) view ∙ c.seat.invariant.role in
    let going = ap (λ s. s.view.stopped) c.seat.view_is ∙ c.requires.going in
    let k = among g.C.Content.bytes g.C.Content.outcomes _ _ _ _ _ found view c.hold-held.ensures.fits in
    let more : c.value-core.result.now.cur ≢ length c.value-core.result.now.segments = λ e.
    c.if-seen-count.false (c.look-seen.ensures.2.cur ∙ (e ∙ sym c.count.ensures)) in
    let empty : length (segment_at c.value-core.result.now c.value-core.result.now.cur).ring ≡ 0 =
    let l = c.look-seen.ensures.2.waits in let z = c.if-seen-gt0.false in omega arith in
    let done : (segment_at c.value-core.result.now c.value-core.result.now.cur).done ≡ Some _ =
    ap (λ i. (segment_at c.value-core.result.now i).done) (sym c.look-seen.ensures.2.cur) ∙ (sym
    c.in-Some-Good.ensures ∙ ap Some c.in-Some-Good.field-0-is) in
    may_advance g.C.Content.bytes g.C.Content.outcomes _ _ _ _ k.fitted k.at _ role going more
    (c.in-Some-Good.pads, done) empty

pub returns-then-seen-count-clause-answer : goal.returns-then-seen-count-clause-answer
returns-then-seen-count-clause-answer g c =
    let found = c.value-core.ensures.value ∙ c.hold-held.ensures.found in
    let view = c.hold-held.ensures.knows.view in
    let role = ap (λ v. v.role) view ∙ c.seat.invariant.role in
    let k = among g.C.Content.bytes g.C.Content.outcomes _ _ _ _ _ found view c.hold-held.ensures.fits in
    let count = sym (count_moves g.C.Content.bytes g.C.Content.outcomes _ _ view) ∙ count_is
    g.C.Content.bytes g.C.Content.outcomes _ _ _ _ k.fitted k.at _ role in
    rw (← c.seat.view_is) (
      search rules,
      refl,
      c.look-seen.result,
      (
        record { last = search rules; view = search rules; claims = search rules },
        cur_seen g.C.Content.bytes g.C.Content.outcomes _ _ _ k c.look-seen.result _ role c.look-seen.ensures,
      ),
      c.if-seen-count.true ∙ (c.count.ensures ∙ sym count),
    )

pub returns-then-seen-clause-answer : goal.returns-then-seen-clause-answer
returns-then-seen-clause-answer g c =
    let found = c.value-core.ensures.value ∙ c.hold-held.ensures.found in
    let view = c.hold-held.ensures.knows.view in
    let role = ap (λ v. v.role) view ∙ c.seat.invariant.role in
    let k = among g.C.Content.bytes g.C.Content.outcomes _ _ _ _ _ found view c.hold-held.ensures.fits in
    let count = sym (count_moves g.C.Content.bytes g.C.Content.outcomes _ _ view) ∙ count_is
    g.C.Content.bytes g.C.Content.outcomes _ _ _ _ k.fitted k.at _ role in
    let more : c.value-core.result.now.cur ≢ length c.value-core.result.now.segments = λ e.
    c.if-seen-count.false (c.look-seen.ensures.2.cur ∙ (e ∙ sym c.count.ensures)) in
    let less = more_left g.C.Content.bytes g.C.Content.outcomes _ _ _ _ k.fitted k.at _ role more in
    rw (← c.seat.view_is) (
      search rules,
      refl,
      c.look-seen.result,
      (
        record { last = search rules; view = search rules; claims = search rules },
        cur_seen g.C.Content.bytes g.C.Content.outcomes _ _ _ k c.look-seen.result _ role c.look-seen.ensures,
      ),
      c.if-seen.true,
      (let a = c.look-seen.ensures.2.cur in omega arith),
    )

pub returns-in-None-clause-answer : goal.returns-in-None-clause-answer
returns-in-None-clause-answer g c =
    let found = c.value-core.ensures.value ∙ c.hold-held.ensures.found in
    let view = c.hold-held.ensures.knows.view in
    let role = ap (λ v. v.role) view ∙ c.seat.invariant.role in
    let k = among g.C.Content.bytes g.C.Content.outcomes _ _ _ _ _ found view c.hold-held.ensures.fits in
    let order = k.fitted.board.claims in
    rw (← c.seat.view_is) (
      search rules,
      refl,
      c.look-seen.result,
      (
        record { last = search rules; view = search rules; claims = search rules },
        cur_seen g.C.Content.bytes g.C.Content.outcomes _ _ _ k c.look-seen.result _ role c.look-seen.ensures,
      ),
      (let a = c.look-seen.ensures.2.cur in let b = c.look-seen.ensures.2.next in let n = c.if-seen.false in
          omega arith),
      (let z = c.if-seen-gt0.false in omega arith),
      c.look-seen.ensures.2.done ∙ ap is_some (ap (λ i. (segment_at c.value-core.result.now i).done) (sym
          c.look-seen.ensures.2.cur) ∙ sym c.in-None.ensures),
    )

pub returns-then-seen-gt0-clause-answer : goal.returns-then-seen-gt0-clause-answer
returns-then-seen-gt0-clause-answer g c =
    let found = c.value-core.ensures.value ∙ c.hold-held.ensures.found in
    let view = c.hold-held.ensures.knows.view in
    let role = ap (λ v. v.role) view ∙ c.seat.invariant.role in
    let k = among g.C.Content.bytes g.C.Content.outcomes _ _ _ _ _ found view c.hold-held.ensures.fits in
    let count = c.front-n.ensures.count in
    let waits = c.look-seen.ensures.2.waits in
    let within : c.front-n.result ≤ length (segment_at c.value-core.result.now
    c.value-core.result.now.cur).ring = omega arith in
    rw (← c.seat.view_is) (
      search rules,
      c.front-n.ensures.copied ∙ ap (λ l. l ++ drop c.front-n.result c.args.buf.now)
          (prefix_is g.C.Content.bytes g.C.Content.outcomes _ _ _ _ k.fitted k.at _ role
          c.front-n.result within
          ∙ next_bytes_move g.C.Content.bytes g.C.Content.outcomes _ _ _ c.front-n.result view role),
      c.look-seen.result,
      (
        record { last = search rules; view = search rules; claims = search rules },
        cur_seen g.C.Content.bytes g.C.Content.outcomes _ _ _ k c.look-seen.result _ role c.look-seen.ensures,
      ),
      omega arith,
      omega arith,
    )

pub returns-in-Some-Good-clause-answer : goal.returns-in-Some-Good-clause-answer
returns-in-Some-Good-clause-answer g c =
    let found = c.value-core.ensures.value ∙ c.hold-held.ensures.found in
    let view = c.hold-held.ensures.knows.view in
    let role = ap (λ v. v.role) view ∙ c.seat.invariant.role in
    let k = among g.C.Content.bytes g.C.Content.outcomes _ _ _ _ _ found view c.hold-held.ensures.fits in
    let empty : length (segment_at c.value-core.result.now c.value-core.result.now.cur).ring ≡ 0 =
    let l = c.look-seen.ensures.2.waits in let z = c.if-seen-gt0.false in omega arith in
    let done : (segment_at c.value-core.result.now c.value-core.result.now.cur).done ≡ Some _ =
    ap (λ i. (segment_at c.value-core.result.now i).done) (sym c.look-seen.ensures.2.cur) ∙ (sym
    c.in-Some-Good.ensures ∙ ap Some c.in-Some-Good.field-0-is) in
    rw (← c.seat.view_is) (
      search rules,
      refl,
      sym (outcome_moves g.C.Content.bytes g.C.Content.outcomes _ _ _ view role) ∙ outcome_is
          g.C.Content.bytes g.C.Content.outcomes _ _ _ _ k.fitted k.at _ role _ done,
      all_taken g.C.Content.bytes g.C.Content.outcomes _ _ _ _ k.fitted k.at _ role _ done empty ∙
          length_moves g.C.Content.bytes g.C.Content.outcomes _ _ _ view role,
      c.look-seen.result,
      (
        record { last = search rules; view = search rules; claims = search rules },
        cur_seen g.C.Content.bytes g.C.Content.outcomes _ _ _ k c.look-seen.result _ role c.look-seen.ensures,
      ),
      (let z = c.if-seen-gt0.false in omega arith),
      c.look-seen.ensures.2.done ∙ ap is_some done,
    )

pub returns-in-Some-Bad-clause-answer : goal.returns-in-Some-Bad-clause-answer
returns-in-Some-Bad-clause-answer g c =
    let found = c.value-core.ensures.value ∙ c.hold-held.ensures.found in
    let view = c.hold-held.ensures.knows.view in
    let role = ap (λ v. v.role) view ∙ c.seat.invariant.role in
    let k = among g.C.Content.bytes g.C.Content.outcomes _ _ _ _ _ found view c.hold-held.ensures.fits in
    let empty : length (segment_at c.value-core.result.now c.value-core.result.now.cur).ring ≡ 0 =
    let l = c.look-seen.ensures.2.waits in let z = c.if-seen-gt0.false in omega arith in
    let done : (segment_at c.value-core.result.now c.value-core.result.now.cur).done ≡ Some _ =
    ap (λ i. (segment_at c.value-core.result.now i).done) (sym c.look-seen.ensures.2.cur) ∙ (sym
    c.in-Some-Bad.ensures ∙ ap Some c.in-Some-Bad.field-0-is) in
    rw (← c.seat.view_is) (
      search rules,
      refl,
      sym (outcome_moves g.C.Content.bytes g.C.Content.outcomes _ _ _ view role) ∙ outcome_is
          g.C.Content.bytes g.C.Content.outcomes _ _ _ _ k.fitted k.at _ role _ done,
      all_taken g.C.Content.bytes g.C.Content.outcomes _ _ _ _ k.fitted k.at _ role _ done empty ∙
          length_moves g.C.Content.bytes g.C.Content.outcomes _ _ _ view role,
      c.look-seen.result,
      (
        record { last = search rules; view = search rules; claims = search rules },
        cur_seen g.C.Content.bytes g.C.Content.outcomes _ _ _ k c.look-seen.result _ role c.look-seen.ensures,
      ),
      (let z = c.if-seen-gt0.false in omega arith),
      c.look-seen.ensures.2.done ∙ ap is_some done,
    )
