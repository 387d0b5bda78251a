use Rattle.std.proofs.Common.{ap, sym, ◌∙◌, subst, arith, refl}
use Rattle.board_core.specs.BoardStates.{BoardState}
use Rattle.board_core.specs.declared.actor.Actor.TheVariants.{Emitter}
use Rattle.board_core.specs.BoardSteps.{CanPass, changed_at, with_passed}
use Rattle.board_core.proofs.CoreSegments.{board, keeps_core, all_at, states_set, same_owner, kept_within}
use Rattle.board_core.proofs.board.Core.pass.Goals as goal

pub invariant_of-self : goal.invariant_of-self
invariant_of-self c =
    let b = c.self.inside in
    let l = b.segments.items in
    let kept = c.self.invariant in
    let old = c.index_mut-segment.result.now in
    let at_index = c.index_mut-segment.ensures.value in
    let can = subst (λ (b : BoardState). CanPass b c.args.count) (sym c.self.view_is) c.requires.can in
    let lt = kept_within l b.cur Emitter can.own in
    let s = all_at b.capacity l b.cur old lt at_index kept in
    let waits = s.waits in
    keeps_core b.capacity l b.cur _ lt kept
    (record { room = s.room; within = s.within; waits = omega arith })
    (same_owner b.capacity l b.cur old lt at_index kept)

pub returns : goal.returns
returns c =
    let b = c.self.inside in
    let l = b.segments.items in
    let old = c.index_mut-segment.result.now in
    let at_index = c.index_mut-segment.ensures.value in
    let can = subst (λ (b : BoardState). CanPass b c.args.count) (sym c.self.view_is) c.requires.can in
    let lt = kept_within l b.cur Emitter can.own in (
      c.requires.can,
      ap (board b.capacity b.next b.cur b.stopped b.left.items)
          (states_set (with_passed c.args.count) l b.cur old _ lt at_index refl)
          ∙ ap (λ (v : BoardState). changed_at v v.cur (with_passed c.args.count)) c.self.view_is,
    )
