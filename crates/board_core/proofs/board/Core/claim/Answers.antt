use Rattle.std.proofs.Common.{ap, sym, ◌∙◌, subst, arith, length, refl, ◌<◌, ◌+◌}
use Rattle.std.proofs.lemmas.List.{length-map}
use Rattle.board_core.specs.BoardStates.{BoardState}
use Rattle.board_core.specs.CoreInside.{state_of}
use Rattle.board_core.specs.BoardSteps.{CanClaim, with_claim, with_owner}
use Rattle.board_core.proofs.CoreSegments.{same_claims, keeps_core, all_at, states_set}
use Rattle.board_core.proofs.board.Core.claim.Goals as goal

pub invariant_of-self : goal.invariant_of-self
invariant_of-self c =
    let b = c.self.inside in
    let l = b.segments.items in
    let kept = c.self.invariant in
    let old = c.index_mut.result.now in
    let at_index = c.index_mut.ensures.value in
    let can = subst (λ (b : BoardState). CanClaim b c.args.actor) (sym c.self.view_is) c.requires in
    let few = length-map l state_of in
    let more = can.more in
    let lt : b.next < length l = omega arith in
    let s = all_at b.capacity l b.next old lt at_index kept in
    keeps_core b.capacity l b.next _ lt kept
    (record { room = s.room; within = s.within; waits = s.waits })
    (λ a j mine other. absurd (can.idle j (other ∙ sym mine)))

pub returns : goal.returns
returns c =
    let b = c.self.inside in
    let l = b.segments.items in
    let old = c.index_mut.result.now in
    let at_index = c.index_mut.ensures.value in
    let can = subst (λ (b : BoardState). CanClaim b c.args.actor) (sym c.self.view_is) c.requires in
    let few = length-map l state_of in
    let more = can.more in
    let lt : b.next < length l = omega arith in (
      c.requires,
      same_claims b.capacity b.cur b.stopped b.left.items _ (b.next + 1) _ _ (omega arith)
          (states_set (with_owner c.args.actor) l b.next old _ lt at_index refl)
          ∙ ap (λ (v : BoardState). with_claim v c.args.actor) c.self.view_is,
    )
