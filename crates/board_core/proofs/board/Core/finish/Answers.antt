use Rattle.std.proofs.Common.{ap, sym, ◌∙◌, subst, refl, ◌≡◌, ℕ}
use Rattle.board_core.specs.BoardStates.{BoardState}
use Rattle.board_core.specs.BoardSteps.{CanFinish, changed_at, with_outcome}
use Rattle.board_core.proofs.CoreSegments.{board, freed, keeps_core, all_at, states_set}
use Rattle.board_core.proofs.board.Core.finish.Goals as goal

pub invariant_of-self : goal.invariant_of-self
invariant_of-self c =
    let b = c.self.inside in
    let l = b.segments.items in
    let index = c.in-Some.index in
    let kept = c.self.invariant in
    let old = c.index_mut-segment.result.now in
    let at_index = c.index_mut-segment.ensures.value in
    let found = rw c.deref.ensures.value at c.in-Some.ensures in
    let s = all_at b.capacity l index old found.0 at_index kept in
    keeps_core b.capacity l index _ found.0 kept
    (record { room = s.room; within = s.within; waits = s.waits })
    (freed l index _ refl)

pub returns : goal.returns
returns c =
    let b = c.self.inside in
    let l = b.segments.items in
    let index = c.in-Some.index in
    let kept = c.self.invariant in
    let old = c.index_mut-segment.result.now in
    let at_index = c.index_mut-segment.ensures.value in
    let can = subst
    (λ (b : BoardState). (i : ℕ)
    × CanFinish b c.args.actor i) (sym c.self.view_is) c.requires in
    let found = rw c.deref.ensures.value at c.in-Some.ensures in
    let here : can.0 ≡ index =
    kept.single c.args.actor can.0 index can.1.own found.1 in (
      index,
      subst (CanFinish c.args.self.now c.args.actor) here (c.requires.1),
      ap (board b.capacity b.next b.cur b.stopped b.left.items)
          (states_set (with_outcome c.args.outcome) l index old _ found.0 at_index refl)
          ∙ ap (λ (v : BoardState).
          changed_at v index (with_outcome c.args.outcome)) c.self.view_is,
    )
