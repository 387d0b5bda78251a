use Rattle.std.proofs.Common.{ap, sym, ◌∙◌, set, true, refl}
use Rattle.board_core.specs.BoardStates.{BoardState}
use Rattle.board_core.specs.BoardSteps.{with_leave}
use Rattle.board_core.proofs.CoreSegments.{board, freed, keeps_core, all_at, leave_none, leave_one}
use Rattle.board_core.proofs.board.Core.leave.Goals.{in-Some, in-None}
use Rattle.board_core.proofs.board.Core.leave.Goals as goal

pub invariant_of-self : goal.invariant_of-self
invariant_of-self c =
    let b = c.self.inside in
    let l = b.segments.items in
    let kept = c.self.invariant in
    elim c.match-index_of.branch [
      | in-Some w ↦
          let found = rw c.deref.ensures.value at w.in-Some.ensures in
          let old = w.index_mut.result.now in
          let s = all_at b.capacity l w.in-Some.index old found.0 w.index_mut.ensures.value kept in
          rw w.self-inside-is
          (keeps_core b.capacity l w.in-Some.index _ found.0 kept
          (record { room = s.room; within = s.within; waits = s.waits })
          (freed l w.in-Some.index _ refl))
      | in-None w ↦ rw w.self-inside-is c.self.invariant
    ]

pub returns : goal.returns
returns c =
    let b = c.self.inside in
    let l = b.segments.items in
    let left = set b.left.items c.args.worker true in (
      c.requires,
      elim c.match-index_of.branch [
        | in-Some w ↦
            let found = rw c.deref.ensures.value at w.in-Some.ensures in
            rw w.self-inside-is
            (ap (board b.capacity b.next b.cur b.stopped left)
            (sym (leave_one b.capacity c.args.worker l w.in-Some.index w.index_mut.result.now found.0
            w.index_mut.ensures.value c.self.invariant found.1)))
        | in-None w ↦
            let none = rw c.deref.ensures.value at w.in-None.ensures in
            rw w.self-inside-is
            (ap (board b.capacity b.next b.cur b.stopped left)
            (sym (leave_none c.args.worker l none)))
      ]
          ∙ ap (λ (v : BoardState). with_leave v c.args.worker) c.self.view_is,
    )
