use Rattle.std.proofs.Common.{ap, sym, ◌∙◌, subst, arith, length, ◌<◌, ◌+◌, length-drop}
use Rattle.std.proofs.lemmas.List.{length-map}
use Rattle.board_core.specs.BoardStates.{BoardState, SegmentState}
use Rattle.board_core.specs.CoreInside.{state_of}
use Rattle.board_core.specs.BoardSteps.{CanTake, changed_at, with_taken}
use Rattle.board_core.specs.RingBytes.{RingBytes}
use Rattle.board_core.proofs.CoreSegments.{board, keeps_core, all_at, states_set, same_owner, kept_is}
use Rattle.board_core.proofs.board.Core.take.Goals as goal

pub overflow_add-segment : goal.overflow_add-segment
overflow_add-segment c =
    let b = c.self.inside in
    let l = b.segments.items in
    let kept = c.self.invariant in
    let old = c.index_mut-segment.result.now in
    let at_index = c.index_mut-segment.ensures.value in
    let can = subst (λ (b : BoardState). CanTake b c.args.count) (sym c.self.view_is) c.requires in
    let few = length-map l state_of in
    let more = can.more in
    let lt : b.cur < length l = omega arith in
    let s = all_at b.capacity l b.cur old lt at_index kept in
    let at = ap (λ (t : SegmentState). length t.ring)
    (kept_is l b.cur old lt at_index) in
    let within = can.within in
    let waits = s.waits in
    omega arith

pub invariant_of-self : goal.invariant_of-self
invariant_of-self c =
    let b = c.self.inside in
    let l = b.segments.items in
    let kept = c.self.invariant in
    let old = c.index_mut-segment.result.now in
    let at_index = c.index_mut-segment.ensures.value in
    let can = subst (λ (b : BoardState). CanTake b c.args.count) (sym c.self.view_is) c.requires in
    let few = length-map l state_of in
    let more = can.more in
    let lt : b.cur < length l = omega arith in
    let s = all_at b.capacity l b.cur old lt at_index kept in
    let at = ap (λ (t : SegmentState). length t.ring)
    (kept_is l b.cur old lt at_index) in
    let is = ap (λ (w : RingBytes). length w.items) c.remove_front.ensures in
    let less = length-drop c.args.count old.ring.items in
    let waits = s.waits in
    let within = can.within in
    let room = s.within in
    keeps_core b.capacity l b.cur _ lt kept
    (record {
      room = ap (λ (w : RingBytes). w.capacity) c.remove_front.ensures ∙ s.room;
      within = omega arith;
      waits = omega arith;
    })
    (same_owner b.capacity l b.cur old lt at_index kept)

pub returns : goal.returns
returns c =
    let b = c.self.inside in
    let l = b.segments.items in
    let old = c.index_mut-segment.result.now in
    let at_index = c.index_mut-segment.ensures.value in
    let can = subst (λ (b : BoardState). CanTake b c.args.count) (sym c.self.view_is) c.requires in
    let few = length-map l state_of in
    let more = can.more in
    let lt : b.cur < length l = omega arith in
    let ring = λ (w : RingBytes). state_of (record {
      owner = old.owner;
      put = old.put;
      taken = old.taken + c.args.count;
      ring = w;
      done = old.done;
    }) in (
      c.requires,
      ap (board b.capacity b.next b.cur b.stopped b.left.items)
          (states_set (with_taken c.args.count) l b.cur old _ lt at_index (ap ring c.remove_front.ensures))
          ∙ ap (λ (v : BoardState). changed_at v v.cur (with_taken c.args.count)) c.self.view_is,
    )
