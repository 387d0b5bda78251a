use Rattle.std.proofs.Common.{ap, sym, ◌∙◌, subst, arith, length, ◌+◌, ◌≡◌, ℕ, length-append}
use Rattle.board_core.specs.BoardStates.{BoardState}
use Rattle.board_core.specs.declared.actor.Actor.TheVariants.{Worker}
use Rattle.board_core.specs.CoreInside.{state_of, kept_at}
use Rattle.board_core.specs.BoardSteps.{CanPut, changed_at, with_put}
use Rattle.board_core.specs.RingBytes.{RingBytes}
use Rattle.board_core.proofs.CoreSegments.{board, keeps_core, all_at, states_set, same_owner, kept_is}
use Rattle.board_core.proofs.board.Core.put.Goals as goal

pub invariant_of-self : goal.invariant_of-self
invariant_of-self c =
    let b = c.self.inside in
    let l = b.segments.items in
    let index = c.in-Some.index in
    let kept = c.self.invariant in
    let old = c.index_mut-segment.result.now in
    let at_index = c.index_mut-segment.ensures.value in
    let can = subst
    (λ (b : BoardState). (i : ℕ)
    × CanPut b c.args.worker (length c.args.bytes.now) i) (sym c.self.view_is) c.requires.can in
    let found = rw c.deref.ensures.value at c.in-Some.ensures in
    let s = all_at b.capacity l index old found.0 at_index kept in
    let here : index ≡ can.0 =
    kept.single (Worker c.args.worker) index can.0 found.1 can.1.own in
    let room = can.1.room in
    let at = ap (λ i. length (kept_at l i).ring) here in
    let is = ap (λ t. length t.ring)
    (kept_is l index old found.0 at_index) in
    let more = ap (λ (w : RingBytes). length w.items) c.append.ensures in
    let all = length-append old.ring.items c.args.bytes.now in
    let waits = s.waits in
    keeps_core b.capacity l index _ found.0 kept
    (record {
      room = ap (λ (w : RingBytes). w.capacity) c.append.ensures ∙ s.room;
      within = omega arith;
      waits = omega arith;
    })
    (same_owner b.capacity l index old found.0 at_index kept)

pub returns : goal.returns
returns c =
    let b = c.self.inside in
    let l = b.segments.items in
    let index = c.in-Some.index in
    let kept = c.self.invariant in
    let old = c.index_mut-segment.result.now in
    let at_index = c.index_mut-segment.ensures.value in
    let can = subst
    (λ (b : BoardState). (i : ℕ)
    × CanPut b c.args.worker (length c.args.bytes.now) i) (sym c.self.view_is) c.requires.can in
    let found = rw c.deref.ensures.value at c.in-Some.ensures in
    let here : can.0 ≡ index =
    kept.single (Worker c.args.worker) can.0 index can.1.own found.1 in
    let ring = λ (w : RingBytes). state_of (record {
      owner = old.owner;
      put = old.put + length c.args.bytes.now;
      taken = old.taken;
      ring = w;
      done = old.done;
    }) in (
      index,
      subst (CanPut c.args.self.now c.args.worker (length c.args.bytes.now)) here (c.requires.can.1),
      ap (board b.capacity b.next b.cur b.stopped b.left.items)
          (states_set (with_put c.args.bytes.now) l index old _ found.0 at_index (ap ring c.append.ensures))
          ∙ ap (λ (v : BoardState). changed_at v index (with_put c.args.bytes.now)) c.self.view_is,
    )
