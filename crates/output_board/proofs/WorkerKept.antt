-- That a worker may claim and leave, and that it keeps the seat rule.
use Rattle.std.proofs.Common.{◌≡◌, ◌≢◌, ℕ, ◌+◌, List, length, set, sym, ap, ◌∙◌, subst, refl, ⊎_elim, inl, inr, true, false, true≢false, Some, None, arith}
use Rattle.std.specs.Prelude.{slice_get}
use mathlib.Core.Option.{some}
use lib.ListN.{get_elem?}
use Rattle.handover.specs.declared.outcome.Outcome.{Outcome}
use Rattle.board_core.specs.declared.actor.Actor.TheVariants.{Worker}
use Rattle.board_core.specs.BoardStates.{BoardState, SegmentState, segment_at, Owns, OwnsNothing}
use Rattle.board_core.specs.BoardSteps.{Claim, Leave, BoardStep, CanClaim, CanLeave, with_owner}
use Rattle.board_core.proofs.SegmentsAt.{at_same, get_set_some, at_left, owner_still}
use Rattle.board_core.proofs.StepFrames.{worker_frame}
use Rattle.output_board.specs.declared.view.View.{View}
use Rattle.output_board.specs.declared.view.WorkerView.{WorkerView}
use Rattle.output_board.specs.declared.view.Role.TheVariants.{Works}
use Rattle.output_board.specs.declared.seen.Seen.{Seen}
use Rattle.output_board.specs.SeatRule.{Fits, FitsWorker, IsOverFor}
use Rattle.output_board.specs.Releases.{after, kind_of, Nothing, FindsOver, Claims, Leaves}
use Rattle.output_board.proofs.BoardKept.{board_after, others_after, others_same, emitted_same, worker_releases}

module _ {C : Type 0} (bytes : C → List (List ℕ)) (outcomes : C → List Outcome) (x : BoardState)
    (views : List (View C)) (id : ℕ) (v : View C) (h : Fits bytes outcomes x views)
    (at : get_elem? views id ≡ some v) (w : WorkerView) (role : v.role ≡ Works w)
    (number : ℕ) (n_is : w.number ≡ number) where
  is : FitsWorker x w
  is = (h.workers id v w at role).1

  -- nothing changes but that the worker knows that all is over
  pub knows_over : (seen : Seen) (found : BoardState) → IsOverFor x w.number
      → Fits bytes outcomes x (set views id (after v (kind_of FindsOver) 0 seen found))
  knows_over seen found over =
      worker_releases bytes outcomes x x views id v h at w (kind_of FindsOver) 0 seen found role h.board
      (others_same (Worker w.number) x) (emitted_same x) (h.claims id v at) refl
      record { own = is.own; free = is.free; over = λ _. over; left = is.left }

  -- nothing changes
  pub learns_nothing : (seen : Seen) (found : BoardState)
      → Fits bytes outcomes x (set views id (after v (kind_of Nothing) 0 seen found))
  learns_nothing seen found =
      worker_releases bytes outcomes x x views id v h at w (kind_of Nothing) 0 seen found role h.board
      (others_same (Worker w.number) x) (emitted_same x) (h.claims id v at) refl is

  -- claim
  pub may_claim : w.segment ≡ None → w.left ≡ false → x.stopped ≡ false
      → x.next ≢ length x.segments → CanClaim x (Worker number)
  may_claim free here going more = record {
    going = going;
    more = let l = h.board.within in omega arith;
    present = ap (slice_get x.left) (sym n_is) ∙ (is.left ∙ ap Some here);
    idle = subst (λ k. OwnsNothing x (Worker k)) n_is (is.free free);
    turn = λ e. absurd (cc);
  }

  pub none_left : w.segment ≡ None → x.next ≡ length x.segments → IsOverFor x w.number
  none_left free all = inr (all, is.free free)

  pub claims : (y : BoardState) (seen : Seen) (found : BoardState) → seen.next ≡ x.next
      → BoardStep x (Claim (Worker number)) y
      → Fits bytes outcomes y (set views id (after v (kind_of Claims) 0 seen found))
  claims y seen found sees step =
      let e = Claim (Worker w.number) in
      let step' : BoardStep x e y = subst (λ k. BoardStep x (Claim (Worker k)) y) (sym n_is) step in
      let fresh = h.board.fresh x.next (omega arith) in
      let can = step'.0 in
      let new = with_owner (Worker w.number) (segment_at x x.next) in
      let mine : segment_at y x.next ≡ new =
      ap (λ (b : BoardState). segment_at b x.next) step'.1 ∙ at_same x x.next new can.more in
      let next : y.next ≡ x.next + 1 = ap (λ (b : BoardState). b.next) step'.1 in
      worker_releases bytes outcomes x y views id v h at w (kind_of Claims) 0 seen found role
      (board_after bytes outcomes x y views id v h at e step' tt)
      (others_after bytes outcomes x y views id v h at e step') (worker_frame x e y w.number refl step')
      (let c = h.claims id v at in omega arith) refl
      record {
        own = λ i s.
            let k : seen.next ≡ i = cc in
            subst (λ j. Owns y (Worker w.number) j × (0 ≡ (segment_at y j).put)) (sym sees ∙ k) (
              ap (λ (s : SegmentState). s.owner) mine,
              sym (ap (λ (s : SegmentState). s.put) mine ∙ fresh.put),
            );
        free = λ s. absurd (cc);
        over = λ o. ⊎_elim (λ (s : x.stopped ≡ true). absurd (true≢false (sym s ∙ can.going)))
            (λ (s : (x.next ≡ length x.segments) × OwnsNothing x (Worker w.number)).
            absurd (let m = can.more in let q = s.0 in omega arith)) (is.over o);
        left = ap (λ (b : BoardState). slice_get b.left w.number) step'.1 ∙ is.left;
      }

  -- leave
  pub may_leave : w.over ≡ true → w.left ≡ false → CanLeave x number
  may_leave over here = subst (λ k. CanLeave x k) n_is (record {
    present = is.left ∙ ap Some here;
    over = is.over over;
  })

  pub leaves : (y : BoardState) (seen : Seen) (found : BoardState) → w.left ≡ false
      → BoardStep x (Leave number) y
      → Fits bytes outcomes y (set views id (after v (kind_of Leaves) 0 seen found))
  leaves y seen found here step =
      let e = Leave w.number in
      let step' : BoardStep x e y = subst (λ k. BoardStep x (Leave k) y) (sym n_is) step in
      let free : OwnsNothing y (Worker w.number) = λ i own.
      (owner_still w.number (segment_at x i).owner (Worker w.number)
      (sym (ap (λ (s : SegmentState). s.owner) (at_left x w.number i))
      ∙ (ap (λ (b : BoardState). (segment_at b i).owner) (sym step'.1) ∙ own))).1 refl in
      worker_releases bytes outcomes x y views id v h at w (kind_of Leaves) 0 seen found role
      (board_after bytes outcomes x y views id v h at e step' tt)
      (others_after bytes outcomes x y views id v h at e step') (worker_frame x e y w.number refl step')
      (let c = h.claims id v at in let m = ap (λ (b : BoardState). b.next) step'.1 in omega arith) refl
      record {
        own = λ i s. absurd (cc);
        free = λ s. free;
        over = λ o. ⊎_elim
            (λ (s : x.stopped ≡ true). inl (ap (λ (b : BoardState). b.stopped) step'.1 ∙ s))
            (λ (s : (x.next ≡ length x.segments) × OwnsNothing x (Worker w.number)).
            inr (
              ap (λ (b : BoardState). b.next) step'.1 ∙ (s.0 ∙ sym
                  (others_after bytes outcomes x y views id v h at e step').size),
              free,
            ))
            (is.over o);
        left = ap (λ (b : BoardState). slice_get b.left w.number) step'.1
            ∙ get_set_some x.left w.number true (is.left ∙ ap Some here);
      }
