-- That a worker may put bytes and end its segment, and that it keeps the seat rule.
use Rattle.std.proofs.Common.{◌≡◌, ◌≢◌, ℕ, ◌+◌, ◌-◌, ◌<◌, ◌≤◌, List, length, take, drop, set, sym, ap, ◌∙◌, subst, refl, ⊎_elim, true, false, true≢false, Some, None, arith, length-take, length-drop}
use Rattle.std.specs.Prelude.{slice_get, MatchOption}
use mathlib.Core.Logic.{dite}
use native.Mathlib.Decide.{ℕ_discrete}
use mathlib.Core.Option.{some}
use lib.ListN.{get_elem?}
use lib.Seq.{take-take, length-take-le}
use Rattle.handover.specs.declared.outcome.Outcome.{Outcome}
use Rattle.board_core.specs.declared.actor.Actor.TheVariants.{Worker}
use Rattle.board_core.specs.BoardStates.{BoardState, SegmentState, segment_at, Owns, OwnsNothing}
use Rattle.board_core.specs.BoardSteps.{Put, Finish, BoardStep, CountsFit, CanPut, CanFinish, count_limit, with_put, with_outcome}
use Rattle.board_core.specs.BoardInvariants.{bytes_at}
use Rattle.board_core.proofs.SegmentsAt.{at_same, at_other, owned_within}
use Rattle.board_core.proofs.StepFrames.{worker_frame}
use Rattle.output_board.specs.declared.view.View.{View}
use Rattle.output_board.specs.declared.view.WorkerView.{WorkerView}
use Rattle.output_board.specs.declared.view.Role.TheVariants.{Works}
use Rattle.output_board.specs.declared.seen.Seen.{Seen}
use Rattle.output_board.specs.SeatRule.{Fits, FitsWorker}
use Rattle.output_board.specs.Releases.{IsSeen, after, next_bytes, finish_event, outcome_at, own_segment, room_of, kind_of, Puts, Finishes}
use Rattle.output_board.specs.Answers.{HasNext, IsAtEnd}
use Rattle.output_board.proofs.BoardKept.{board_after, others_after, worker_releases}

-- a part of the next bytes
part : (d chunk : List ℕ) (n : ℕ) → take (length chunk) d ≡ chunk → n ≤ length chunk
    → take n chunk ≡ take n d
part d chunk n e le = ap (take n) (sym e) ∙ take-take n (length chunk) d le

module _ {C : Type 0} (bytes : C → List (List ℕ)) (outcomes : C → List Outcome) (x : BoardState)
    (views : List (View C)) (id : ℕ) (v : View C) (h : Fits bytes outcomes x views)
    (at : get_elem? views id ≡ some v) (w : WorkerView) (role : v.role ≡ Works w)
    (number : ℕ) (n_is : w.number ≡ number) where
  is : FitsWorker x w
  is = (h.workers id v w at role).1

  -- an own segment: not all is over, and the same segment is found
  still_going : (i : ℕ) → Owns x (Worker w.number) i → x.stopped ≡ false → w.over ≡ true → ⊥
  still_going i own going o = ⊎_elim
      (λ (s : x.stopped ≡ true). true≢false (sym s ∙ going))
      (λ (s : (x.next ≡ length x.segments) × OwnsNothing x (Worker w.number)). s.1 i own)
      (is.over o)

  module _ (chunk : List ℕ) (f : HasNext (bytes v.content.value) w chunk) where
    mine : Owns x (Worker w.number) f.index
    mine = (is.own f.index f.segment).0

    put_is : w.put ≡ (segment_at x f.index).put
    put_is = (is.own f.index f.segment).1

    the_bytes : bytes v.content.value ≡ bytes h.content
    the_bytes = ap bytes (h.same id v at)

    abbrev due : List ℕ
    due = drop (segment_at x f.index).put (bytes_at (bytes h.content) f.index)

    chunk_is : take (length chunk) due ≡ chunk
    chunk_is =
        (λ i. take (length chunk) (drop (sym put_is i) (bytes_at (sym the_bytes i) f.index))) ∙ f.next

    the_index : (i : ℕ) → Owns x (Worker number) i → i ≡ f.index
    the_index i own = h.board.single (Worker w.number) i f.index
        (subst (λ k. Owns x (Worker k) i) (sym n_is) own) mine

    pub put_fits : (n : ℕ) → CountsFit x (Put number (take n chunk))
    put_fits n i own =
        subst (λ k. (segment_at x k).put + length (take n chunk) < count_limit) (sym (the_index i own))
        (let a = ap length chunk_is in
        let b = length-take (length chunk) due in
        let c = length-drop (segment_at x f.index).put (bytes_at (bytes h.content) f.index) in
        let d = h.short f.index in
        let e = length-take n chunk in
        let w = (h.board.between f.index).within in
        omega arith)

    pub may_put : (n : ℕ) (seen : Seen) → x.stopped ≡ false → n ≢ 0 → n ≤ length chunk
        → n ≤ seen.free → IsSeen (own_segment v.role) seen x
        → (i : ℕ) × CanPut x number (length (take n chunk)) i
    may_put n seen going more few fits sees =
        let long : length (take n chunk) ≡ n = length-take-le n chunk few in
        let own : own_segment v.role ≡ Some f.index = ap own_segment role ∙ f.segment in
        let free : seen.free ≡ x.capacity - length (segment_at x f.index).ring =
        sees.free ∙ ap (room_of x) own in
        let room = (h.board.between f.index).room in (
          f.index,
          record {
            going = going;
            own = subst (λ k. Owns x (Worker k) f.index) n_is mine;
            some = omega arith;
            room = omega arith;
          },
        )

    module _ (y : BoardState) (n : ℕ) (few : n ≤ length chunk)
        (step : BoardStep x (Put number (take n chunk)) y) where
      long : length (take n chunk) ≡ n
      long = length-take-le n chunk few

      step' : BoardStep x (Put w.number (take n chunk)) y
      step' = subst (λ k. BoardStep x (Put k (take n chunk)) y) (sym n_is) step

      pub names_put : BoardStep x (Put w.number (next_bytes (bytes v.content.value) w.segment w.put n)) y
      names_put =
          let d = drop w.put (bytes_at (bytes v.content.value) f.index) in
          subst (λ l. BoardStep x (Put w.number l) y)
          (part d chunk n f.next few
          ∙ ap (λ p. next_bytes (bytes v.content.value) p w.put n) (sym f.segment)) step'

      pub puts : (seen : Seen) (found : BoardState)
          → Fits bytes outcomes y (set views id (after v (kind_of Puts) n seen found))
      puts seen found =
          let some = take n chunk in
          let e = Put w.number some in
          let index = step'.0 in
          let can = step'.1 in
          let here : index ≡ f.index =
          h.board.single (Worker w.number) index f.index can.own mine in
          let new = with_put some (segment_at x index) in
          let at_index : segment_at y index ≡ new =
          ap (λ (b : BoardState). segment_at b index) step'.2
          ∙ at_same x index new (owned_within x (Worker w.number) index can.own) in
          let owes : take (length some) due ≡ some =
          ap (λ k. take k due) long ∙ sym (part due chunk n chunk_is few) in
          worker_releases bytes outcomes x y views id v h at w (kind_of Puts) n seen found role
          (board_after bytes outcomes x y views id v h at e step' (λ i own.
          subst (λ k. take (length some) (drop (segment_at x k).put (bytes_at (bytes h.content) k)) ≡ some)
          (sym (the_index i (subst (λ k. Owns x (Worker k) i) n_is own))) owes))
          (others_after bytes outcomes x y views id v h at e step') (worker_frame x e y w.number refl step')
          (let c = h.claims id v at in let m = ap (λ (b : BoardState). b.next) step'.2 in omega arith) refl
          record {
            own = λ i s.
                let k : f.index ≡ i = cc (f.segment) in
                subst (λ j. Owns y (Worker w.number) j × (w.put + n ≡ (segment_at y j).put)) (here ∙ k) (
                  ap (λ (t : SegmentState). t.owner) at_index ∙ can.own,
                  (λ i. put_is i + sym long i)
                      ∙ (ap (λ k. (segment_at x k).put + length some) (sym here)
                      ∙ sym (ap (λ (t : SegmentState). t.put) at_index)),
                );
            free = λ s. absurd (let k : Some f.index ≡ None = sym f.segment ∙ s in cc);
            over = λ o. absurd (still_going index can.own can.going o);
            left = ap (λ (b : BoardState). slice_get b.left w.number) step'.2 ∙ is.left;
          }

  module _ (o : Outcome) (f : IsAtEnd (bytes v.content.value) (outcomes v.content.value) w o) where
    own : Owns x (Worker w.number) f.index
    own = (is.own f.index f.segment).0

    pub may_finish : x.stopped ≡ false → (i : ℕ) × CanFinish x (Worker number) i
    may_finish going = (
      f.index,
      record {
        going = going;
        own = subst (λ k. Owns x (Worker k) f.index) n_is own;
      },
    )

    module _ (y : BoardState) (step : BoardStep x (Finish (Worker number) o) y) where
      end' : BoardStep x (Finish (Worker w.number) o) y
      end' = subst (λ k. BoardStep x (Finish (Worker k) o) y) (sym n_is) step

      pub names_finish : MatchOption
          (finish_event (Worker w.number) (outcome_at (outcomes v.content.value) w.segment))
          (y ≡ x) (λ e. BoardStep x e y)
      names_finish = subst
          (λ p. MatchOption (finish_event (Worker w.number) p) (y ≡ x) (λ e. BoardStep x e y))
          (sym f.outcome ∙ ap (outcome_at (outcomes v.content.value)) (sym f.segment)) end'

      pub finishes : (seen : Seen) (found : BoardState)
          → Fits bytes outcomes y (set views id (after v (kind_of Finishes) 0 seen found))
      finishes seen found =
          let e = Finish (Worker w.number) o in
          let i = end'.0 in
          let can = end'.1 in
          let same : i ≡ f.index = h.board.single (Worker w.number) i f.index can.own own in
          let s = with_outcome o (segment_at x i) in
          let put_is : w.put ≡ (segment_at x f.index).put = (is.own f.index f.segment).1 in
          let all : (segment_at x f.index).put ≡ length (bytes_at (bytes h.content) f.index) =
          sym put_is ∙ (f.all ∙ ap (λ c. length (bytes_at (bytes c) f.index)) (h.same id v at)) in
          let ends : slice_get (outcomes h.content) f.index ≡ Some o =
          ap (λ c. slice_get (outcomes c) f.index) (sym (h.same id v at)) ∙ f.outcome in
          let here : segment_at y i ≡ s =
          ap (λ (b : BoardState). segment_at b i) end'.2
          ∙ at_same x i s (owned_within x (Worker w.number) i can.own) in
          worker_releases bytes outcomes x y views id v h at w (kind_of Finishes) 0 seen found role
          (board_after bytes outcomes x y views id v h at e end' (λ j his.
          subst (λ k. ((segment_at x k).put ≡ length (bytes_at (bytes h.content) k))
          × (slice_get (outcomes h.content) k ≡ Some o))
          (h.board.single (Worker w.number) f.index j own his) (all, ends)))
          (others_after bytes outcomes x y views id v h at e end') (worker_frame x e y w.number refl end')
          (let c = h.claims id v at in let m = ap (λ (b : BoardState). b.next) end'.2 in omega arith) refl
          record {
            own = λ i s. absurd (cc);
            free = λ _ j his. dite {C = ⊥} (ℕ_discrete j i)
                (λ (q : j ≡ i). let n : None ≡ Some (Worker w.number) =
                sym (ap (λ (t : SegmentState). t.owner) here)
                ∙ subst (λ k. (segment_at y k).owner ≡ Some (Worker w.number)) q his in cc)
                (λ (ne : j ≢ i). ne (h.board.single (Worker w.number) j i
                (sym (ap (λ (t : SegmentState). t.owner)
                (ap (λ (b : BoardState). segment_at b j) end'.2 ∙ at_other x i s j ne)) ∙ his) can.own));
            over = λ o. absurd (still_going i can.own can.going o);
            left = ap (λ (b : BoardState). slice_get b.left w.number) end'.2 ∙ is.left;
          }
