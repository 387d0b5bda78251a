-- That the emitter may claim, pass and end a segment of its own, and that it keeps the seat rule.
use Rattle.std.proofs.Common.{◌≡◌, ◌≢◌, ℕ, ◌+◌, ◌<◌, ◌≤◌, List, length, set, sym, ap, ◌∙◌, subst, refl, true, false, true≢false, Some, None, arith}
use Rattle.std.specs.Prelude.{slice_get, MatchOption}
use mathlib.Core.Logic.{dite}
use native.Mathlib.Decide.{ℕ_discrete}
use mathlib.Core.Option.{some}
use lib.ListN.{get_elem?}
use Rattle.handover.specs.declared.outcome.Outcome.{Outcome}
use Rattle.board_core.specs.declared.actor.Actor.TheVariants.{Emitter}
use Rattle.board_core.specs.BoardStates.{BoardState, SegmentState, segment_at, Owns}
use Rattle.board_core.specs.BoardSteps.{Claim, Pass, Finish, BoardStep, CanClaim, CanPass, CanFinish, count_limit, with_owner, with_passed, with_outcome, with_claim, changed_at}
use Rattle.board_core.specs.BoardInvariants.{bytes_at}
use Rattle.board_core.proofs.SegmentsAt.{at_same, at_other, owned_within}
use Rattle.output_board.specs.declared.view.View.{View}
use Rattle.output_board.specs.declared.view.EmitterView.{EmitterView}
use Rattle.output_board.specs.declared.view.Role.TheVariants.{Emits}
use Rattle.output_board.specs.declared.seen.Seen.{Seen}
use Rattle.output_board.specs.SeatRule.{Fits, FitsEmitter}
use Rattle.output_board.specs.Releases.{after, emitter_after, finish_event, kind_of, Claims, Passes, Finishes}
use Rattle.output_board.proofs.EmitterKept.{going, cur_bytes, cur_outcome, releases, same_claims}

module _ {C : Type 0} (bytes : C → List (List ℕ)) (outcomes : C → List Outcome) (x : BoardState)
    (views : List (View C)) (id : ℕ) (v : View C) (h : Fits bytes outcomes x views)
    (at : get_elem? views id ≡ some v) (e : EmitterView) (role : v.role ≡ Emits e) where
  is : FitsEmitter x e
  is = (h.emitter id v e at role).2

  still_going : e.stopped ≡ false → x.stopped ≡ false
  still_going = going bytes outcomes x views id v h at e role

  same_length : length (bytes_at (bytes v.content.value) e.cur)
      ≡ length (bytes_at (bytes h.content) x.cur)
  same_length = cur_bytes bytes outcomes x views id v h at e role

  -- claim_own
  pub may_claim_own : e.owns ≡ false → e.stopped ≡ false → x.next ≡ x.cur
      → x.cur ≢ length x.segments → CanClaim x Emitter
  may_claim_own free go same more = record {
    going = still_going go;
    more = let a = h.board.claims in let c = h.board.within in omega arith;
    present = tt;
    idle = is.free free;
    turn = λ _. same;
  }

  pub none_taken : x.next ≡ x.cur → e.taken ≡ 0
  none_taken same =
      let fresh = (h.board.fresh x.cur (omega arith)).put in
      let order = (h.board.between x.cur).order in
      let t = is.taken in
      omega arith

  pub claims_own : (y : BoardState) (seen : Seen) (found : BoardState)
      → BoardStep x (Claim Emitter) y → Fits bytes outcomes y (set views id (after v (kind_of Claims) 0 seen found))
  claims_own y seen found step =
      let can = step.0 in
      let new = with_owner Emitter (segment_at x x.next) in
      let same : x.next ≡ x.cur = can.turn refl in
      let here : segment_at (with_claim x Emitter) x.cur ≡ new =
      subst (λ k. segment_at (with_claim x Emitter) k ≡ new) same (at_same x x.next new can.more) in
      releases bytes outcomes x views id v h at e role y (kind_of Claims) 0 seen found (Claim Emitter) refl step tt
      (let c = h.claims id v at in let m = ap (λ (b : BoardState). b.next) step.1 in omega arith) refl
      (subst (λ (z : BoardState). FitsEmitter z (emitter_after e Claims 0 seen.next)) (sym step.1) record {
        cur = is.cur;
        taken = is.taken ∙ (ap (λ k. (segment_at x k).taken) (sym same)
            ∙ sym (ap (λ (t : SegmentState). t.taken) here));
        owns = λ _. ap (λ (t : SegmentState). t.owner) here;
        free = λ o. absurd (true≢false o);
        stopped = is.stopped;
        workers = is.workers;
        capacity = is.capacity;
      })

  -- the emitter's own segment
  module _ (owns : e.owns ≡ true) where
    mine : Owns x Emitter x.cur
    mine = is.owns owns

    cur_in : x.cur < length x.segments
    cur_in = owned_within x Emitter x.cur mine

    -- all of it that was put was taken
    all_put : (segment_at x x.cur).put ≡ e.taken
    all_put = sym (h.board.emitter x.cur mine).1 ∙ sym is.taken

    pub may_pass : (n : ℕ) → e.stopped ≡ false → 1 ≤ n → CanPass x n
    may_pass n go one = record { going = still_going go; own = mine; some = one }

    pub may_finish : e.stopped ≡ false → (i : ℕ) × CanFinish x Emitter i
    may_finish go = (x.cur, record { going = still_going go; own = mine })

    pub pass_fits : (n : ℕ) → e.taken + n ≤ length (bytes_at (bytes v.content.value) e.cur)
        → (segment_at x x.cur).put + n < count_limit
    pass_fits n within =
        let s = h.short x.cur in let a = all_put in let b = same_length in omega arith

    pub passes : (y : BoardState) (n : ℕ) (seen : Seen) (found : BoardState)
        → e.taken + n ≤ length (bytes_at (bytes v.content.value) e.cur) → BoardStep x (Pass n) y
        → Fits bytes outcomes y (set views id (after v (kind_of Passes) n seen found))
    passes y n seen found within step =
        let s = with_passed n (segment_at x x.cur) in
        let here : segment_at (changed_at x x.cur (with_passed n)) x.cur ≡ s =
        at_same x x.cur s cur_in in
        releases bytes outcomes x views id v h at e role y (kind_of Passes) n seen found (Pass n) refl step
        (let a = all_put in let b = same_length in omega arith)
        (same_claims bytes outcomes x views id v h at e role y (ap (λ (b : BoardState). b.next) step.1))
        refl
        (subst (λ (z : BoardState). FitsEmitter z (emitter_after e Passes n seen.next)) (sym step.1) record {
          cur = is.cur;
          taken = ap (λ k. k + n) is.taken ∙ sym (ap (λ (t : SegmentState). t.taken) here);
          owns = λ _. ap (λ (t : SegmentState). t.owner) here ∙ mine;
          free = λ o. absurd (true≢false (sym owns ∙ o));
          stopped = is.stopped;
          workers = is.workers;
          capacity = is.capacity;
        })

    pub names_finish : (y : BoardState) (o : Outcome)
        → slice_get (outcomes v.content.value) e.cur ≡ Some o → BoardStep x (Finish Emitter o) y
        → MatchOption (finish_event Emitter (slice_get (outcomes v.content.value) e.cur))
        (y ≡ x) (λ ev. BoardStep x ev y)
    names_finish y o out step =
        subst (λ p. MatchOption (finish_event Emitter p) (y ≡ x) (λ ev. BoardStep x ev y)) (sym out) step

    pub finishes : (y : BoardState) (o : Outcome) (seen : Seen) (found : BoardState)
        → e.taken ≡ length (bytes_at (bytes v.content.value) e.cur)
        → slice_get (outcomes v.content.value) e.cur ≡ Some o → BoardStep x (Finish Emitter o) y
        → Fits bytes outcomes y (set views id (after v (kind_of Finishes) 0 seen found))
    finishes y o seen found end out step =
        let i = step.0 in
        let own = step.1.own in
        let same : i ≡ x.cur = h.board.single Emitter i x.cur own mine in
        let s = with_outcome o (segment_at x i) in
        let here : segment_at (changed_at x i (with_outcome o)) i ≡ s =
        at_same x i s (owned_within x Emitter i own) in
        releases bytes outcomes x views id v h at e role y (kind_of Finishes) 0 seen found (Finish Emitter o) refl step
        (λ j his. subst (λ k. ((segment_at x k).put ≡ length (bytes_at (bytes h.content) k))
        × (slice_get (outcomes h.content) k ≡ Some o))
        (h.board.single Emitter x.cur j mine his)
        (all_put ∙ (end ∙ same_length), sym (cur_outcome bytes outcomes x views id v h at e role) ∙ out))
        (same_claims bytes outcomes x views id v h at e role y (ap (λ (b : BoardState). b.next) step.2))
        refl
        (subst (λ (z : BoardState). FitsEmitter z (emitter_after e Finishes 0 seen.next)) (sym step.2) record {
          cur = is.cur;
          taken = is.taken ∙ sym (subst
              (λ k. (segment_at (changed_at x i (with_outcome o)) k).taken ≡ (segment_at x k).taken)
              same (ap (λ (t : SegmentState). t.taken) here));
          owns = λ o. absurd (true≢false (sym o));
          free = λ _ j his. dite {C = ⊥} (ℕ_discrete j i)
              (λ (q : j ≡ i). let n : None ≡ Some Emitter =
              sym (ap (λ (t : SegmentState). t.owner) here)
              ∙ subst (λ k. (segment_at (changed_at x i (with_outcome o)) k).owner ≡ Some Emitter)
              q his in cc)
              (λ (ne : j ≢ i). ne (h.board.single Emitter j i
              (sym (ap (λ (t : SegmentState). t.owner) (at_other x i s j ne)) ∙ his) own));
          stopped = is.stopped;
          workers = is.workers;
          capacity = is.capacity;
        })
