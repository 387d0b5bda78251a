-- That the emitter may take, go on and stop, and that it keeps the seat rule.
use Rattle.std.proofs.Common.{◌≡◌, ◌≢◌, ℕ, ◌+◌, ◌-◌, ◌<◌, ◌≤◌, List, [], ◌∷◌, length, take, drop, set, sym, ap, ◌∙◌, subst, refl, false, true≢false, Some, arith}
use Rattle.std.specs.Prelude.{slice_get}
use mathlib.Core.Logic.{dite}
use native.Mathlib.Decide.{ℕ_discrete}
use mathlib.Core.Option.{some}
use lib.ListN.{get_elem?}
use lib.Seq.{take-take}
use Rattle.handover.specs.declared.outcome.Outcome.{Outcome}
use Rattle.board_core.specs.declared.actor.Actor.TheVariants.{Emitter}
use Rattle.board_core.specs.BoardStates.{BoardState, SegmentState, segment_at, with_segment, IsGood}
use Rattle.board_core.specs.BoardSteps.{BoardEvent, Take, Advance, Stop, BoardStep, CanTake, CanAdvance, with_taken}
use Rattle.board_core.specs.BoardInvariants.{bytes_at}
use Rattle.board_core.specs.LawfulEvents.{MatchesLists}
use Rattle.board_core.specs.BoardFrames.{actor_of}
use Rattle.board_core.proofs.SegmentsAt.{at_same, at_other, length-range}
use Rattle.output_board.specs.declared.view.View.{View}
use Rattle.output_board.specs.declared.view.EmitterView.{EmitterView}
use Rattle.output_board.specs.declared.view.Role.TheVariants.{Emits}
use Rattle.output_board.specs.declared.seen.Seen.{Seen}
use Rattle.output_board.specs.SeatRule.{Fits, FitsEmitter}
use Rattle.output_board.specs.Releases.{after, action_of, emitter_after, claims_after, kind_of, Nothing, Takes, Advances, Stops}
use Rattle.output_board.proofs.BoardKept.{board_after, others_after, others_same, emitter_releases}

pub none_of : (xs : List ℕ) → length xs ≡ 0 → xs ≡ []
none_of [] e = refl
none_of (y ∷ ys) e = absurd (omega arith)

-- who owns a segment, where one is changed and not its owner
owner_at : (b : BoardState) (i : ℕ) (s : SegmentState) (j : ℕ) → i < length b.segments
    → s.owner ≡ (segment_at b i).owner
    → (segment_at (with_segment b i s) j).owner ≡ (segment_at b j).owner
owner_at b i s j lt e =
    dite {C = (segment_at (with_segment b i s) j).owner ≡ (segment_at b j).owner} (ℕ_discrete j i)
    (λ same. ap (λ k. (segment_at (with_segment b i s) k).owner) same
    ∙ (ap (λ (t : SegmentState). t.owner) (at_same b i s lt)
    ∙ (e ∙ ap (λ k. (segment_at b k).owner) (sym same))))
    (λ ne. ap (λ (t : SegmentState). t.owner) (at_other b i s j ne))

module _ {C : Type 0} (bytes : C → List (List ℕ)) (outcomes : C → List Outcome) (x : BoardState)
    (views : List (View C)) (id : ℕ) (v : View C) (h : Fits bytes outcomes x views)
    (at : get_elem? views id ≡ some v) (e : EmitterView) (role : v.role ≡ Emits e) where
  is : FitsEmitter x e
  is = (h.emitter id v e at role).2

  pub going : e.stopped ≡ false → x.stopped ≡ false
  going go = sym is.stopped ∙ go

  -- the segment that is emitted, in the lists of the view's content
  pub cur_bytes : length (bytes_at (bytes v.content.value) e.cur) ≡ length (bytes_at (bytes h.content) x.cur)
  cur_bytes = λ i. length (bytes_at (bytes (h.same id v at i)) (is.cur i))

  pub cur_outcome : slice_get (outcomes v.content.value) e.cur ≡ slice_get (outcomes h.content) x.cur
  cur_outcome = λ i. slice_get (outcomes (h.same id v at i)) (is.cur i)

  pub count_is : length (bytes v.content.value) ≡ length x.segments
  count_is = ap (λ (c : C). length (bytes c)) (h.same id v at) ∙ h.board.bytes

  pub cur_within : x.cur ≤ length x.segments
  cur_within = let a = h.board.claims in let c = h.board.within in omega arith

  -- nothing changes
  pub learns_nothing : (seen : Seen) (found : BoardState)
      → Fits bytes outcomes x (set views id (after v (kind_of Nothing) 0 seen found))
  learns_nothing seen found =
      emitter_releases bytes outcomes x x views id v h at e (kind_of Nothing) 0 seen found role h.board
      (others_same Emitter x) (h.claims id v at) refl is

  -- an event of the emitter that keeps how many segments are claimed
  pub releases : (y : BoardState) (kind amount : ℕ) (seen : Seen) (found : BoardState) (ev : BoardEvent)
      → actor_of ev ≡ Emitter → BoardStep x ev y
      → MatchesLists (bytes h.content) (outcomes h.content) x ev
      → claims_after v.claims (action_of kind) ≤ y.next
      → (emitter_after e (action_of kind) amount seen.next).made ≡ e.made
      → FitsEmitter y (emitter_after e (action_of kind) amount seen.next)
      → Fits bytes outcomes y (set views id (after v kind amount seen found))
  releases y kind amount seen found ev his step lists claims made mine =
      emitter_releases bytes outcomes x y views id v h at e kind amount seen found role
      (board_after bytes outcomes x y views id v h at ev step lists)
      (subst (λ a. Rattle.board_core.specs.BoardFrames.LeavesOthers a x y) his
      (others_after bytes outcomes x y views id v h at ev step)) claims made mine

  pub same_claims : (y : BoardState) → y.next ≡ x.next → v.claims ≤ y.next
  same_claims y e = let c = h.claims id v at in omega arith

  -- take
  pub more_left : x.cur ≢ length x.segments → x.cur < length x.segments
  more_left more = let a = h.board.claims in let c = h.board.within in omega arith

  pub may_take : (n : ℕ) → e.stopped ≡ false → x.cur ≢ length x.segments → 1 ≤ n
      → n ≤ length (segment_at x x.cur).ring → CanTake x n
  may_take n go more positive within =
      record { going = going go; more = more_left more; some = positive; within = within }

  pub takes : (y : BoardState) (n : ℕ) (seen : Seen) (found : BoardState) → e.owns ≡ false
      → BoardStep x (Take n) y → Fits bytes outcomes y (set views id (after v (kind_of Takes) n seen found))
  takes y n seen found free step =
      let s = with_taken n (segment_at x x.cur) in
      releases y (kind_of Takes) n seen found (Take n) refl step tt
      (same_claims y (ap (λ (b : BoardState). b.next) step.1)) refl
      (subst (λ (z : BoardState). FitsEmitter z (emitter_after e Takes n seen.next)) (sym step.1) record {
        cur = is.cur;
        taken = ap (λ k. k + n) is.taken
            ∙ sym (ap (λ (t : SegmentState). t.taken) (at_same x x.cur s step.0.more));
        owns = λ o. absurd (true≢false (sym o ∙ free));
        free = λ o i own. is.free free i (sym (owner_at x x.cur s i step.0.more refl) ∙ own);
        stopped = is.stopped;
        workers = is.workers;
        capacity = is.capacity;
      })

  pub may_advance : e.stopped ≡ false → x.cur ≢ length x.segments
      → IsGood (segment_at x x.cur).done → length (segment_at x x.cur).ring ≡ 0 → CanAdvance x
  may_advance go more good empty =
      record { going = going go; more = more_left more; good = good; empty = none_of _ empty }

  pub advances : (y : BoardState) (seen : Seen) (found : BoardState) → e.owns ≡ false
      → BoardStep x Advance y → Fits bytes outcomes y (set views id (after v (kind_of Advances) 0 seen found))
  advances y seen found free step =
      releases y (kind_of Advances) 0 seen found Advance refl step tt
      (same_claims y (ap (λ (b : BoardState). b.next) step.1)) refl
      (subst (λ (z : BoardState). FitsEmitter z (emitter_after e Advances 0 seen.next)) (sym step.1) record {
        cur = ap (λ k. k + 1) is.cur;
        taken = sym (h.board.above (x.cur + 1) (omega arith));
        owns = λ o. absurd (true≢false (sym o ∙ free));
        free = λ o. is.free free;
        stopped = is.stopped;
        workers = is.workers;
        capacity = is.capacity;
      })

  waits_is : length (segment_at x x.cur).ring ≡ (segment_at x x.cur).put - (segment_at x x.cur).taken
  waits_is =
      let s = segment_at x x.cur in
      let k = h.board.between x.cur in
      ap length k.ring ∙ length-range (bytes_at (bytes h.content) x.cur) s.taken s.put k.within

  -- the first bytes that wait are the next ones of the segment
  pub prefix_is : (n : ℕ) → n ≤ length (segment_at x x.cur).ring
      → take n (segment_at x x.cur).ring
      ≡ take n (drop e.taken (bytes_at (bytes v.content.value) e.cur))
  prefix_is n within =
      let s = segment_at x x.cur in
      let k = h.board.between x.cur in
      let long = waits_is in
      ap (take n) k.ring
      ∙ (take-take n (s.put - s.taken) (drop s.taken (bytes_at (bytes h.content) x.cur)) (omega arith)
      ∙ (λ i. take n (drop (sym is.taken i)
      (bytes_at (bytes (sym (h.same id v at) i)) (sym is.cur i)))))

  -- the outcome found is the segment's
  pub outcome_is : (o : Outcome) → (segment_at x x.cur).done ≡ Some o
      → slice_get (outcomes v.content.value) e.cur ≡ Some o
  outcome_is o d = cur_outcome ∙ (sym (h.board.done x.cur o d).own ∙ d)

  -- all bytes of a segment that is done were taken, where none waits
  pub all_taken : (o : Outcome) → (segment_at x x.cur).done ≡ Some o
      → length (segment_at x x.cur).ring ≡ 0
      → e.taken ≡ length (bytes_at (bytes v.content.value) e.cur)
  all_taken o d empty =
      let long = waits_is in
      let all = (h.board.done x.cur o d).all in
      let order = (h.board.between x.cur).order in
      let t = is.taken in
      let c = cur_bytes in
      omega arith

  -- stop
  pub stops : (y : BoardState) (seen : Seen) (found : BoardState)
      → BoardStep x Stop y → Fits bytes outcomes y (set views id (after v (kind_of Stops) 0 seen found))
  stops y seen found step =
      releases y (kind_of Stops) 0 seen found Stop refl step tt
      (same_claims y (ap (λ (b : BoardState). b.next) step.1)) refl
      (subst (λ (z : BoardState). FitsEmitter z (emitter_after e Stops 0 seen.next)) (sym step.1) record {
        cur = is.cur;
        taken = is.taken;
        owns = is.owns;
        free = is.free;
        stopped = refl;
        workers = is.workers;
        capacity = is.capacity;
      })
