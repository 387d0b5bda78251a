-- What a hold of a seat knows of the board.
use Rattle.std.proofs.Common.{◌≡◌, ◌+◌, ◌≤◌, ℕ, Bool, true, false, Option, Some, None, List, length, take, drop, sym, ap, ◌∙◌, subst, refl}
use Rattle.std.specs.Prelude.{MatchOption, if◌then◌else◌, slice_get}
use mathlib.Core.Option.{some}
use Rattle.seat_lock.specs.TurnRule.{FitsAmong}
use Rattle.handover.specs.declared.outcome.Outcome.{Outcome}
use Rattle.board_core.specs.declared.actor.Actor.{Actor}
use Rattle.board_core.specs.declared.actor.Actor.TheVariants.{Worker, Emitter}
use Rattle.board_core.specs.BoardStates.{BoardState, Owns, OwnsNothing}
use Rattle.board_core.specs.BoardSteps.{BoardStep}
use Rattle.board_core.specs.BoardInvariants.{bytes_at}
use Rattle.output_board.specs.declared.view.View.{View}
use Rattle.output_board.specs.declared.view.EmitterView.{EmitterView}
use Rattle.output_board.specs.declared.view.WorkerView.{WorkerView}
use Rattle.output_board.specs.declared.view.Role.{Role}
use Rattle.output_board.specs.declared.view.Role.TheVariants.{Emits, Works}
use Rattle.output_board.specs.declared.seen.Seen.{Seen}
use Rattle.output_board.specs.SeatRule.{Fits, FitsWorker, FitsEmitter}
use Rattle.output_board.specs.Releases.{IsSeen, IsSeenBy, Tells, own_segment, action_of, named_event}
use Rattle.output_board.specs.Answers.{HasNext, IsAtEnd}

-- an actor owns one segment at most, or none
same_segment : (b : BoardState) (a : Actor)
    → ((i j : ℕ) → Owns b a i → Owns b a j → i ≡ j) → (p q : Option ℕ)
    → MatchOption p (OwnsNothing b a) (Owns b a) → MatchOption q (OwnsNothing b a) (Owns b a) → p ≡ q
same_segment b a single None None f g = refl
same_segment b a single None (Some j) f g = absurd (f j g)
same_segment b a single (Some i) None f g = absurd (g i f)
same_segment b a single (Some i) (Some j) f g = ap Some (single i j f g)

by_cases : (b : BoardState) (a : Actor) (p : Option ℕ) → (p ≡ None → OwnsNothing b a)
    → ((i : ℕ) → p ≡ Some i → Owns b a i) → MatchOption p (OwnsNothing b a) (Owns b a)
by_cases b a None f g = f refl
by_cases b a (Some i) f g = g i refl

by_flag : (b : BoardState) (a : Actor) (owns : Bool) (i : ℕ) → (owns ≡ true → Owns b a i)
    → (owns ≡ false → OwnsNothing b a)
    → MatchOption (if owns then Some i else None) (OwnsNothing b a) (Owns b a)
by_flag b a true i f g = f refl
by_flag b a false i f g = g refl

module _ {C : Type 0} (bytes : C → List (List ℕ)) (outcomes : C → List Outcome) where
  -- the value found fits, and so does an equal one, with an equal view
  pub among : (x was : BoardState) (id : ℕ) (u v : View C) → was ≡ x → v ≡ u
      → FitsAmong (Fits bytes outcomes) x id u → FitsAmong (Fits bytes outcomes) was id v
  among x was id u v found view k = record {
    views = k.views;
    fitted = subst (λ (b : BoardState). Fits bytes outcomes b k.views) (sym found) k.fitted;
    at = k.at ∙ ap (λ (z : View C). some z) (sym view);
  }

  pub fits_value : (x was : BoardState) (views : List (View C)) → was ≡ x
      → Fits bytes outcomes x views → Fits bytes outcomes was views
  fits_value x was views found h = subst (λ (b : BoardState). Fits bytes outcomes b views) (sym found) h

  -- what is asked of a view's content holds of an equal view's
  pub next_moves : (u v : View C) (w : WorkerView) (chunk : List ℕ) → v ≡ u
      → HasNext (bytes u.content.value) w chunk → HasNext (bytes v.content.value) w chunk
  next_moves u v w chunk view f =
      subst (λ (z : View C). HasNext (bytes z.content.value) w chunk) (sym view) f

  pub end_moves : (u v : View C) (w : WorkerView) (o : Outcome) → v ≡ u
      → IsAtEnd (bytes u.content.value) (outcomes u.content.value) w o
      → IsAtEnd (bytes v.content.value) (outcomes v.content.value) w o
  end_moves u v w o view f =
      subst (λ (z : View C). IsAtEnd (bytes z.content.value) (outcomes z.content.value) w o) (sym view) f

  pub within_moves : (u v : View C) (e : EmitterView) (n : ℕ) → v ≡ u → v.role ≡ Emits e
      → e.taken + n ≤ length (bytes_at (bytes u.content.value) e.cur)
      → e.taken + n ≤ length (bytes_at (bytes v.content.value) e.cur)
  within_moves u v e n view role within =
      subst (λ (z : View C). e.taken + n ≤ length (bytes_at (bytes z.content.value) e.cur)) (sym view) within

  pub length_moves : (u v : View C) (e : EmitterView) → v ≡ u → v.role ≡ Emits e
      → length (bytes_at (bytes v.content.value) e.cur) ≡ length (bytes_at (bytes u.content.value) e.cur)
  length_moves u v e view role = ap (λ (z : View C). length (bytes_at (bytes z.content.value) e.cur)) view

  pub outcome_moves : (u v : View C) (e : EmitterView) → v ≡ u → v.role ≡ Emits e
      → slice_get (outcomes v.content.value) e.cur ≡ slice_get (outcomes u.content.value) e.cur
  outcome_moves u v e view role = ap (λ (z : View C). slice_get (outcomes z.content.value) e.cur) view

  pub count_moves : (u v : View C) → v ≡ u
      → length (bytes v.content.value) ≡ length (bytes u.content.value)
  count_moves u v view = ap (λ (z : View C). length (bytes z.content.value)) view

  pub next_bytes_move : (u v : View C) (e : EmitterView) (n : ℕ) → v ≡ u → v.role ≡ Emits e
      → take n (drop e.taken (bytes_at (bytes v.content.value) e.cur))
      ≡ take n (drop e.taken (bytes_at (bytes u.content.value) e.cur))
  next_bytes_move u v e n view role =
      ap (λ (z : View C). take n (drop e.taken (bytes_at (bytes z.content.value) e.cur))) view

  -- what a release says, of the board that was found
  told_by : (x was y : BoardState) (v : View C) (kind amount : ℕ) (seen : Seen) (r : Role)
      → was ≡ x → v.role ≡ r → IsSeen (own_segment v.role) seen was
      → MatchOption (named_event (bytes v.content.value) (outcomes v.content.value) r (action_of kind) amount)
      (y ≡ was) (λ e. BoardStep was e y)
      → Tells bytes outcomes v kind amount seen x y
  told_by x was y v kind amount seen r found role sees leaves =
      subst (λ (b : BoardState). Tells bytes outcomes v kind amount seen b y) found (record {
        sees = sees;
        leaves = subst (λ (q : Role). MatchOption
            (named_event (bytes v.content.value) (outcomes v.content.value) q (action_of kind) amount)
            (y ≡ was) (λ e. BoardStep was e y)) (sym role) leaves;
      })

  -- of what an actor sees, the own segment is the one that its view names
  module _ (x : BoardState) (id : ℕ) (v : View C) (k : FitsAmong (Fits bytes outcomes) x id v)
      (seen : Seen) where
    pub worker_sees : (w : WorkerView) (number : ℕ) → v.role ≡ Works w → w.number ≡ number
        → IsSeenBy (Worker number) seen x → IsSeen (own_segment v.role) seen x
    worker_sees w number role n s =
        let h = k.fitted in
        let is : FitsWorker x w = (h.workers id v w k.at role).1 in
        let a = Worker number in
        let mine : MatchOption w.segment (OwnsNothing x a) (Owns x a) =
        by_cases x a w.segment (λ e. subst (λ k. OwnsNothing x (Worker k)) n (is.free e))
        (λ i e. subst (λ k. Owns x (Worker k) i) n (is.own i e).0) in
        subst (λ p. IsSeen p seen x)
        (same_segment x a (h.board.single a) s.0 w.segment s.1 mine ∙ sym (ap own_segment role)) s.2

    pub emitter_sees : (e : EmitterView) → v.role ≡ Emits e → IsSeenBy Emitter seen x
        → IsSeen (own_segment v.role) seen x
    emitter_sees e role s =
        let h = k.fitted in
        let is : FitsEmitter x e = (h.emitter id v e k.at role).2 in
        let mine : MatchOption (own_segment (Emits e)) (OwnsNothing x Emitter) (Owns x Emitter) =
        by_flag x Emitter e.owns e.cur
        (λ o. subst (λ i. Owns x Emitter i) (sym is.cur) (is.owns o)) is.free in
        subst (λ p. IsSeen p seen x)
        (same_segment x Emitter (h.board.single Emitter) s.0 (own_segment (Emits e)) s.1 mine
        ∙ sym (ap own_segment role)) s.2

    -- the segment of the emitter's view is the one that is emitted
    pub cur_seen : (e : EmitterView) → v.role ≡ Emits e → IsSeenBy Emitter seen x → seen.cur ≡ e.cur
    cur_seen e role s = s.2.cur ∙ sym (k.fitted.emitter id v e k.at role).2.cur

  -- what a seat's release says, by the event that kind and amount name
  pub worker_tells : (x was y : BoardState) (id : ℕ) (v : View C) (w : WorkerView)
      (number kind amount : ℕ) (seen : Seen)
      → was ≡ x → FitsAmong (Fits bytes outcomes) was id v → v.role ≡ Works w → w.number ≡ number
      → IsSeenBy (Worker number) seen was
      → MatchOption (named_event (bytes v.content.value) (outcomes v.content.value) (Works w) (action_of kind) amount)
      (y ≡ was) (λ e. BoardStep was e y)
      → Tells bytes outcomes v kind amount seen x y
  worker_tells x was y id v w number kind amount seen found k role n s leaves =
      told_by x was y v kind amount seen (Works w) found role (worker_sees was id v k seen w number role n s)
      leaves

  pub emitter_tells : (x was y : BoardState) (id : ℕ) (v : View C) (e : EmitterView)
      (kind amount : ℕ) (seen : Seen)
      → was ≡ x → FitsAmong (Fits bytes outcomes) was id v → v.role ≡ Emits e
      → IsSeenBy Emitter seen was
      → MatchOption (named_event (bytes v.content.value) (outcomes v.content.value) (Emits e) (action_of kind) amount)
      (y ≡ was) (λ ev. BoardStep was ev y)
      → Tells bytes outcomes v kind amount seen x y
  emitter_tells x was y id v e kind amount seen found k role s leaves =
      told_by x was y v kind amount seen (Emits e) found role (emitter_sees was id v k seen e role s) leaves
