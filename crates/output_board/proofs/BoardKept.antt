-- A release keeps the seat rule, where the others are left what they own.
use Rattle.std.proofs.Common.{◌≡◌, ◌≢◌, ℕ, zero, suc, ◌+◌, ◌<◌, ◌≤◌, List, [], ◌∷◌, length, set, sym, ap, ◌∙◌, subst, refl, ⊎_elim, inl, inr, true, arith, length-set}
use mathlib.Core.Option.{some, some-ne-none}
use lib.ListN.{get_elem?}
use Rattle.atomic_table.proofs.Lists.{at_set}
use Rattle.handover.specs.declared.outcome.Outcome.{Outcome}
use Rattle.board_core.specs.declared.actor.Actor.{Actor}
use Rattle.board_core.specs.declared.actor.Actor.TheVariants.{Worker, Emitter}
use Rattle.board_core.specs.BoardStates.{BoardState, segment_at, Owns, OwnsNothing}
use Rattle.board_core.specs.BoardSteps.{BoardEvent, BoardStep}
use Rattle.board_core.specs.BoardInvariants.{BoardInvariant}
use Rattle.board_core.specs.LawfulEvents.{MatchesLists}
use Rattle.board_core.specs.BoardFrames.{LeavesOthers, LeavesEmitted, actor_of}
use Rattle.board_core.proofs.EachSegment.{is_board, from_board}
use Rattle.board_core.proofs.KeptSteps.{keeps}
use Rattle.board_core.proofs.StepFrames.{frame}
use Rattle.output_board.specs.declared.view.View.{View}
use Rattle.output_board.specs.declared.view.EmitterView.{EmitterView}
use Rattle.output_board.specs.declared.view.WorkerView.{WorkerView}
use Rattle.output_board.specs.declared.view.Role.{Role}
use Rattle.output_board.specs.declared.view.Role.TheVariants.{Emits, Works}
use Rattle.output_board.specs.declared.seen.Seen.{Seen}
use Rattle.output_board.specs.SeatRule.{Fits, FitsEmitter, FitsWorker}
use Rattle.output_board.specs.Releases.{after, action_of, role_after, worker_after, emitter_after, claims_after}
use Rattle.output_board.specs.Splits.{same_emitter, same_worker}

at_in : {A : Type 0} (l : List A) (i : ℕ) (a : A) → get_elem? l i ≡ some a → i < length l
at_in [] i a e = absurd (some-ne-none a (sym e))
at_in (x ∷ xs) zero a e = omega arith
at_in (x ∷ xs) (suc i) a e = let h = at_in xs i a e in omega arith

pub not_both : (f : WorkerView) (g : EmitterView) → ◌≡◌ {A = Role} (Works f) (Emits g) → ⊥
not_both f g e = cc

pub same_number : (v w : ℕ) → ◌≡◌ {A = Actor} (Worker v) (Worker w) → v ≡ w
same_number v w e = cc

-- nothing changed
pub others_same : (a : Actor) (b : BoardState) → LeavesOthers a b b
others_same a b = record {
  still = λ x i ne own. own;
  before = λ x i ne own. own;
  put = λ x i ne own. refl;
  left = λ w ne. refl;
  stopped = λ e. e;
  next = omega arith;
  size = refl;
  workers = refl;
  capacity = refl;
}

pub emitted_same : (b : BoardState) → LeavesEmitted b b
emitted_same b = record { cur = refl; taken = refl; stopped = refl }

-- another worker's view says of the board what it said
other_worker : (a : Actor) (x y : BoardState) (u : WorkerView) → Worker u.number ≢ a
    → y.next ≤ length y.segments → LeavesOthers a x y → FitsWorker x u → FitsWorker y u
other_worker a x y u ne within others is = record {
  own = λ i e.
      let k = is.own i e in
      (others.still (Worker u.number) i ne k.0, k.1 ∙ sym (others.put (Worker u.number) i ne k.0));
  free = λ e i own. is.free e i (others.before (Worker u.number) i ne own);
  over = λ e. ⊎_elim
      (λ (s : x.stopped ≡ true). inl (others.stopped s))
      (λ (s : (x.next ≡ length x.segments) × OwnsNothing x (Worker u.number)).
      inr (
        let n = others.next in let k = others.size in let m = s.0 in omega arith,
        λ i own. s.1 i (others.before (Worker u.number) i ne own),
      ))
      (is.over e);
  left = others.left u.number ne ∙ is.left;
}

module _ {C : Type 0} (bytes : C → List (List ℕ)) (outcomes : C → List Outcome) (x y : BoardState)
    (views : List (View C)) (id : ℕ) (v : View C) (h : Fits bytes outcomes x views)
    (at : get_elem? views id ≡ some v) where
  -- a lawful event keeps the board
  pub board_after : (e : BoardEvent) → BoardStep x e y
      → MatchesLists (bytes h.content) (outcomes h.content) x e
      → BoardInvariant (bytes h.content) (outcomes h.content) y
  board_after e step lists =
      from_board (bytes h.content) (outcomes h.content) y
      (keeps (bytes h.content) (outcomes h.content) x e y
      (is_board (bytes h.content) (outcomes h.content) x h.board) (record { step = step; lists = lists }))

  -- and leaves the others what they own
  pub others_after : (e : BoardEvent) → BoardStep x e y → LeavesOthers (actor_of e) x y
  others_after e step = frame x e y (h.board.fresh x.next (omega arith)).owner step

  module _ (board : BoardInvariant (bytes h.content) (outcomes h.content) y) (new : View C)
      (content : new.content ≡ v.content) (claims : new.claims ≤ y.next) where
    size : length (set views id new) ≡ length views
    size = length-set views id new

    -- the views after a release: the holder's, and the others as they were
    each_view : (P : ℕ → View C → Type 0)
        → ((j : ℕ) (u : View C) → j ≢ id → get_elem? views j ≡ some u → P j u) → P id new
        → (j : ℕ) (u : View C) → get_elem? (set views id new) j ≡ some u → P j u
    each_view P others own j u q = ⊎_elim
        (λ (t : (j ≡ id) × (new ≡ u)).
        subst (λ (z : ℕ × View C). P z.0 z.1) (λ i. (sym t.0 i, t.1 i)) own)
        (λ (t : (j ≢ id) × (get_elem? views j ≡ some u)). others j u t.0 t.1) (at_set views id j new u q)

    same_content : (j : ℕ) (u : View C) → get_elem? (set views id new) j ≡ some u
        → u.content.value ≡ h.content
    same_content = each_view (λ j u. u.content.value ≡ h.content) (λ j u _ q. h.same j u q)
        (ap (λ s. s.value) content ∙ h.same id v at)

    -- a worker's release
    pub worker_keeps : (w now : WorkerView) → v.role ≡ Works w → new.role ≡ Works now
        → now.number ≡ w.number → LeavesOthers (Worker w.number) x y → LeavesEmitted x y
        → FitsWorker y now → Fits bytes outcomes y (set views id new)
    worker_keeps w now was is number others emitted mine =
        let here = h.workers id v w at was in
        record {
          content = h.content;
          same = same_content;
          board = board;
          short = h.short;
          room = let r = h.room in let c = others.capacity in omega arith;
          claims = each_view (λ j u. u.claims ≤ y.next)
              (λ j u _ q. let k = h.claims j u q in let n = others.next in omega arith) claims;
          emitter = λ j u f q is'. each_view
              (λ j u. (f : EmitterView) → u.role ≡ Emits f
              → (j ≡ 0) × (length (set views id new) ≡ f.made + 1) × FitsEmitter y f)
              (λ j u ne q f is'. let k = h.emitter j u f q is' in (
                k.0,
                size ∙ k.1,
                record {
                  cur = k.2.cur ∙ sym emitted.cur;
                  taken = k.2.taken ∙ (sym emitted.taken
                      ∙ ap (λ i. (segment_at y i).taken) (sym emitted.cur));
                  owns = λ o. subst (λ i. Owns y Emitter i) (sym emitted.cur)
                      (others.still Emitter x.cur
                      (λ (e : ◌≡◌ {A = Actor} Emitter (Worker w.number)). cc) (k.2.owns o));
                  free = λ o i own. k.2.free o i
                      (others.before Emitter i
                      (λ (e : ◌≡◌ {A = Actor} Emitter (Worker w.number)). cc) own);
                  stopped = k.2.stopped ∙ sym emitted.stopped;
                  workers = k.2.workers ∙ sym others.workers;
                  capacity = k.2.capacity ∙ sym others.capacity;
                },
              ))
              (λ f is'. absurd (not_both now f (sym is ∙ is'))) j u q f is';
          workers = λ j u t q is'. each_view
              (λ j u. (t : WorkerView) → u.role ≡ Works t → (j ≡ t.number + 1) × FitsWorker y t)
              (λ j u ne q t is'. let k = h.workers j u t q is' in (
                k.0,
                other_worker (Worker w.number) x y t (λ e.
                    let n = same_number t.number w.number e in let a = k.0 in let b = here.0 in
                    ne (omega arith)) board.within others k.1,
              ))
              (λ t is'. subst (λ (z : WorkerView). (id ≡ z.number + 1) × FitsWorker y z)
              (same_worker now t (sym is ∙ is')) (here.0 ∙ ap (λ n. n + 1) (sym number), mine))
              j u q t is';
          unmade = λ n l.
              let apart : n ≢ w.number = λ e.
              let a = here.0 in let b = at_in views id v at in let s = size in absurd (omega arith) in
              let k = h.unmade n (let s = size in omega arith) in
              record {
                free = λ i own. k.free i
                    (others.before (Worker n) i (λ e. apart (same_number n w.number e)) own);
                here = λ few. others.left n (λ e. apart (same_number n w.number e))
                    ∙ k.here (let z = others.workers in omega arith);
              };
        }

    -- the emitter's release
    pub emitter_keeps : (e now : EmitterView) → v.role ≡ Emits e → new.role ≡ Emits now
        → now.made ≡ e.made → LeavesOthers Emitter x y → FitsEmitter y now
        → Fits bytes outcomes y (set views id new)
    emitter_keeps e now was is made others mine =
        let here = h.emitter id v e at was in
        record {
          content = h.content;
          same = same_content;
          board = board;
          short = h.short;
          room = let r = h.room in let c = others.capacity in omega arith;
          claims = each_view (λ j u. u.claims ≤ y.next)
              (λ j u _ q. let k = h.claims j u q in let n = others.next in omega arith) claims;
          emitter = λ j u f q is'. each_view
              (λ j u. (f : EmitterView) → u.role ≡ Emits f
              → (j ≡ 0) × (length (set views id new) ≡ f.made + 1) × FitsEmitter y f)
              (λ j u ne q f is'. absurd (ne ((h.emitter j u f q is').0 ∙ sym here.0)))
              (λ f is'. subst (λ (z : EmitterView).
              (id ≡ 0) × (length (set views id new) ≡ z.made + 1) × FitsEmitter y z)
              (same_emitter now f (sym is ∙ is'))
              (here.0, size ∙ (here.1 ∙ ap (λ n. n + 1) (sym made)), mine)) j u q f is';
          workers = λ j u t q is'. each_view
              (λ j u. (t : WorkerView) → u.role ≡ Works t → (j ≡ t.number + 1) × FitsWorker y t)
              (λ j u apart q t is'. let k = h.workers j u t q is' in (
                k.0,
                other_worker Emitter x y t (λ (o : ◌≡◌ {A = Actor} (Worker t.number) Emitter). cc)
                    board.within others k.1,
              ))
              (λ t is'. absurd (not_both t now (sym is' ∙ is))) j u q t is';
          unmade = λ n l.
              let k = h.unmade n (let s = size in omega arith) in
              record {
                free = λ i own. k.free i (others.before (Worker n) i
                    (λ (o : ◌≡◌ {A = Actor} (Worker n) Emitter). cc) own);
                here = λ few. others.left n (λ (o : ◌≡◌ {A = Actor} (Worker n) Emitter). cc)
                    ∙ k.here (let z = others.workers in omega arith);
              };
        }

  -- a worker's release, by kind and amount
  pub worker_releases : (w : WorkerView) (kind amount : ℕ) (seen : Seen) (found : BoardState)
      → v.role ≡ Works w → BoardInvariant (bytes h.content) (outcomes h.content) y
      → LeavesOthers (Worker w.number) x y → LeavesEmitted x y
      → claims_after v.claims (action_of kind) ≤ y.next
      → (worker_after w (action_of kind) amount seen.next).number ≡ w.number
      → FitsWorker y (worker_after w (action_of kind) amount seen.next)
      → Fits bytes outcomes y (set views id (after v kind amount seen found))
  worker_releases w kind amount seen found role board others emitted claims number mine =
      worker_keeps board (after v kind amount seen found) refl claims
      w (worker_after w (action_of kind) amount seen.next) role
      (ap (λ (r : Role). role_after r (action_of kind) amount seen.next) role) number others emitted mine

  -- the emitter's
  pub emitter_releases : (e : EmitterView) (kind amount : ℕ) (seen : Seen) (found : BoardState)
      → v.role ≡ Emits e → BoardInvariant (bytes h.content) (outcomes h.content) y
      → LeavesOthers Emitter x y → claims_after v.claims (action_of kind) ≤ y.next
      → (emitter_after e (action_of kind) amount seen.next).made ≡ e.made
      → FitsEmitter y (emitter_after e (action_of kind) amount seen.next)
      → Fits bytes outcomes y (set views id (after v kind amount seen found))
  emitter_releases e kind amount seen found role board others claims made mine =
      emitter_keeps board (after v kind amount seen found) refl claims
      e (emitter_after e (action_of kind) amount seen.next) role
      (ap (λ (r : Role). role_after r (action_of kind) amount seen.next) role) made others mine
