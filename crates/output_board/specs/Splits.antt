-- Law: a split of the emitter's seat keeps the seat rule, with its proof, which the rule of the lock cites (own).
use Rattle.std.specs.Prelude.{◌≡◌, ◌≢◌, ℕ, ◌+◌, ◌<◌, ◌≤◌, List, [], ◌∷◌, ◌++◌, length, slice_set}
use Rattle.std.proofs.Common.{sym, ap, ◌∙◌, subst, refl, set, ⊎_elim, ◌⊎◌, true≢false, arith, zero, suc, inl, inr, length-append, length-set}
use mathlib.Core.Option.{some, some-injective, some-ne-none}
use lib.ListN.{get_elem?}
use Rattle.atomic_table.proofs.Lists.{at_set}
use Rattle.handover.specs.declared.outcome.Outcome.{Outcome}
use Rattle.board_core.specs.BoardStates.{BoardState}
use Rattle.output_board.specs.declared.view.View.{View}
use Rattle.output_board.specs.declared.view.EmitterView.{EmitterView}
use Rattle.output_board.specs.declared.view.WorkerView.{WorkerView}
use Rattle.output_board.specs.declared.view.Role.{Role}
use Rattle.output_board.specs.declared.view.Role.TheVariants.{Emits, Works}
use Rattle.output_board.specs.SeatRule.{Fits, FitsEmitter, FitsWorker, MaySplit, RoleMaySplit, view_with_one_made, new_view, with_one_made, new_worker, role_with_one_made, new_role}

-- an element of a list with one more at its end
pub at_end : {A : Type 0} (l : List A) (a b : A) (j : ℕ) → get_elem? (l ++ a ∷ []) j ≡ some b
    → (get_elem? l j ≡ some b) ⊎ ((j ≡ length l) × (a ≡ b))
at_end [] a b zero e = inr (refl, some-injective a b e)
at_end [] a b (suc j) e = absurd (some-ne-none b (sym e))
at_end (x ∷ xs) a b zero e = inl e
at_end (x ∷ xs) a b (suc j) e =
    ⊎_elim inl (λ (t : (j ≡ length xs) × (a ≡ b)). inr (ap suc t.0, t.1)) (at_end xs a b j e)

-- the role that is split is the emitter's, and it still has a worker's seat to make
splitting : (r : Role) → RoleMaySplit r → (e : EmitterView) × (r ≡ Emits e) × (e.made < e.workers)
splitting (Emits e) h = (e, refl, h)
splitting (Works w) h = absurd h

-- one emitter's view of one role
pub same_emitter : (f g : EmitterView) → ◌≡◌ {A = Role} (Emits f) (Emits g) → f ≡ g
same_emitter f g e = cc

-- one worker's view of one role
pub same_worker : (f g : WorkerView) → ◌≡◌ {A = Role} (Works f) (Works g) → f ≡ g
same_worker f g e = cc

-- no role is both
not_both : {f : WorkerView} {g : EmitterView} → ◌≡◌ {A = Role} (Works f) (Emits g) → ⊥
not_both e = cc

module _ {C : Type 0} (bytes : C → List (List ℕ)) (outcomes : C → List Outcome) where
  -- a board that fits the views fits them after a split
  pub splits_fit : (b : BoardState) (views : List (View C)) (id : ℕ) (v : View C)
      → Fits bytes outcomes b views → get_elem? views id ≡ some v → MaySplit v
      → Fits bytes outcomes b (slice_set views id (view_with_one_made v) ++ new_view v ∷ [])
  splits_fit b views id v h at may =
      let s = splitting v.role may in
      let e = s.0 in
      let left = view_with_one_made v in
      let new = new_view v in
      let vs : List (View C) = set views id left in
      let here = h.emitter id v e at s.1 in
      let long : length (vs ++ new ∷ []) ≡ length views + 1 =
      length-append vs (new ∷ []) ∙ ap (λ (n : ℕ). n + 1) (length-set views id left) in
      let last : length vs ≡ e.made + 1 = length-set views id left ∙ here.1 in
      let bound = s.2 in
      let many = here.2.workers in
      let alone = h.unmade e.made (let l = here.1 in omega arith) in
      let left_is : left.role ≡ Emits (with_one_made e) = ap role_with_one_made s.1 in
      let new_is : new.role ≡ Works (new_worker e.made) = ap new_role s.1 in
      let parts = λ (P : ℕ → View C → Type 0)
      (was : (j : ℕ) (u : View C) → j ≢ id → get_elem? views j ≡ some u → P j u)
      (mine : P id left) (fresh : P (length vs) new) (j : ℕ) (u : View C)
      (q : get_elem? (vs ++ new ∷ []) j ≡ some u).
      ⊎_elim (λ (t : get_elem? vs j ≡ some u).
      ⊎_elim (λ (k : (j ≡ id) × (left ≡ u)).
      subst (λ (z : ℕ × View C). P z.0 z.1) (λ i. (sym k.0 i, k.1 i)) mine)
      (λ (k : (j ≢ id) × (get_elem? views j ≡ some u)). was j u k.0 k.1)
      (at_set views id j left u t))
      (λ (t : (j ≡ length vs) × (new ≡ u)).
      subst (λ (z : ℕ × View C). P z.0 z.1) (λ i. (sym t.0 i, t.1 i)) fresh)
      (at_end vs new u j q) in
      record {
        content = h.content;
        same = parts (λ j u. u.content.value ≡ h.content)
            (λ j u _ q. h.same j u q) (h.same id v at) (h.same id v at);
        board = h.board;
        short = h.short;
        room = h.room;
        claims = parts (λ j u. u.claims ≤ b.next)
            (λ j u _ q. h.claims j u q) (h.claims id v at) (omega arith);
        emitter = λ j u f q is. parts
            (λ j u. (f : EmitterView) → u.role ≡ Emits f
            → (j ≡ 0) × (length (vs ++ new ∷ []) ≡ f.made + 1) × FitsEmitter b f)
            (λ j u ne q f is. absurd (ne ((h.emitter j u f q is).0 ∙ sym here.0)))
            (λ f is.
            let same : with_one_made e ≡ f = same_emitter _ f (sym left_is ∙ is) in
            subst (λ (g : EmitterView).
            (id ≡ 0) × (length (vs ++ new ∷ []) ≡ g.made + 1) × FitsEmitter b g)
            same (
              here.0,
              long ∙ ap (λ (n : ℕ). n + 1) here.1,
              record {
                cur = here.2.cur;
                taken = here.2.taken;
                owns = here.2.owns;
                free = here.2.free;
                stopped = here.2.stopped;
                workers = here.2.workers;
                capacity = here.2.capacity;
              },
            ))
            (λ f is. absurd (not_both (sym new_is ∙ is))) j u q f is;
        workers = λ j u w q is. parts
            (λ j u. (w : WorkerView) → u.role ≡ Works w
            → (j ≡ w.number + 1) × FitsWorker b w)
            (λ j u ne q w is. h.workers j u w q is)
            (λ w is. absurd (not_both (sym is ∙ left_is)))
            (λ w is. subst (λ (x : WorkerView). (length vs ≡ x.number + 1) × FitsWorker b x)
            (same_worker _ w (sym new_is ∙ is)) (
              last,
              record {
                own = λ i o. absurd (cc);
                free = λ _. alone.free;
                over = λ o. absurd (true≢false (sym o));
                left = alone.here (omega arith);
              },
            )) j u q w is;
        unmade = λ w l. h.unmade w (omega arith);
      }
