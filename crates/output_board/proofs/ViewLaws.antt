-- What the views of all seats say of the board.
use Rattle.std.proofs.Common.{◌≡◌, ℕ, ◌+◌, Bool, List, length, sym, ap, ◌∙◌, subst, refl, ⊎_elim, inl, inr, true, false, true≢false, Some, None, Option, arith}
use Rattle.std.specs.Prelude.{if◌then◌else◌}
use mathlib.Core.Option.{some}
use lib.ListN.{get_elem?}
use Rattle.handover.specs.declared.outcome.Outcome.{Outcome}
use Rattle.board_core.specs.declared.actor.Actor.{Actor}
use Rattle.board_core.specs.declared.actor.Actor.TheVariants.{Worker, Emitter}
use Rattle.board_core.specs.BoardStates.{BoardState, Owns}
use Rattle.output_board.specs.declared.view.View.{View}
use Rattle.output_board.specs.declared.view.EmitterView.{EmitterView}
use Rattle.output_board.specs.declared.view.Role.{Role}
use Rattle.output_board.specs.declared.view.Role.TheVariants.{Emits, Works}
use Rattle.output_board.specs.declared.seen.Seen.{Seen}
use Rattle.output_board.specs.declared.answers.Claim.TheVariants.{Segment, NoneLeft, Stopped}
use Rattle.output_board.specs.SeatRule.{Fits}
use Rattle.output_board.specs.Releases.{own_segment}
use Rattle.output_board.specs.SeatLaws.{HasNoneToClaim, IsThrough, ClaimsFindNothing}

-- the index of an actor's view
abbrev index_of : Actor → ℕ
index_of Emitter = 0
index_of (Worker w) = w + 1

one_owner : (a c : Actor) → Some a ≡ Some c → a ≡ c
one_owner a c e = cc

owned_cur : (owns : Bool) (cur i : ℕ) → (if owns then Some cur else None) ≡ Some i
    → (owns ≡ true) × (cur ≡ i)
owned_cur true cur i e = (refl, cc)
owned_cur false cur i e = absurd (cc)

abbrev seen_in : Option (ℕ × ℕ × Seen) → Seen → Seen
seen_in None s = s
seen_in (Some t) s = t.2

same_seen : (k l a b : ℕ) (s t : Seen)
    → ◌≡◌ {A = Option (ℕ × ℕ × Seen)} (Some (k, a, s)) (Some (l, b, t)) → s ≡ t
same_seen k l a b s t e = ap (λ o. seen_in o s) e

module _ {C : Type 0} (bytes : C → List (List ℕ)) (outcomes : C → List Outcome) (b : BoardState)
    (views : List (View C)) (h : Fits bytes outcomes b views) where
  -- the owner of a segment that a view names
  owner_by : (j : ℕ) (v : View C) (i : ℕ) (r : Role) → get_elem? views j ≡ some v → v.role ≡ r
      → own_segment r ≡ Some i → (a : Actor) × Owns b a i × (j ≡ index_of a)
  owner_by j v i (Emits e) at role own =
      let k = h.emitter j v e at role in
      let o = owned_cur e.owns e.cur i own in
      (Emitter, subst (λ n. Owns b Emitter n) (sym k.2.cur ∙ o.1) (k.2.owns o.0), k.0)
  owner_by j v i (Works w) at role own =
      let k = h.workers j v w at role in
      (Worker w.number, (k.1.own i own).0, k.0)

  pub one_seat : (j k : ℕ) (u v : View C) (i : ℕ) → get_elem? views j ≡ some u
      → get_elem? views k ≡ some v → own_segment u.role ≡ Some i → own_segment v.role ≡ Some i → j ≡ k
  one_seat j k u v i at_j at_k own_u own_v =
      let p = owner_by j u i u.role at_j refl own_u in
      let q = owner_by k v i v.role at_k refl own_v in
      p.2 ∙ (ap index_of (one_owner p.0 q.0 (sym p.1 ∙ q.1)) ∙ sym q.2)

  pub none_to_claim : (j : ℕ) (v : View C) (e : EmitterView) → get_elem? views j ≡ some v
      → v.role ≡ Emits e → IsThrough (length (bytes v.content.value)) e → HasNoneToClaim b
  none_to_claim j v e at role through =
      let k = (h.emitter j v e at role).2 in
      let count : length (bytes v.content.value) ≡ length b.segments =
      ap (λ (c : C). length (bytes c)) (h.same j v at) ∙ h.board.bytes in
      ⊎_elim (λ (all : e.cur ≡ length (bytes v.content.value)).
      inr (let a = h.board.claims in let c = h.board.within in let f = k.cur in omega arith))
      (λ (s : e.stopped ≡ true). inl (sym k.stopped ∙ s)) through

  pub finds_nothing : (j : ℕ) (v : View C) → get_elem? views j ≡ some v → HasNoneToClaim b
      → ClaimsFindNothing C b (length (bytes v.content.value))
  finds_nothing j v at none old new (Segment i) own kind amount seen last sees
      (_, _, s, told, going, more, _) =
      let same = same_seen _ _ _ _ _ _ (sym last ∙ told.last) in
      let count : length (bytes v.content.value) ≡ length b.segments =
      ap (λ (c : C). length (bytes c)) (h.same j v at) ∙ h.board.bytes in
      let next : s.next ≡ b.next = ap (λ (t : Seen). t.next) (sym same) ∙ sees.next in
      let stopped : s.stopped ≡ b.stopped = ap (λ (t : Seen). t.stopped) (sym same) ∙ sees.stopped in
      absurd (⊎_elim (λ (d : b.stopped ≡ true). true≢false (sym d ∙ (sym stopped ∙ going)))
      (λ (all : b.next ≡ length b.segments). omega arith) none)
  finds_nothing j v at none old new NoneLeft own kind amount seen last sees gives = inl refl
  finds_nothing j v at none old new Stopped own kind amount seen last sees gives = inr refl
