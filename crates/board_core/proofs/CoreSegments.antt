-- A segment at a index, as it is kept.
use Rattle.std.proofs.Common.{Option, ◌≡◌, ◌≢◌, ℕ, suc, ◌<◌, ◌≤◌, List, length, set, get_or, sym, ap, ◌∙◌, subst, refl, Some, None, arith, map}
use Rattle.std.proofs.lemmas.List.{get_or-map, length-map, map-set}
use lib.ListN.{get_or-eq_default, get_or-map as get_or-map-at}
use lib.Seq.{ext_get_or}
use Rattle.std.proofs.Common.{eq-eqb, cond}
use Rattle.board_core.specs.declared.actor.Actor.TheVariants.{Worker}
use Rattle.board_core.specs.BoardSteps.{without_owner, owner_without}
use Rattle.board_core.proofs.SegmentsAt.{owner_stays}
use mathlib.Core.Logic.{dite}
use native.Mathlib.Decide.{dec_le, ℕ_discrete}
use lib.Seq.{get_or-set_same, get_or-set_other}
use Rattle.std.proofs.lemmas.List.Elements.{All-set, All-get_or}
use Rattle.std.proofs.Common.{◌⊎◌, inl, inr, ⊎_elim, length-set, Bool}
use Rattle.board_core.specs.declared.actor.Actor.{Actor}
use Rattle.board_core.specs.declared.segment.Segment.{Segment}
use Rattle.board_core.specs.BoardStates.{SegmentState, BoardState, unclaimed_segment}
use Rattle.board_core.specs.CoreInside.{state_of, states_of, kept_at, IsKept, IsCore}

pub kept_is : (l : List Segment) (i : ℕ) (s : Segment) → i < length l → s ≡ get_or l i s
    → kept_at l i ≡ state_of s
kept_is l i s lt e = get_or-map state_of l i s unclaimed_segment lt ∙ ap state_of (sym e)

pub kept_past : (l : List Segment) (i : ℕ) (a : Actor) → length l ≤ i → (kept_at l i).owner ≢ Some a
kept_past l i a late own =
    let none : kept_at l i ≡ unclaimed_segment =
    get_or-eq_default (states_of l) unclaimed_segment (let e = length-map l state_of in
    omega arith) in
    let e : None ≡ Some a = sym (ap (λ (s : SegmentState). s.owner) none) ∙ own in cc

-- a segment put in another's index
pub set_same : (l : List Segment) (i : ℕ) (s : Segment) → i < length l → kept_at (set l i s) i ≡ state_of s
set_same l i s lt = ap (λ m. get_or m i unclaimed_segment) (map-set state_of l i s)
    ∙ get_or-set_same (states_of l) i (state_of s) unclaimed_segment (let e =
    length-map l state_of in omega arith)

pub set_other : (l : List Segment) (i : ℕ) (s : Segment) (j : ℕ) → j ≢ i → kept_at (set l i s) j ≡ kept_at l j
set_other l i s j ne = ap (λ m. get_or m j unclaimed_segment) (map-set state_of l i s)
    ∙ get_or-set_other (states_of l) i j (state_of s) unclaimed_segment ne

-- a change of one segment, as contracts see it
pub states_set : (f : SegmentState → SegmentState) (l : List Segment) (i : ℕ) (old new : Segment)
    → i < length l → old ≡ get_or l i old → state_of new ≡ f (state_of old)
    → states_of (set l i new) ≡ set (states_of l) i (f (kept_at l i))
states_set f l i old new lt e is = map-set state_of l i new
    ∙ ap (set (states_of l) i) (is ∙ ap f (sym (kept_is l i old lt e)))

pub all_at : (capacity : ℕ) (l : List Segment) (i : ℕ) (s : Segment) → i < length l
    → s ≡ get_or l i s → IsCore capacity l → IsKept capacity s
all_at capacity l i s lt e h = subst (IsKept capacity) (sym e) (All-get_or (IsKept capacity) l i s lt h.each)

-- a change of one segment keeps the core, where its new owner owns no other
pub keeps_core : (capacity : ℕ) (l : List Segment) (i : ℕ) (s : Segment) → i < length l
    → IsCore capacity l → IsKept capacity s
    → ((a : Actor) (j : ℕ) → s.owner ≡ Some a → (kept_at l j).owner ≡ Some a → j ≡ i)
    → IsCore capacity (set l i s)
keeps_core capacity l i s lt h kept alone =
    let who = λ (a : Actor) (j : ℕ) (own : (kept_at (set l i s) j).owner ≡ Some a).
    dite {C = ((j ≡ i) × (s.owner ≡ Some a)) ⊎ ((j ≢ i) × ((kept_at l j).owner ≡ Some a))}
    (ℕ_discrete j i)
    (λ e. inl (
      e,
      ap
          (λ (t : SegmentState). t.owner) (sym (ap (kept_at (set l i s)) e ∙ set_same l i s lt))
          ∙ own,
    ))
    (λ ne. inr (ne, ap (λ (t : SegmentState). t.owner) (sym (set_other l i s j ne)) ∙ own)) in
    record {
      few = let e = length-set l i s in let f = h.few in omega arith;
      each = All-set (IsKept capacity) l i s kept h.each;
      single = λ a j k ej ek. ⊎_elim
          (λ (u : (j ≡ i) × (s.owner ≡ Some a)). ⊎_elim
          (λ (v : (k ≡ i) × (s.owner ≡ Some a)). u.0 ∙ sym v.0)
          (λ (v : (k ≢ i) × ((kept_at l k).owner ≡ Some a)). absurd (v.0 (alone a k u.1 v.1)))
          (who a k ek))
          (λ (u : (j ≢ i) × ((kept_at l j).owner ≡ Some a)). ⊎_elim
          (λ (v : (k ≡ i) × (s.owner ≡ Some a)). absurd (u.0 (alone a j v.1 u.1)))
          (λ (v : (k ≢ i) × ((kept_at l k).owner ≡ Some a)). h.single a j k u.1 v.1)
          (who a k ek))
          (who a j ej);
    }

-- the board of parts
abbrev pub board : ℕ → ℕ → ℕ → Bool → List Bool → List SegmentState → BoardState
board capacity next cur stopped left segments =
    record {
      capacity = capacity;
      next = next;
      cur = cur;
      segments = segments;
      stopped = stopped;
      left = left;
    }

-- who owns it as it was owns no other
pub same_owner : (capacity : ℕ) (l : List Segment) (i : ℕ) (old : Segment) → i < length l
    → old ≡ get_or l i old → IsCore capacity l → (a : Actor) (j : ℕ) → old.owner ≡ Some a
    → (kept_at l j).owner ≡ Some a → j ≡ i
same_owner capacity l i old lt e h a j own other =
    h.single a j i other (ap (λ (t : SegmentState). t.owner) (kept_is l i old lt e) ∙ own)

-- what nobody owns is no other's
pub freed : (l : List Segment) (i : ℕ) (owner : Option Actor) → owner ≡ None
    → (a : Actor) (j : ℕ) → owner ≡ Some a → (kept_at l j).owner ≡ Some a → j ≡ i
freed l i owner free a j mine other = absurd (cc)

-- boards with the same segments, up to one of which all is claimed
pub same_claims : (capacity cur : ℕ) (stopped : Bool) (left : List Bool)
    (next more : ℕ) (x y : List SegmentState)
    → next ≡ more → x ≡ y
    → board capacity next cur stopped left x ≡ board capacity more cur stopped left y
same_claims capacity cur stopped left next more x y e same =
    ap (λ n. board capacity n cur stopped left x) e ∙ ap (board capacity more cur stopped left) same

-- the segments once a worker left that owns none of them
pub leave_none : (w : ℕ) (l : List Segment) → ((i : ℕ) → (kept_at l i).owner ≢ Some (Worker w))
    → map (without_owner w) (states_of l) ≡ states_of l
leave_none w l none =
    ext_get_or unclaimed_segment (map (without_owner w) (states_of l)) (states_of l)
    (length-map (states_of l) (without_owner w))
    (λ k lt. get_or-map-at (without_owner w) (states_of l) k unclaimed_segment
    ∙ disowns w (kept_at l k) (none k))
  where
    disowns : (w : ℕ) (s : SegmentState) → s.owner ≢ Some (Worker w) → without_owner w s ≡ s
    disowns w s ne = ap
        (λ o. record { owner = o; put = s.put; taken = s.taken; ring = s.ring; done = s.done })
        (owner_stays w s.owner ne)

-- and where it owns one
pub leave_one : (capacity w : ℕ) (l : List Segment) (i : ℕ) (s : Segment) → i < length l
    → s ≡ get_or l i s → IsCore capacity l → (kept_at l i).owner ≡ Some (Worker w)
    → map (without_owner w) (states_of l) ≡ states_of
    (set l i (record {
      owner = None;
      put = s.put;
      taken = s.taken;
      ring = s.ring;
      done = s.done;
    }))
leave_one capacity w l i s lt e h own =
    let new : Segment = record { owner = None; put = s.put; taken = s.taken; ring = s.ring; done = s.done } in
    let at = kept_is l i s lt e in
    ext_get_or unclaimed_segment (map (without_owner w) (states_of l)) (states_of (set l i new))
    (length-map (states_of l) (without_owner w)
    ∙ (length-map l state_of
    ∙ (sym (length-set l i new) ∙ sym (length-map (set l i new) state_of))))
    (λ k below. get_or-map-at (without_owner w) (states_of l) k unclaimed_segment ∙ dite (ℕ_discrete k i)
    (λ same. ap (λ j. without_owner w (kept_at l j)) same
    ∙ (ap (without_owner w) at
    ∙ (gone s (ap (λ (t : SegmentState). t.owner) (sym at) ∙ own)
    ∙ (sym (set_same l i new lt) ∙ ap (kept_at (set l i new)) (sym same)))))
    (λ ne. disowns (kept_at l k) (λ o. ne (h.single (Worker w) k i o own)) ∙ sym (set_other l i new k ne)))
  where
    disowns : (s : SegmentState) → s.owner ≢ Some (Worker w) → without_owner w s ≡ s
    disowns s ne = ap
        (λ o. record { owner = o; put = s.put; taken = s.taken; ring = s.ring; done = s.done })
        (owner_stays w s.owner ne)

    gone : (s : Segment) → s.owner ≡ Some (Worker w)
        → without_owner w
        (state_of s) ≡ record {
          owner = None;
          put = s.put;
          taken = s.taken;
          ring = s.ring.items;
          done = s.done;
        }
    gone s o = ap
        (λ x. record {
          owner = owner_without w x;
          put = s.put;
          taken = s.taken;
          ring = s.ring.items;
          done = s.done;
        }) o
        ∙ ap (λ c. record {
          owner = cond c None (Some (Worker w));
          put = s.put;
          taken = s.taken;
          ring = s.ring.items;
          done = s.done;
        }) (eq-eqb w w refl)

pub kept_within : (l : List Segment) (i : ℕ) (a : Actor) → (kept_at l i).owner ≡ Some a → i < length l
kept_within l i a own = dite (dec_le (suc i) (length l)) (λ (h : suc i ≤ length l). omega arith)
    (λ (h : ¬ (suc i ≤ length l)). absurd (kept_past l i a (omega arith) own))
