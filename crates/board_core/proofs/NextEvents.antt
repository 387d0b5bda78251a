-- A board that isn't ended can go on.
use Rattle.std.proofs.Common.{◌∙◌, sym, ap, ◌≡◌, ◌≢◌, ℕ, ◌+◌, zero, suc, ◌<◌, ◌≤◌, Bool, true, false, List, [], ◌∷◌, length, take, drop, subst, refl, ⊎_elim, ◌⊎◌, inl, inr, Some, None, Option, arith, length-drop, length-take}
use Rattle.std.specs.Prelude.{slice_get}
use mathlib.Core.Logic.{dite}
use native.Mathlib.Decide.{ℕ_discrete, dec_le}
use Rattle.board_core.specs.declared.actor.Actor.{Actor}
use Rattle.board_core.specs.declared.actor.Actor.TheVariants.{Worker, Emitter}
use Rattle.handover.specs.declared.outcome.Outcome.{Outcome}
use Rattle.handover.specs.declared.outcome.Outcome.TheVariants.{Good, Bad}
use Rattle.handover.specs.declared.outcome.StreamFault.{StreamFault}
use Rattle.board_core.specs.BoardStates.{BoardState, segment_at, Owns, IsEnded}
use Rattle.board_core.specs.BoardSteps.{BoardEvent, Claim, Put, Pass, Finish, Take, Advance, Stop, Leave, IsEnabled, count_limit, CountsFit, BoardStep, with_claim, changed_at, with_put, with_passed, with_outcome, with_taken, with_advance, with_stop, with_leave}
use Rattle.board_core.specs.BoardInvariants.{bytes_at}
use Rattle.board_core.specs.LawfulEvents.{MatchesLists, CanGoOn}
use Rattle.board_core.proofs.EachSegment.{IsBoard}
use Rattle.board_core.proofs.SegmentsAt.{owned_within}
use Rattle.board_core.proofs.KeptSteps.{owned_facts}

abbrev Here : List Bool → Type 0
Here l = (w : ℕ) × (slice_get l w ≡ Some false)

abbrev AllLeft : List Bool → Type 0
AllLeft l = (w : ℕ) → slice_get l w ≢ Some false

someone : (l : List Bool) → Here l ⊎ AllLeft l
someone [] = inr (λ w e. cc)
someone (false ∷ l) = inl (0, refl)
someone (true ∷ l) = ⊎_elim (λ (h : Here l). inl (suc h.0, h.1))
    (λ (all : AllLeft l). inr (none all)) (someone l)
  where
    none : AllLeft l → AllLeft (true ∷ l)
    none all zero e = let f : ◌≡◌ {A = Option Bool} (Some true) (Some false) = e in cc
    none all (suc w) e = all w e

-- an outcome, which was found at a index
outcome_at : (os : List Outcome) (i : ℕ) → i < length os → (o : Outcome) × (slice_get os i ≡ Some o)
outcome_at [] i h = absurd (omega arith)
outcome_at (o ∷ os) zero h = (o, refl)
outcome_at (o ∷ os) (suc i) h = outcome_at os i (omega arith)

-- one byte of a list that has one
one_byte : (xs : List ℕ) (at : ℕ) → at < length xs → length (take 1 (drop at xs)) ≡ 1
one_byte xs at h = let a = length-take 1 (drop at xs) in let b = length-drop at xs in omega arith

empty_or_not : (xs : List ℕ) → (xs ≡ []) ⊎ (1 ≤ length xs)
empty_or_not [] = inl refl
empty_or_not (x ∷ xs) = inr (omega arith)

-- an enabled event has a step
pub happens : (b : BoardState) (e : BoardEvent) → IsEnabled b e → (new : BoardState) × BoardStep b e new
happens b (Claim a) can = (with_claim b a, (can, refl))
happens b (Put w bytes) can = (changed_at b can.0 (with_put bytes), (can.0, can.1, refl))
happens b (Pass n) can = (changed_at b b.cur (with_passed n), (can, refl))
happens b (Finish a o) can = (changed_at b can.0 (with_outcome o), (can.0, can.1, refl))
happens b (Take n) can = (changed_at b b.cur (with_taken n), (can, refl))
happens b Advance can = (with_advance b, (can, refl))
happens b Stop can = (with_stop b, (can, refl))
happens b (Leave w) can = (with_leave b w, (can, refl))

-- and an event with a step is enabled
pub was_enabled : (b : BoardState) (e : BoardEvent) (new : BoardState) → BoardStep b e new → IsEnabled b e
was_enabled b (Claim a) new step = step.0
was_enabled b (Put w bytes) new step = (step.0, step.1)
was_enabled b (Pass n) new step = step.0
was_enabled b (Finish a o) new step = (step.0, step.1)
was_enabled b (Take n) new step = step.0
was_enabled b Advance new step = step.0
was_enabled b Stop new step = step.0
was_enabled b (Leave w) new step = step.0

-- the bytes put of a segment are no more than it has
counts_fit_at : (bytes s : List ℕ) (put : ℕ) → length s < count_limit → put ≤ length s
    → take (length bytes) (drop put s) ≡ bytes → put + length bytes < count_limit
counts_fit_at bytes s put short within e =
    let a = ap length e in
    let b = length-take (length bytes) (drop put s) in
    let c = length-drop put s in
    omega arith

pub counts_fit : (ss : List (List ℕ)) (os : List Outcome) (b : BoardState) (e : BoardEvent)
    → ((i : ℕ) → length (bytes_at ss i) < count_limit)
    → ((i : ℕ) → (segment_at b i).put ≤ length (bytes_at ss i))
    → MatchesLists ss os b e → CountsFit b e
counts_fit ss os b (Put w bytes) short within lists =
    λ i own. counts_fit_at bytes (bytes_at ss i) (segment_at b i).put (short i) (within i) (lists i own)
counts_fit ss os b (Pass n) short within lists = let s = short b.cur in omega arith
counts_fit ss os b (Claim a) short within lists = tt
counts_fit ss os b (Finish a o) short within lists = tt
counts_fit ss os b (Take n) short within lists = tt
counts_fit ss os b Advance short within lists = tt
counts_fit ss os b Stop short within lists = tt
counts_fit ss os b (Leave w) short within lists = tt

-- no actor owns two segments
abbrev IsSingle : BoardState → Type 0
IsSingle b = (a : Actor) (i j : ℕ) → Owns b a i → Owns b a j → i ≡ j

-- two steps of one event leave the same board
pub one_step : (b : BoardState) (e : BoardEvent) (one two : BoardState) → IsSingle b
    → BoardStep b e one → BoardStep b e two → one ≡ two
one_step b (Claim a) one two single x y = x.1 ∙ sym y.1
one_step b (Put w bytes) one two single x y =
    x.2 ∙ (ap (λ i. changed_at b i (with_put bytes)) (single (Worker w) x.0 y.0 x.1.own y.1.own) ∙ sym y.2)
one_step b (Pass n) one two single x y = x.1 ∙ sym y.1
one_step b (Finish a o) one two single x y =
    x.2 ∙ (ap (λ i. changed_at b i (with_outcome o)) (single a x.0 y.0 x.1.own y.1.own) ∙ sym y.2)
one_step b (Take n) one two single x y = x.1 ∙ sym y.1
one_step b Advance one two single x y = x.1 ∙ sym y.1
one_step b Stop one two single x y = x.1 ∙ sym y.1
one_step b (Leave w) one two single x y = x.1 ∙ sym y.1

module _ (ss : List (List ℕ)) (os : List Outcome) (b : BoardState) (h : IsBoard ss os b) where
  other : (e : BoardEvent) → e ≢ Stop → IsEnabled b e → MatchesLists ss os b e → CanGoOn ss os b
  other e ne can lists =
      let s = happens b e can in
      inl (e, s.0, record { other = ne; step = record { step = s.1; lists = lists } })

  due : (fault : StreamFault) → (segment_at b b.cur).done ≡ Some (Bad fault)
      → (segment_at b b.cur).ring ≡ [] → b.stopped ≡ false → CanGoOn ss os b
  due fault bad empty going = inr (fault, record { bad = bad; empty = empty; going = going })

  -- bytes wait at the segment that is emitted
  takes : b.stopped ≡ false → b.cur < length b.segments → 1 ≤ length (segment_at b b.cur).ring
      → CanGoOn ss os b
  takes go lt some = other (Take 1)
      (λ e. cc) (record { going = go; more = lt; some = omega arith; within = some }) tt

  -- a worker's segment is emitted, and no bytes of it wait
  works : (w : ℕ) → b.stopped ≡ false → 1 ≤ b.capacity → Owns b (Worker w) b.cur
      → (segment_at b b.cur).ring ≡ [] → CanGoOn ss os b
  works w go room own none =
      let s = segment_at b b.cur in
      let f = h.each b.cur in
      let single = λ (i : ℕ) (o : Owns b (Worker w) i). h.single (Worker w) b.cur i own o in
      dite (dec_le (suc s.put) (length (bytes_at ss b.cur)))
      (λ (l : suc s.put ≤ length (bytes_at ss b.cur)).
      let bytes = take 1 (drop s.put (bytes_at ss b.cur)) in
      let one = one_byte (bytes_at ss b.cur) s.put (omega arith) in
      other (Put w bytes)
      (λ e. cc) (
        b.cur,
        record {
          going = go;
          own = own;
          some = omega arith;
          room = let z = ap length none in
              omega arith;
        },
      )
      (λ i o. subst
      (λ k. take (length bytes) (drop (segment_at b k).put (bytes_at ss k)) ≡ bytes)
      (single i o) (ap (λ n. take n (drop s.put (bytes_at ss b.cur))) one)))
      (λ (l : ¬ (suc s.put ≤ length (bytes_at ss b.cur))).
      let end = outcome_at os b.cur (let lt = owned_within b (Worker w) b.cur own in
      let e = h.outcomes in omega arith) in
      other (Finish (Worker w) end.0) (λ e. cc) (b.cur, record { going = go; own = own })
      (λ i o. subst
      (λ k. ((segment_at b k).put ≡ length (bytes_at ss k))
      × (slice_get os k ≡ Some end.0)) (single i o) (
        let within = f.within in
            omega arith,
        end.1,
      )))

  -- the emitter's own segment is emitted
  emits : b.stopped ≡ false → Owns b Emitter b.cur → CanGoOn ss os b
  emits go own =
      let s = segment_at b b.cur in
      let f = h.each b.cur in
      let single = λ (i : ℕ) (o : Owns b Emitter i). h.single Emitter b.cur i own o in
      dite (dec_le (suc s.put) (length (bytes_at ss b.cur)))
      (λ (l : suc s.put ≤ length (bytes_at ss b.cur)). other (Pass 1)
      (λ e. cc) (record { going = go; own = own; some = omega arith }) (omega arith))
      (λ (l : ¬ (suc s.put ≤ length (bytes_at ss b.cur))).
      let end = outcome_at os b.cur (let lt = owned_within b Emitter b.cur own in
      let e = h.outcomes in omega arith) in
      other (Finish Emitter end.0) (λ e. cc) (b.cur, record { going = go; own = own })
      (λ i o. subst
      (λ k. ((segment_at b k).put ≡ length (bytes_at ss k))
      × (slice_get os k ≡ Some end.0)) (single i o) (
        let within = f.within in
            omega arith,
        end.1,
      )))

  owned_goes : (a : Actor) → b.stopped ≡ false → b.cur < length b.segments → 1 ≤ b.capacity
      → Owns b a b.cur → CanGoOn ss os b
  owned_goes Emitter go lt room own = emits go own
  owned_goes (Worker w) go lt room own = ⊎_elim (λ none. works w go room own none)
      (λ some. takes go lt some) (empty_or_not (segment_at b b.cur).ring)

  done_goes : (o : Outcome) → b.stopped ≡ false → b.cur < length b.segments
      → (segment_at b b.cur).done ≡ Some o → CanGoOn ss os b
  done_goes (Good pads) go lt e = ⊎_elim
      (λ none. other Advance
      (λ q. cc) (record { going = go; more = lt; good = (pads, e); empty = none }) tt)
      (λ some. takes go lt some) (empty_or_not (segment_at b b.cur).ring)
  done_goes (Bad n) go lt e = ⊎_elim (λ none. due n e none go)
      (λ some. takes go lt some) (empty_or_not (segment_at b b.cur).ring)

  claimed_goes : (d : Option Outcome) → (segment_at b b.cur).done ≡ d → b.stopped ≡ false
      → b.cur < b.next → b.cur < length b.segments → 1 ≤ b.capacity → CanGoOn ss os b
  claimed_goes None e go claims lt room = let own = (h.each b.cur).owned go claims e in
      owned_goes own.0 go lt room own.1
  claimed_goes (Some o) e go claims lt room = done_goes o go lt e

  -- while segments are left, the emitter's is claimed, or the emitter may claim it
  going_goes : b.stopped ≡ false → b.cur < length b.segments → 1 ≤ b.capacity → CanGoOn ss os b
  going_goes go lt room =
      dite (ℕ_discrete b.next b.cur)
      (λ same. other (Claim Emitter)
      (λ e. cc) (record {
        going = go;
        more = let l = lt in
            omega arith;
        present = tt;
        idle = λ i own. let facts = owned_facts ss os b Emitter i h own in
            let k = (h.each i).emitter own in let p = k.0 in let q = facts.0 in
            absurd (omega arith);
        turn = λ _. same;
      }) tt)
      (λ ne. let l = h.claims in claimed_goes (segment_at b b.cur).done refl go (omega arith) lt room)

  -- a worker leaves, where nothing is left to be emitted
  leaves : (w : ℕ) → slice_get b.left w ≡ Some false → b.cur ≡ length b.segments → CanGoOn ss os b
  leaves w here all = other (Leave w)
      (λ e. cc) (record {
        present = here;
        over = inr (
          let l = h.claims in let k = h.within in
              omega arith,
          λ i own. let facts = owned_facts ss os b (Worker w) i h own in
              let lt = owned_within b (Worker w) i own in let k = facts.2 in absurd (omega arith),
        );
      }) tt

  stop_known : (c : Bool) → b.stopped ≡ c → 1 ≤ b.capacity → ¬ IsEnded b → CanGoOn ss os b
  stop_known true e room unfinished = ⊎_elim
      (λ (w : Here b.left). other (Leave w.0) (λ q. cc) (record { present = w.1; over = inl e }) tt)
      (λ (all : AllLeft b.left). absurd (unfinished (all, inl e)))
      (someone b.left)
  stop_known false e room unfinished = dite (ℕ_discrete b.cur (length b.segments))
      (λ end. ⊎_elim (λ (w : Here b.left). leaves w.0 w.1 end)
      (λ (all : AllLeft b.left). absurd (unfinished (all, inr end))) (someone b.left))
      (λ ne. let a = h.claims in let c = h.within in going_goes e (omega arith) room)

  pub goes_on : 1 ≤ b.capacity → ¬ IsEnded b → CanGoOn ss os b
  goes_on room unfinished = stop_known b.stopped refl room unfinished
