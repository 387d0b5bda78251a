-- Segments at an index, and parts of their bytes.
use Rattle.std.proofs.Common.{◌≡◌, ◌≢◌, ℕ, zero, suc, ◌+◌, ◌-◌, ◌<◌, ◌≤◌, Bool, true, false, cond, eqb, List, [], ◌∷◌, ◌++◌, length, take, drop, set, sym, ap, ◌∙◌, refl, Some, None, Option, arith, eq-eqb, length-drop}
use Rattle.std.specs.Prelude.{slice_get, slice_range}
use mathlib.Core.Logic.{dite}
use native.Mathlib.Decide.{ℕ_discrete, dec_le}
use lib.ListN.{get_or-eq_default, get_or-map}
use lib.Seq.{get_or-set_same, get_or-set_other, take-add, drop-drop, length-take-le}
use Rattle.std.proofs.lemmas.List.{drop-take}
use Rattle.board_core.specs.declared.actor.Actor.{Actor}
use Rattle.board_core.specs.declared.actor.Actor.TheVariants.{Worker, Emitter}
use Rattle.board_core.specs.BoardStates.{SegmentState, BoardState, segment_at, unclaimed_segment, with_segment, Owns}
use Rattle.board_core.specs.BoardSteps.{owner_without, without_owner, with_leave}

pub at_same : (b : BoardState) (i : ℕ) (s : SegmentState) → i < length b.segments
    → segment_at (with_segment b i s) i ≡ s
at_same b i s h = get_or-set_same b.segments i s unclaimed_segment h

pub at_other : (b : BoardState) (i : ℕ) (s : SegmentState) (j : ℕ) → j ≢ i
    → segment_at (with_segment b i s) j ≡ segment_at b j
at_other b i s j ne = get_or-set_other b.segments i j s unclaimed_segment ne

-- an owned segment is one of the board's
pub owned_within : (b : BoardState) (a : Actor) (i : ℕ) → Owns b a i → i < length b.segments
owned_within b a i own =
    dite (dec_le (suc i) (length b.segments)) (λ (h : suc i ≤ length b.segments). omega arith)
    (λ (h : ¬ (suc i ≤ length b.segments)).
    let late : length b.segments ≤ i = omega arith in
    let none : segment_at b i ≡ unclaimed_segment = get_or-eq_default b.segments unclaimed_segment late in
    let e : None ≡ Some a = sym (ap (λ (s : SegmentState). s.owner) none) ∙ own in cc)

-- bytes from one index to another, and n more of them
pub range_more : (xs : List ℕ) (from to n : ℕ) → from ≤ to
    → slice_range xs from to ++ take n (drop to xs) ≡ slice_range xs from (to + n)
range_more xs from to n h =
    let e : to + n - from ≡ (to - from) + n = omega arith in
    let f : from + (to - from) ≡ to = omega arith in
    sym (ap (λ k. take k (drop from xs)) e
    ∙ (take-add (to - from) n (drop from xs)
    ∙ ap (λ l. take (to - from) (drop from xs) ++ take n l) (drop-drop (to - from) from xs
    ∙ ap (λ k. drop k xs) f)))

-- the same without the first n
pub range_less : (xs : List ℕ) (from to n : ℕ) → from + n ≤ to
    → drop n (slice_range xs from to) ≡ slice_range xs (from + n) to
range_less xs from to n h =
    let e : to - from ≡ n + (to - (from + n)) = omega arith in
    ap (λ k. drop n (take k (drop from xs))) e
    ∙ (drop-take n (to - (from + n)) (drop from xs)
    ∙ ap (λ l. take (to - (from + n)) l) (drop-drop n from xs))

pub length-range : (xs : List ℕ) (from to : ℕ) → to ≤ length xs → length (slice_range xs from to) ≡ to - from
length-range xs from to h =
    length-take-le (to - from) (drop from xs) (let d = length-drop from xs in omega arith)

pub range_none : (xs : List ℕ) (at : ℕ) → slice_range xs at at ≡ []
range_none xs at = let e : at - at ≡ 0 = omega arith in ap (λ k. take k (drop at xs)) e

-- a flag that was set, where there is one
pub get_set_some : (l : List Bool) (i : ℕ) (a : Bool) → slice_get l i ≡ Some false
    → slice_get (set l i a) i ≡ Some a
get_set_some [] i a e = absurd (cc)
get_set_some (x ∷ xs) zero a e = refl
get_set_some (x ∷ xs) (suc i) a e = get_set_some xs i a e

-- the other flags
pub get_else : (l : List Bool) (i j : ℕ) (a : Bool) → j ≢ i → slice_get (set l i a) j ≡ slice_get l j
get_else [] i j a ne = refl
get_else (x ∷ xs) zero zero a ne = absurd (ne refl)
get_else (x ∷ xs) zero (suc j) a ne = refl
get_else (x ∷ xs) (suc i) zero a ne = refl
get_else (x ∷ xs) (suc i) (suc j) a ne = get_else xs i j a (λ e. ne (ap suc e))

pub at_left : (b : BoardState) (w i : ℕ) → segment_at (with_leave b w) i ≡ without_owner w (segment_at b i)
at_left b w i = get_or-map (without_owner w) b.segments i unclaimed_segment

-- who owns a segment still when a worker left
still : (c : Bool) (v : ℕ) (a : Actor) → (cond c None (Some (Worker v))) ≡ Some a → (c ≡ false)
    × (Worker v ≡ a)
still true v a e = absurd (cc)
still false v a e = (refl, cc)

pub owner_still : (w : ℕ) (o : Option Actor) (a : Actor) → owner_without w o ≡ Some a
    → (o ≡ Some a) × (a ≢ Worker w)
owner_still w None a e = absurd (cc)
owner_still w (Some Emitter) a e =
    (e, λ same. let f : Some Emitter ≡ Some (Worker w) = e ∙ ap Some same in cc)
owner_still w (Some (Worker v)) a e =
    let s = still (eqb v w) v a e in (
      ap Some s.1,
      λ same. let t : Worker v ≡ Worker w = s.1 ∙ same in let v_is : v ≡ w = cc in
          let k = eq-eqb v w v_is in let u : true ≡ false = sym k ∙ s.0 in cc,
    )

-- another's segment stays that one's
pub owner_stays : (w : ℕ) (o : Option Actor) → o ≢ Some (Worker w) → owner_without w o ≡ o
owner_stays w None ne = refl
owner_stays w (Some Emitter) ne = refl
owner_stays w (Some (Worker v)) ne = dite (ℕ_discrete v w)
    (λ e. absurd (ne (ap (λ n. Some (Worker n)) e)))
    (λ n. let k = Rattle.std.proofs.Common.ne_eqb v w n in
    ap (λ c. cond c None (Some (Worker v))) k)
