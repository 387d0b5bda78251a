-- How many events there may be: each spends something of which there is no more than that.
use Rattle.std.proofs.Common.{◌≡◌, ℕ, zero, suc, ◌+◌, ◌*◌, ◌<◌, ◌≤◌, Bool, true, false, List, [], ◌∷◌, length, set, get_or, sym, ap, ◌∙◌, subst, refl, Some, None, Option, arith, length-append, length-set, map, replicate}
use Rattle.std.specs.Prelude.{slice_get}
use Rattle.std.specs.List.{concat}
use Rattle.std.proofs.lemmas.List.{length-replicate}
use Rattle.board_core.specs.declared.actor.Actor.TheVariants.{Worker, Emitter}
use Rattle.handover.specs.declared.outcome.Outcome.{Outcome}
use Rattle.board_core.specs.BoardStates.{opening_board, SegmentState, BoardState, segment_at, unclaimed_segment, with_segment}
use Rattle.board_core.specs.BoardSteps.{BoardEvent, Claim, Put, Pass, Finish, Take, Advance, Stop, Leave, BoardStep, with_claim, with_put, with_passed, with_outcome, with_taken, with_advance, with_stop, with_leave, with_owner, without_owner}
use Rattle.board_core.specs.BoardInvariants.{bytes_at}
use Rattle.board_core.specs.LawfulEvents.{LawfulStep, LawfulRun, most_events}
use Rattle.board_core.proofs.EachSegment.{IsBoard}
use Rattle.board_core.proofs.SegmentsAt.{owned_within}
use Rattle.board_core.proofs.KeptSteps.{keeps, owned_facts}

abbrev is_done : Option Outcome → ℕ
is_done None = 0
is_done (Some o) = 1

-- what was spent on a segment
abbrev weight : SegmentState → ℕ
weight s = s.put + s.taken + is_done s.done

abbrev weights : List SegmentState → ℕ
weights [] = 0
weights (s ∷ l) = weight s + weights l

abbrev flags : List Bool → ℕ
flags [] = 0
flags (true ∷ l) = 1 + flags l
flags (false ∷ l) = flags l

abbrev flag : Bool → ℕ
flag true = 1
flag false = 0

abbrev pub spent : BoardState → ℕ
spent b = weights b.segments + b.next + b.cur + flags b.left + flag b.stopped

weights_set : (l : List SegmentState) (i : ℕ) (s : SegmentState) → i < length l
    → weights (set l i s) + weight (get_or l i unclaimed_segment) ≡ weights l + weight s
weights_set [] i s lt = absurd (omega arith)
weights_set (x ∷ l) zero s lt = omega arith
weights_set (x ∷ l) (suc i) s lt = let h = weights_set l i s (omega arith) in omega arith

weights_map : (w : ℕ) (l : List SegmentState) → weights (map (without_owner w) l) ≡ weights l
weights_map w [] = refl
weights_map w (x ∷ l) = ap (λ n. weight x + n) (weights_map w l)

flags_set : (l : List Bool) (w : ℕ) → slice_get l w ≡ Some false → flags (set l w true) ≡ flags l + 1
flags_set [] w e = absurd (cc)
flags_set (true ∷ l) zero e = absurd (let f : ◌≡◌ {A = Option Bool} (Some true) (Some false) = e in cc)
flags_set (false ∷ l) zero e = omega arith
flags_set (true ∷ l) (suc w) e = let h = flags_set l w e in omega arith
flags_set (false ∷ l) (suc w) e = flags_set l w e

flags_few : (l : List Bool) → flags l ≤ length l
flags_few [] = omega arith
flags_few (true ∷ l) = let h = flags_few l in omega arith
flags_few (false ∷ l) = let h = flags_few l in omega arith

flag_one : (b : Bool) → flag b ≤ 1
flag_one true = omega arith
flag_one false = omega arith

done_one : (o : Option Outcome) → is_done o ≤ 1
done_one None = omega arith
done_one (Some o) = omega arith

flags_none : (n : ℕ) → flags (replicate n false) ≡ 0
flags_none zero = refl
flags_none (suc n) = flags_none n

weights_none : (n : ℕ) → weights (replicate n unclaimed_segment) ≡ 0
weights_none zero = refl
weights_none (suc n) = let h = weights_none n in omega arith

pub spent_none : (k capacity workers : ℕ) → spent (opening_board k capacity workers) ≡ 0
spent_none k capacity workers = let a = weights_none k in let c = flags_none workers in omega arith

weights_few : (ss : List (List ℕ)) (l : List SegmentState) → length ss ≡ length l
    → ((i : ℕ) → weight (get_or l i unclaimed_segment) ≤ 2 * length (bytes_at ss i) + 1)
    → weights l ≤ 2 * length (concat ss) + length l
weights_few [] [] e h = omega arith
weights_few [] (x ∷ l) e h = absurd (omega arith)
weights_few (s ∷ ss) [] e h = absurd (omega arith)
weights_few (s ∷ ss) (x ∷ l) e h = let a = h 0 in
    let r = weights_few ss l (omega arith) (λ i. h (suc i)) in
    let n = length-append s (concat ss) in omega arith

module _ (ss : List (List ℕ)) (os : List Outcome) where
  pub spent_few : (b : BoardState) → IsBoard ss os b
      → spent b ≤ 2 * length (concat ss) + 3 * length ss + length b.left + 1
  spent_few b h =
      let all = weights_few ss b.segments h.bytes
      (λ i. let f = h.each i in let o = f.order in let w = f.within in
      let d = done_one (segment_at b i).done in omega arith) in
      let left = flags_few b.left in
      let stop = flag_one b.stopped in
      let a = h.claims in let c = h.within in let d = h.bytes in omega arith

  -- a change of one segment, which spends
  spends_at : (b : BoardState) (i : ℕ) (s : SegmentState) → i < length b.segments
      → weight (segment_at b i) < weight s → spent b < spent (with_segment b i s)
  spends_at b i s lt more = let w = weights_set b.segments i s lt in omega arith

  pub spends : (old : BoardState) (e : BoardEvent) (new : BoardState) → IsBoard ss os old
      → LawfulStep ss os old e new → spent old < spent new
  spends old (Claim a) new h l =
      let w = weights_set old.segments old.next (with_owner a (segment_at old old.next)) l.step.0.more in
      let k : spent old < spent (with_claim old a) = omega arith in
      subst (λ b. spent old < spent b) (sym l.step.1) k
  spends old (Put w bytes) new h l =
      let some = l.step.1.some in
      subst (λ b. spent old < spent b) (sym l.step.2)
      (spends_at old l.step.0 (with_put bytes (segment_at old l.step.0))
      (owned_within old (Worker w) l.step.0 l.step.1.own) (omega arith))
  spends old (Pass n) new h l =
      let some = l.step.0.some in
      subst (λ b. spent old < spent b) (sym l.step.1)
      (spends_at old old.cur (with_passed n (segment_at old old.cur))
      (owned_within old Emitter old.cur l.step.0.own) (omega arith))
  spends old (Finish a o) new h l =
      let facts = owned_facts ss os old a l.step.0 h l.step.1.own in
      let none = ap is_done facts.1 in
      subst (λ b. spent old < spent b) (sym l.step.2)
      (spends_at old l.step.0 (with_outcome o (segment_at old l.step.0))
      (owned_within old a l.step.0 l.step.1.own) (omega arith))
  spends old (Take n) new h l =
      let some = l.step.0.some in
      subst (λ b. spent old < spent b) (sym l.step.1)
      (spends_at old old.cur (with_taken n (segment_at old old.cur)) l.step.0.more
      (omega arith))
  spends old Advance new h l = let k : spent old < spent (with_advance old) = omega arith in
      subst (λ b. spent old < spent b) (sym l.step.1) k
  spends old Stop new h l = let f = ap flag l.step.0 in
      let k : spent old < spent (with_stop old) = omega arith in
      subst (λ b. spent old < spent b) (sym l.step.1) k
  spends old (Leave w) new h l = let f = flags_set old.left w l.step.0.present in
      let m = weights_map w old.segments in
      let k : spent old < spent (with_leave old w) = omega arith in
      subst (λ b. spent old < spent b) (sym l.step.1) k

  workers_stay : (old : BoardState) (e : BoardEvent) (new : BoardState) → BoardStep old e new
      → length new.left ≡ length old.left
  workers_stay old (Claim a) new l = ap (λ (b : BoardState). length b.left) l.1
  workers_stay old (Put w bytes) new l = ap (λ (b : BoardState). length b.left) l.2
  workers_stay old (Pass n) new l = ap (λ (b : BoardState). length b.left) l.1
  workers_stay old (Finish a o) new l = ap (λ (b : BoardState). length b.left) l.2
  workers_stay old (Take n) new l = ap (λ (b : BoardState). length b.left) l.1
  workers_stay old Advance new l = ap (λ (b : BoardState). length b.left) l.1
  workers_stay old Stop new l = ap (λ (b : BoardState). length b.left) l.1
  workers_stay old (Leave w) new l = ap (λ (b : BoardState). length b.left) l.1 ∙ length-set old.left w true

  pub spends_all : (old : BoardState) (es : List BoardEvent) (new : BoardState) → IsBoard ss os old
      → LawfulRun ss os old es new → (length es + spent old ≤ spent new)
      × (length new.left ≡ length old.left) × IsBoard ss os new
  spends_all old [] new h run = (
    let e = ap spent run in
        omega arith,
    ap (λ (b : BoardState). length b.left) run,
    subst (IsBoard ss os) (sym run) h,
  )
  spends_all old (e ∷ es) new h run =
      let one = spends old e run.0 h run.1 in
      let rest = spends_all run.0 es new (keeps ss os old e run.0 h run.1) run.2 in
      let n = rest.0 in
      (omega arith, rest.1 ∙ workers_stay old e run.0 run.1.step, rest.2)

  pub few_events : (k capacity workers : ℕ) (es : List BoardEvent) (new : BoardState)
      → IsBoard ss os (opening_board k capacity workers)
      → LawfulRun ss os (opening_board k capacity workers) es new
      → length es ≤ most_events ss workers
  few_events k capacity workers es new h run =
      let all = spends_all (opening_board k capacity workers) es new h run in
      let a = all.0 in
      let most = spent_few new all.2 in
      let n = all.1 ∙ length-replicate workers false in
      let z = spent_none k capacity workers in omega arith
