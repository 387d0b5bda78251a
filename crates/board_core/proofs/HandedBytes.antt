-- The bytes that were handed out, in order, are the first bytes of all segments.
use Rattle.std.proofs.Common.{◌≡◌, ℕ, zero, suc, ◌+◌, ◌-◌, ◌<◌, List, [], ◌∷◌, ◌++◌, length, take, drop, sym, ap, ◌∙◌, subst, refl, arith, append_assoc, add-one}
use Rattle.std.specs.List.{concat}
use mathlib.Core.Logic.{dite}
use native.Mathlib.Decide.{ℕ_discrete}
use lib.Seq.{take-add, take-take, take_all}
use Rattle.std.proofs.lemmas.List.{append-nil}
use lib.ListN.{take-append-drop}
use Rattle.board_core.specs.declared.actor.Actor.TheVariants.{Worker, Emitter}
use Rattle.handover.specs.declared.outcome.Outcome.{Outcome}
use Rattle.board_core.specs.BoardStates.{SegmentState, BoardState, segment_at, with_segment}
use Rattle.board_core.specs.BoardSteps.{BoardEvent, Claim, Put, Pass, Finish, Take, Advance, Stop, Leave, BoardStep, with_claim, changed_at, with_put, with_passed, with_outcome, with_taken, with_stop, with_leave, with_owner}
use Rattle.board_core.specs.BoardInvariants.{bytes_at}
use Rattle.board_core.specs.LawfulEvents.{LawfulStep, LawfulRun, bytes_handed, bytes_handed_out}
use Rattle.board_core.proofs.EachSegment.{IsBoard}
use Rattle.board_core.proofs.SegmentsAt.{at_same, at_other, owned_within, length-range, at_left}
use Rattle.board_core.proofs.KeptSteps.{keeps}

-- bytes before a segment, and the segment's
concat_next : (ss : List (List ℕ)) (i : ℕ) → concat (take (suc i) ss) ≡ concat (take i ss) ++ bytes_at ss i
concat_next [] zero = refl
concat_next [] (suc i) = refl
concat_next (s ∷ ss) zero = append-nil s
concat_next (s ∷ ss) (suc i) = ap (λ l. s ++ l) (concat_next ss i)
    ∙ sym (append_assoc s (concat (take i ss)) (bytes_at ss i))

concat_rest : (ss : List (List ℕ)) (i : ℕ)
    → concat (take i ss) ++ (bytes_at ss i ++ concat (drop (suc i) ss)) ≡ concat ss
concat_rest [] zero = refl
concat_rest [] (suc i) = refl
concat_rest (s ∷ ss) zero = refl
concat_rest (s ∷ ss) (suc i) = append_assoc s (concat (take i ss)) _ ∙ ap (λ l. s ++ l) (concat_rest ss i)

-- what was handed out so far
abbrev pub handed_to : List (List ℕ) → ℕ → ℕ → List ℕ
handed_to ss cur taken = concat (take cur ss) ++ take taken (bytes_at ss cur)

abbrev pub handed_by : List (List ℕ) → BoardState → List ℕ
handed_by ss b = handed_to ss b.cur (segment_at b b.cur).taken

pub handed_prefix : (ss : List (List ℕ)) (b : BoardState) → (rest : List ℕ)
    × (handed_by ss b ++ rest ≡ concat ss)
handed_prefix ss b =
    let s = bytes_at ss b.cur in
    let n = (segment_at b b.cur).taken in
    let more = concat (drop (suc b.cur) ss) in (
      drop n s ++ more,
      append_assoc (concat (take b.cur ss)) (take n s) (drop n s ++ more)
          ∙ (ap (λ l. concat (take b.cur ss) ++ l) (sym (append_assoc (take n s) (drop n s) more)
          ∙ ap (λ l. l ++ more) (take-append-drop n s)) ∙ concat_rest ss b.cur),
    )

-- a change that takes nothing
same_taken : (b : BoardState) (i : ℕ) (s : SegmentState) (j : ℕ) → i < length b.segments
    → s.taken ≡ (segment_at b i).taken
    → (segment_at (with_segment b i s) j).taken ≡ (segment_at b j).taken
same_taken b i s j lt e = dite (ℕ_discrete j i)
    (λ same. ap (λ k. (segment_at (with_segment b i s) k).taken) same
    ∙ (ap (λ (t : SegmentState). t.taken) (at_same b i s lt)
    ∙ (e ∙ ap (λ k. (segment_at b k).taken) (sym same))))
    (λ ne. ap (λ (t : SegmentState). t.taken) (at_other b i s j ne))

module _ (ss : List (List ℕ)) (os : List Outcome) where
  quiet : (b c : BoardState) → c.cur ≡ b.cur
      → (segment_at c b.cur).taken ≡ (segment_at b b.cur).taken
      → handed_by ss c ≡ handed_by ss b ++ []
  quiet b c cur taken = ap (λ k. handed_to ss k (segment_at c k).taken) cur
      ∙ (ap (handed_to ss b.cur) taken ∙ sym (append-nil (handed_by ss b)))

  more_taken : (b : BoardState) (n : ℕ) (bytes : List ℕ) (s : SegmentState)
      → b.cur < length b.segments → s.taken ≡ (segment_at b b.cur).taken + n
      → bytes ≡ take n (drop (segment_at b b.cur).taken (bytes_at ss b.cur))
      → handed_by ss (with_segment b b.cur s) ≡ handed_by ss b ++ bytes
  more_taken b n bytes s lt e is =
      let t = (segment_at b b.cur).taken in
      ap (handed_to ss b.cur) (ap (λ (x : SegmentState). x.taken) (at_same b b.cur s lt) ∙ e)
      ∙ (ap (λ l. concat (take b.cur ss) ++ l) (take-add t n (bytes_at ss b.cur)
      ∙ ap (λ l. take t (bytes_at ss b.cur) ++ l) (sym is))
      ∙ sym (append_assoc (concat (take b.cur ss)) (take t (bytes_at ss b.cur)) bytes))

  pub hands : (old : BoardState) (e : BoardEvent) (new : BoardState) → IsBoard ss os old
      → LawfulStep ss os old e new → handed_by ss new ≡ handed_by ss old ++ bytes_handed ss old e
  hands old (Claim a) new h l = ap (handed_by ss) l.step.1
      ∙ quiet old (with_claim old a) refl
      (same_taken old old.next (with_owner a (segment_at old old.next)) old.cur l.step.0.more refl)
  hands old (Put w bytes) new h l = ap (handed_by ss) l.step.2
      ∙ quiet old (changed_at old l.step.0 (with_put bytes)) refl
      (same_taken old l.step.0 (with_put bytes (segment_at old l.step.0)) old.cur
      (owned_within old (Worker w) l.step.0 l.step.1.own) refl)
  hands old (Pass n) new h l =
      let own = l.step.0.own in
      ap (handed_by ss) l.step.1
      ∙ more_taken old n _ (with_passed n (segment_at old old.cur))
      (owned_within old Emitter old.cur own) refl (ap
      (λ k. take n (drop k (bytes_at ss old.cur))) (sym ((h.each old.cur).emitter own).1))
  hands old (Finish a o) new h l = ap (handed_by ss) l.step.2
      ∙ quiet old (changed_at old l.step.0 (with_outcome o)) refl
      (same_taken old l.step.0 (with_outcome o (segment_at old l.step.0)) old.cur
      (owned_within old a l.step.0 l.step.1.own) refl)
  hands old (Take n) new h l =
      let s = segment_at old old.cur in
      let f = h.each old.cur in
      let within = l.step.0.within in
      let long : length s.ring ≡ s.put - s.taken = ap length f.ring
      ∙ length-range (bytes_at ss old.cur) s.taken s.put f.within in
      ap (handed_by ss) l.step.1
      ∙ more_taken old n _ (with_taken n s) l.step.0.more refl (ap (take n) f.ring
      ∙ take-take n (s.put - s.taken) (drop s.taken (bytes_at ss old.cur)) (omega arith))
  hands old Advance new h l =
      let i = old.cur in
      let s = segment_at old i in
      let f = h.each i in
      let good = l.step.0.good in
      let end = f.done _ good.1 in
      let all : s.taken ≡ length (bytes_at ss i) = let e =
      ap length (sym f.ring ∙ l.step.0.empty) in
      let k = length-range (bytes_at ss i) s.taken s.put f.within in let o = f.order in
      let p = end.1 in omega arith in
      let zero_taken : (segment_at old (i + 1)).taken ≡ 0 = (h.each (i + 1)).above (omega arith) in
      let whole : take s.taken (bytes_at ss i) ≡ bytes_at ss i =
      take_all s.taken (bytes_at ss i) (omega arith) in
      ap (handed_by ss) l.step.1
      ∙ (ap (handed_to ss (i + 1)) zero_taken
      ∙ (append-nil (concat (take (i + 1) ss))
      ∙ (ap (λ k. concat (take k ss)) (add-one i)
      ∙ (concat_next ss i
      ∙ (ap (λ x. concat (take i ss) ++ x) (sym whole)
      ∙ sym (append-nil (handed_by ss old)))))))
  hands old Stop new h l = ap (handed_by ss) l.step.1 ∙ quiet old (with_stop old) refl refl
  hands old (Leave w) new h l = ap (handed_by ss) l.step.1
      ∙ quiet old (with_leave old w) refl (ap
      (λ (t : SegmentState). t.taken) (at_left old w old.cur))

  pub keeps_all : (old : BoardState) (es : List BoardEvent) (new : BoardState) → IsBoard ss os old
      → LawfulRun ss os old es new → IsBoard ss os new
  keeps_all old [] new h run = subst (IsBoard ss os) (sym run) h
  keeps_all old (e ∷ es) new h run = keeps_all run.0 es new (keeps ss os old e run.0 h run.1) run.2

  pub hands_all : (old : BoardState) (es : List BoardEvent) (new : BoardState) → IsBoard ss os old
      → (run : LawfulRun ss os old es new)
      → handed_by ss new ≡ handed_by ss old ++ bytes_handed_out ss os old es new run
  hands_all old [] new h run = ap (handed_by ss) run ∙ sym (append-nil (handed_by ss old))
  hands_all old (e ∷ es) new h run =
      hands_all run.0 es new (keeps ss os old e run.0 h run.1) run.2
      ∙ (ap (λ l. l ++ bytes_handed_out ss os run.0 es new run.2) (hands old e run.0 h run.1)
      ∙ append_assoc (handed_by ss old) (bytes_handed ss old e)
      (bytes_handed_out ss os run.0 es new run.2))

  room_stays : (old : BoardState) (e : BoardEvent) (new : BoardState) → BoardStep old e new
      → new.capacity ≡ old.capacity
  room_stays old (Claim a) new l = ap (λ (b : BoardState). b.capacity) l.1
  room_stays old (Put w bytes) new l = ap (λ (b : BoardState). b.capacity) l.2
  room_stays old (Pass n) new l = ap (λ (b : BoardState). b.capacity) l.1
  room_stays old (Finish a o) new l = ap (λ (b : BoardState). b.capacity) l.2
  room_stays old (Take n) new l = ap (λ (b : BoardState). b.capacity) l.1
  room_stays old Advance new l = ap (λ (b : BoardState). b.capacity) l.1
  room_stays old Stop new l = ap (λ (b : BoardState). b.capacity) l.1
  room_stays old (Leave w) new l = ap (λ (b : BoardState). b.capacity) l.1

  pub rooms : (old : BoardState) (es : List BoardEvent) (new : BoardState)
      → LawfulRun ss os old es new → new.capacity ≡ old.capacity
  rooms old [] new run = ap (λ (b : BoardState). b.capacity) run
  rooms old (e ∷ es) new run = rooms run.0 es new run.2 ∙ room_stays old e run.0 run.1.step
