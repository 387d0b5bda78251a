-- What an event leaves to the others.
use Rattle.std.proofs.Common.{◌≡◌, ◌≢◌, ℕ, ◌+◌, ◌<◌, ◌≤◌, true, length, sym, ap, ◌∙◌, subst, refl, Some, None, arith, length-set}
use Rattle.std.proofs.lemmas.List.{length-map}
use mathlib.Core.Logic.{dite}
use native.Mathlib.Decide.{ℕ_discrete}
use Rattle.board_core.specs.declared.actor.Actor.{Actor}
use Rattle.board_core.specs.declared.actor.Actor.TheVariants.{Worker, Emitter}
use Rattle.board_core.specs.BoardStates.{SegmentState, BoardState, segment_at, with_segment, Owns}
use Rattle.board_core.specs.BoardSteps.{BoardEvent, Claim, Put, Pass, Finish, Take, Advance, Stop, Leave, BoardStep, with_put, with_passed, with_outcome, with_taken, with_owner, without_owner}
use Rattle.board_core.specs.BoardFrames.{actor_of, LeavesOthers, LeavesEmitted}
use Rattle.board_core.proofs.SegmentsAt.{at_same, at_other, owned_within, get_else, at_left, owner_still, owner_stays}

-- a change of one segment: whoever but one actor owns it before or after owns it still, with as many bytes
pub leaves_at : (a : Actor) (b : BoardState) (i : ℕ) (s : SegmentState) → i < length b.segments
    → ((x : Actor) → x ≢ a → (segment_at b i).owner ≡ Some x → (s.owner ≡ Some x)
    × (s.put ≡ (segment_at b i).put))
    → ((x : Actor) → x ≢ a → s.owner ≡ Some x → (segment_at b i).owner ≡ Some x)
    → LeavesOthers a b (with_segment b i s)
leaves_at a b i s lt on back =
    let c = with_segment b i s in
    let same = at_same b i s lt in
    record {
      still = λ x j ne own. dite {C = Owns c x j} (ℕ_discrete j i)
          (λ e. ap (λ k. (segment_at c k).owner) e
          ∙ (ap (λ (t : SegmentState). t.owner) same
          ∙ (on x ne (ap (λ k. (segment_at b k).owner) (sym e) ∙ own)).0))
          (λ other. ap (λ (t : SegmentState). t.owner) (at_other b i s j other) ∙ own);
      before = λ x j ne own. dite {C = Owns b x j} (ℕ_discrete j i)
          (λ e. ap (λ k. (segment_at b k).owner) e
          ∙ back x ne (ap (λ (t : SegmentState). t.owner) (sym same)
          ∙ (ap (λ k. (segment_at c k).owner) (sym e) ∙ own)))
          (λ other. ap (λ (t : SegmentState). t.owner) (sym (at_other b i s j other)) ∙ own);
      put = λ x j ne own. dite {C = (segment_at c j).put ≡ (segment_at b j).put} (ℕ_discrete j i)
          (λ e. ap (λ k. (segment_at c k).put) e
          ∙ (ap (λ (t : SegmentState). t.put) same
          ∙ ((on x ne (ap (λ k. (segment_at b k).owner) (sym e) ∙ own)).1
          ∙ ap (λ k. (segment_at b k).put) (sym e))))
          (λ other. ap (λ (t : SegmentState). t.put) (at_other b i s j other));
      left = λ w ne. refl;
      stopped = λ e. e;
      next = omega arith;
      size = length-set b.segments i s;
      workers = refl;
      capacity = refl;
    }

one : (x a : Actor) → Some a ≡ Some x → a ≡ x
one x a e = cc

one_more : (n : ℕ) → n ≤ n + 1
one_more n = omega arith

pub frame : (old : BoardState) (e : BoardEvent) (new : BoardState)
    → (segment_at old old.next).owner ≡ None → BoardStep old e new
    → LeavesOthers (actor_of e) old new
frame old (Claim a) new free l =
    let f = leaves_at a old old.next (with_owner a (segment_at old old.next)) l.0.more
    (λ x ne own. absurd (let k : None ≡ Some x = sym free ∙ own in cc))
    (λ x ne own. absurd (ne (sym (one x a own)))) in
    subst (LeavesOthers a old)
    (sym l.1) record {
      still = f.still;
      before = f.before;
      put = f.put;
      left = f.left;
      stopped = f.stopped;
      next = one_more old.next;
      size = f.size;
      workers = f.workers;
      capacity = f.capacity;
    }
frame old (Put w bytes) new free l =
    let i = l.0 in let s = segment_at old i in
    subst (LeavesOthers (Worker w) old) (sym l.2)
    (leaves_at (Worker w) old i (with_put bytes s) (owned_within old (Worker w) i l.1.own)
    (λ x ne own. absurd (ne (sym (one x (Worker w) (sym l.1.own ∙ own)))))
    (λ x ne own. own))
frame old (Pass n) new free l =
    let i = old.cur in let s = segment_at old i in
    subst (LeavesOthers Emitter old) (sym l.1)
    (leaves_at Emitter old i (with_passed n s) (owned_within old Emitter i l.0.own)
    (λ x ne own. absurd (ne (sym (one x Emitter (sym l.0.own ∙ own)))))
    (λ x ne own. own))
frame old (Finish a o) new free l =
    let i = l.0 in let s = segment_at old i in
    subst (LeavesOthers a old) (sym l.2) (leaves_at a old i (with_outcome o s) (owned_within old a i l.1.own)
    (λ x ne own. absurd (ne (sym (one x a (sym l.1.own ∙ own)))))
    (λ x ne own. absurd (cc)))
frame old (Take n) new free l =
    subst (LeavesOthers Emitter old) (sym l.1)
    (leaves_at Emitter old old.cur (with_taken n (segment_at old old.cur)) l.0.more
    (λ x ne own. (own, refl)) (λ x ne own. own))
frame old Advance new free l =
    subst (LeavesOthers Emitter old)
    (sym l.1) record {
      still = λ x i ne own. own;
      before = λ x i ne own. own;
      put = λ x i ne own. refl;
      left = λ w ne. refl;
      stopped = λ e. e;
      next = omega arith;
      size = refl;
      workers = refl;
      capacity = refl;
    }
frame old Stop new free l =
    subst (LeavesOthers Emitter old)
    (sym l.1) record {
      still = λ x i ne own. own;
      before = λ x i ne own. own;
      put = λ x i ne own. refl;
      left = λ w ne. refl;
      stopped = λ e. refl;
      next = omega arith;
      size = refl;
      workers = refl;
      capacity = refl;
    }
frame old (Leave w) new free l = subst (LeavesOthers (Worker w) old) (sym l.1) record {
  still = λ x i ne own. ap (λ (t : SegmentState). t.owner) (at_left old w i)
      ∙ (owner_stays w (segment_at old i).owner (λ e. ne (sym (one x (Worker w) (sym e ∙ own))))
      ∙ own);
  before = λ x i ne own.
      (owner_still w (segment_at old i).owner x (ap
      (λ (t : SegmentState). t.owner) (sym (at_left old w i)) ∙ own)).0;
  put = λ x i ne own. ap (λ (t : SegmentState). t.put) (at_left old w i);
  left = λ v ne. get_else old.left w v true (λ e. ne (ap Worker e));
  stopped = λ e. e;
  next = omega arith;
  size = length-map old.segments (without_owner w);
  workers = length-set old.left w true;
  capacity = refl;
}

-- a worker's event leaves what is emitted
emitted_at : (b : BoardState) (i : ℕ) (s : SegmentState) → i < length b.segments
    → s.taken ≡ (segment_at b i).taken
    → (segment_at (with_segment b i s) b.cur).taken ≡ (segment_at b b.cur).taken
emitted_at b i s lt e =
    dite {C = (segment_at (with_segment b i s) b.cur).taken ≡ (segment_at b b.cur).taken}
    (ℕ_discrete b.cur i)
    (λ same. ap (λ k. (segment_at (with_segment b i s) k).taken) same
    ∙ (ap (λ (t : SegmentState). t.taken) (at_same b i s lt)
    ∙ (e ∙ ap (λ k. (segment_at b k).taken) (sym same))))
    (λ ne. ap (λ (t : SegmentState). t.taken) (at_other b i s b.cur ne))

pub worker_frame : (old : BoardState) (e : BoardEvent) (new : BoardState) (w : ℕ)
    → actor_of e ≡ Worker w → BoardStep old e new → LeavesEmitted old new
worker_frame old (Claim a) new w is l =
    subst (LeavesEmitted old)
    (sym l.1) record {
      cur = refl;
      taken = emitted_at old old.next (with_owner a (segment_at old old.next)) l.0.more refl;
      stopped = refl;
    }
worker_frame old (Put v bytes) new w is l =
    subst (LeavesEmitted old)
    (sym l.2) record {
      cur = refl;
      taken = emitted_at old l.0 (with_put bytes (segment_at old l.0))
          (owned_within old (Worker v) l.0 l.1.own) refl;
      stopped = refl;
    }
worker_frame old (Pass n) new w is l = absurd (cc)
worker_frame old (Finish a o) new w is l =
    subst (LeavesEmitted old)
    (sym l.2) record {
      cur = refl;
      taken = emitted_at old l.0 (with_outcome o (segment_at old l.0))
          (owned_within old a l.0 l.1.own) refl;
      stopped = refl;
    }
worker_frame old (Take n) new w is l = absurd (cc)
worker_frame old Advance new w is l = absurd (cc)
worker_frame old Stop new w is l = absurd (cc)
worker_frame old (Leave v) new w is l =
    subst (LeavesEmitted old)
    (sym l.1) record {
      cur = refl;
      taken = ap (λ (t : SegmentState). t.taken) (at_left old v old.cur);
      stopped = refl;
    }
