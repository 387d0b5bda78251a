-- Each lawful event keeps what always holds of the board.
use Rattle.std.proofs.Common.{◌≡◌, ◌≢◌, ℕ, suc, ◌+◌, ◌-◌, ◌<◌, ◌≤◌, true, false, List, ◌++◌, length, take, drop, set, sym, ap, ◌∙◌, subst, refl, ⊎_elim, ◌⊎◌, inl, inr, true≢false, Some, None, Option, arith, length-drop, length-append, length-set}
use Rattle.std.specs.Prelude.{slice_get, slice_range}
use Rattle.std.proofs.lemmas.List.{length-map}
use mathlib.Core.Logic.{dite}
use native.Mathlib.Decide.{ℕ_discrete, dec_le}
use Rattle.board_core.specs.declared.actor.Actor.{Actor}
use Rattle.board_core.specs.declared.actor.Actor.TheVariants.{Worker, Emitter}
use Rattle.handover.specs.declared.outcome.Outcome.{Outcome}
use Rattle.board_core.specs.BoardStates.{SegmentState, BoardState, segment_at, with_segment, Owns, OwnsNothing, IsPresent, IsGood}
use Rattle.board_core.specs.BoardSteps.{BoardEvent, Claim, Put, Pass, Finish, Take, Advance, Stop, Leave, CanClaim, CanPut, CanPass, CanFinish, CanTake, CanAdvance, CanLeave, with_claim, changed_at, with_put, with_passed, with_outcome, with_taken, with_advance, with_stop, with_leave, owner_without, without_owner, with_owner}
use Rattle.board_core.specs.BoardInvariants.{bytes_at}
use Rattle.board_core.specs.LawfulEvents.{LawfulStep}
use Rattle.board_core.proofs.EachSegment.{IsSegment, IsBoard}
use Rattle.board_core.proofs.SegmentsAt.{at_same, at_other, owned_within, range_more, range_less, length-range, range_none, get_else, at_left, owner_still, owner_stays}

module _ (ss : List (List ℕ)) (os : List Outcome) where
  abbrev Fits : BoardState → ℕ → SegmentState → Type 0
  Fits b i s = IsSegment ss os b.capacity b.next b.cur b.stopped b.left i s

  -- a change of one segment, whose owner is the same or none
  pub keeps_at : (b : BoardState) (i : ℕ) (s : SegmentState) → IsBoard ss os b
      → i < length b.segments → Fits b i s → ((a : Actor) → s.owner ≡ Some a → Owns b a i)
      → IsBoard ss os (with_segment b i s)
  keeps_at b i s h lt fits same =
      let size = length-set b.segments i s in
      let old = λ (a : Actor) (j : ℕ) (own : Owns (with_segment b i s) a j).
      dite {C = Owns b a j} (ℕ_discrete j i)
      (λ e. subst (Owns b a) (sym e)
      (same a (ap (λ (t : SegmentState). t.owner)
      (sym (ap (segment_at (with_segment b i s)) e ∙ at_same b i s lt)) ∙ own)))
      (λ ne. ap (λ (t : SegmentState). t.owner) (sym (at_other b i s j ne)) ∙ own) in
      record {
        bytes = h.bytes ∙ sym size;
        outcomes = h.outcomes ∙ sym size;
        claims = h.claims;
        within = let w = h.within in omega arith;
        each = λ j. dite (ℕ_discrete j i)
            (λ e. subst (λ k. Fits b k (segment_at (with_segment b i s) k)) (sym e)
            (subst (Fits b i) (sym (at_same b i s lt)) fits))
            (λ ne. subst (Fits b j) (sym (at_other b i s j ne)) (h.each j));
        single = λ a j k x y. h.single a j k (old a j x) (old a k y);
      }

  -- an owned segment was claimed and isn't done
  pub owned_facts : (b : BoardState) (a : Actor) (i : ℕ) → IsBoard ss os b → Owns b a i
      → (i < b.next) × ((segment_at b i).done ≡ None) × (b.cur ≤ i)
  owned_facts b a i h own =
      let f = h.each i in (
        dite (dec_le (suc i) b.next) (λ (l : suc i ≤ b.next). omega arith)
            (λ (l : ¬ (suc i ≤ b.next)). let none = (f.fresh (omega arith)).0 in absurd (cc)),
        not_done (segment_at b i).done refl,
        dite (dec_le b.cur i) (λ l. l)
            (λ (l : ¬ (b.cur ≤ i)). let g = f.below (omega arith) in
            let none = (f.done _ g.0.1).2 in absurd (cc)),
      )
    where
      not_done : (d : Option Outcome) → (segment_at b i).done ≡ d → d ≡ None
      not_done None e = refl
      not_done (Some o) e = let none = ((h.each i).done o e).2 in absurd (cc)

  pub put_keeps : (b : BoardState) (w : ℕ) (bytes : List ℕ) (i : ℕ) → IsBoard ss os b
      → CanPut b w (length bytes) i
      → take (length bytes) (drop (segment_at b i).put (bytes_at ss i)) ≡ bytes
      → IsBoard ss os (changed_at b i (with_put bytes))
  put_keeps b w bytes i h can lists =
      let s = segment_at b i in
      let f = h.each i in
      let o = owned_facts b (Worker w) i h can.own in
      let own = can.own in
      let n = length bytes in
      let room = can.room in
      let some = can.some in
      let short : s.put + n ≤ length (bytes_at ss i) = let a = ap length lists in
      let c = Rattle.std.proofs.Common.length-take n (drop s.put (bytes_at ss i)) in
      let d = length-drop s.put (bytes_at ss i) in let e = f.within in omega arith in
      keeps_at b i (with_put bytes s) h (owned_within b (Worker w) i can.own) record {
        fresh = λ late. absurd (let l = o.0 in omega arith);
        order = let l = f.order in omega arith;
        within = short;
        ring = ap (λ r. r ++ bytes) f.ring
            ∙ (ap (λ r. slice_range (bytes_at ss i) s.taken s.put ++ r) (sym lists)
            ∙ range_more (bytes_at ss i) s.taken s.put n f.order);
        room = let l = length-append s.ring bytes in omega arith;
        below = λ l. absurd (let m = o.2 in omega arith);
        above = f.above;
        done = λ x e. let none = o.1 in absurd (cc);
        owned = λ go lt none. (Worker w, own);
        here = f.here;
        emitter = λ e. absurd (let k : Some Emitter ≡ Some (Worker w) = sym e ∙ own in cc);
      } (λ a e. e)

  pub pass_keeps : (b : BoardState) (n : ℕ) → IsBoard ss os b → CanPass b n
      → (segment_at b b.cur).put + n ≤ length (bytes_at ss b.cur)
      → IsBoard ss os (changed_at b b.cur (with_passed n))
  pass_keeps b n h can lists =
      let i = b.cur in
      let s = segment_at b i in
      let f = h.each i in
      let own = can.own in
      let o = owned_facts b Emitter i h own in
      let level : s.taken ≡ s.put = (f.emitter own).1 in
      keeps_at b i (with_passed n s) h (owned_within b Emitter i own) record {
        fresh = λ late. absurd (let l = o.0 in omega arith);
        order = omega arith;
        within = lists;
        ring = f.ring
            ∙ (ap (λ t. slice_range (bytes_at ss i) t s.put) level
            ∙ (range_none (bytes_at ss i) s.put
            ∙ (sym (range_none (bytes_at ss i) (s.put + n))
            ∙ ap (λ t. slice_range (bytes_at ss i) (t + n) (s.put + n)) (sym level))));
        room = f.room;
        below = λ l. absurd (omega arith);
        above = λ l. absurd (omega arith);
        done = λ x e. let none = o.1 in absurd (cc);
        owned = λ go lt none. (Emitter, own);
        here = f.here;
        emitter = λ e. (refl, ap (λ t. t + n) level);
      } (λ a e. e)

  pub finish_keeps : (b : BoardState) (a : Actor) (o : Outcome) (i : ℕ) → IsBoard ss os b
      → CanFinish b a i → ((segment_at b i).put ≡ length (bytes_at ss i))
      × (slice_get os i ≡ Some o) → IsBoard ss os (changed_at b i (with_outcome o))
  finish_keeps b a o i h can lists =
      let s = segment_at b i in
      let f = h.each i in
      let own = can.own in
      let facts = owned_facts b a i h own in
      keeps_at b i (with_outcome o s) h (owned_within b a i own) record {
        fresh = λ late. absurd (let l = facts.0 in omega arith);
        order = f.order;
        within = f.within;
        ring = f.ring;
        room = f.room;
        below = λ l. absurd (let m = facts.2 in omega arith);
        above = f.above;
        done = λ x e. (sym lists.1, lists.0, refl);
        owned = λ go lt none. absurd (cc);
        here = λ w e. absurd (cc);
        emitter = λ e. absurd (cc);
      } (λ x e. absurd (cc))

  pub take_keeps : (b : BoardState) (n : ℕ) → IsBoard ss os b → CanTake b n
      → IsBoard ss os (changed_at b b.cur (with_taken n))
  take_keeps b n h can =
      let i = b.cur in
      let s = segment_at b i in
      let f = h.each i in
      let within = can.within in
      let some = can.some in
      let long : length s.ring ≡ s.put - s.taken = ap length f.ring
      ∙ length-range (bytes_at ss i) s.taken s.put f.within in
      keeps_at b i (with_taken n s) h can.more record {
        fresh = λ late. absurd (let e = ap length ((f.fresh late).2) in omega arith);
        order = let l = f.order in omega arith;
        within = f.within;
        ring = ap (drop n) f.ring
            ∙ range_less (bytes_at ss i) s.taken s.put n (let l = f.order in omega arith);
        room = let l = length-drop n s.ring in let r = f.room in omega arith;
        below = λ l. absurd (omega arith);
        above = λ l. absurd (omega arith);
        done = f.done;
        owned = f.owned;
        here = f.here;
        emitter = λ e. let level = (f.emitter e).1 in absurd (omega arith);
      } (λ a e. e)

  pub claim_keeps : (b : BoardState) (a : Actor) → IsBoard ss os b → CanClaim b a
      → IsBoard ss os (with_claim b a)
  claim_keeps b a h can =
      let i = b.next in
      let s = segment_at b i in
      let f = h.each i in
      let new = with_owner a s in
      let more = can.more in
      let none = f.fresh (omega arith) in
      let size = length-set b.segments i new in
      let c = with_segment b i new in
      let mine : segment_at c i ≡ new = at_same b i new more in
      let who = λ (x : Actor) (j : ℕ) (own : Owns c x j).
      dite {C = ((j ≡ i) × (a ≡ x)) ⊎ ((j ≢ i) × Owns b x j)} (ℕ_discrete j i)
      (λ e. let k : Some a ≡ Some x =
      sym (ap (λ (t : SegmentState). t.owner) (ap (segment_at c) e ∙ mine)) ∙ own in
      inl (e, cc))
      (λ ne. inr (ne, ap (λ (t : SegmentState). t.owner) (sym (at_other b i new j ne)) ∙ own)) in
      record {
        bytes = h.bytes ∙ sym size;
        outcomes = h.outcomes ∙ sym size;
        claims = let l = h.claims in omega arith;
        within = omega arith;
        each = λ j. dite (ℕ_discrete j i)
            (λ e. subst (λ k.
            IsSegment ss os b.capacity (b.next + 1) b.cur b.stopped b.left k (segment_at c k))
            (sym e) (subst (IsSegment ss os b.capacity (b.next + 1) b.cur b.stopped b.left i)
            (sym mine) record {
              fresh = λ late. absurd (omega arith);
              order = f.order;
              within = f.within;
              ring = f.ring;
              room = f.room;
              below = λ l. absurd (let m = h.claims in omega arith);
              above = f.above;
              done = λ o e. let k = none.3 in absurd (cc);
              owned = λ go lt d. (a, refl);
              here = λ w e. let k : a ≡ Worker w = cc in subst (IsPresent b) k can.present;
              emitter = λ e. let k : a ≡ Emitter = cc in
                  (can.turn k, let p = none.1 in let q = f.order in omega arith);
            }))
            (λ ne. let g = h.each j in
            subst (IsSegment ss os b.capacity (b.next + 1) b.cur b.stopped b.left j)
            (sym (at_other b i new j ne)) record {
              fresh = λ late. g.fresh (omega arith);
              order = g.order;
              within = g.within;
              ring = g.ring;
              room = g.room;
              below = g.below;
              above = g.above;
              done = g.done;
              owned = λ go lt d. g.owned go (omega arith) d;
              here = g.here;
              emitter = g.emitter;
            });
        single = λ x j k ej ek. ⊎_elim
            (λ (u : (j ≡ i) × (a ≡ x)). ⊎_elim (λ (v : (k ≡ i) × (a ≡ x)). u.0 ∙ sym v.0)
            (λ (v : (k ≢ i) × Owns b x k). absurd (can.idle k (v.1 ∙ ap Some (sym u.1))))
            (who x k ek))
            (λ (u : (j ≢ i) × Owns b x j). ⊎_elim
            (λ (v : (k ≡ i) × (a ≡ x)). absurd (can.idle j (u.1 ∙ ap Some (sym v.1))))
            (λ (v : (k ≢ i) × Owns b x k). h.single x j k u.1 v.1) (who x k ek))
            (who x j ej);
      }

  pub advance_keeps : (b : BoardState) → IsBoard ss os b → CanAdvance b → IsBoard ss os (with_advance b)
  advance_keeps b h can =
      let i = b.cur in
      let s = segment_at b i in
      let f = h.each i in
      let good = can.good in
      let end = f.done _ good.1 in
      let all : s.taken ≡ length (bytes_at ss i) = let e = ap length (sym f.ring ∙ can.empty) in
      let l = length-range (bytes_at ss i) s.taken s.put f.within in let o = f.order in
      let p = end.1 in omega arith in
      record {
        bytes = h.bytes;
        outcomes = h.outcomes;
        claims = dite (dec_le (suc b.cur) b.next) (λ (l : suc b.cur ≤ b.next). omega arith)
            (λ (l : ¬ (suc b.cur ≤ b.next)). let none = (f.fresh (omega arith)).3 in
            let k : None ≡ Some _ = sym none ∙ good.1 in absurd (cc));
        within = h.within;
        each = λ j. let g = h.each j in record {
          fresh = g.fresh;
          order = g.order;
          within = g.within;
          ring = g.ring;
          room = g.room;
          below = λ l. dite (ℕ_discrete j i)
              (λ e. subst (λ k. IsGood (segment_at b k).done
              × ((segment_at b k).taken ≡ length (bytes_at ss k))) (sym e) (good, all))
              (λ ne. g.below (omega arith));
          above = λ l. g.above (omega arith);
          done = g.done;
          owned = g.owned;
          here = g.here;
          emitter = λ e. let k = g.emitter e in
              let own : (segment_at b i).owner ≡ Some Emitter = subst
              (λ x. (segment_at b x).owner ≡ Some Emitter) k.0 e in let none = end.2 in absurd (cc);
        };
        single = h.single;
      }

  pub stop_keeps : (b : BoardState) → IsBoard ss os b → IsBoard ss os (with_stop b)
  stop_keeps b h = record {
    bytes = h.bytes;
    outcomes = h.outcomes;
    claims = h.claims;
    within = h.within;
    each = λ j. let g = h.each j in record {
      fresh = g.fresh;
      order = g.order;
      within = g.within;
      ring = g.ring;
      room = g.room;
      below = g.below;
      above = g.above;
      done = g.done;
      owned = λ go lt d. absurd (true≢false go);
      here = g.here;
      emitter = g.emitter;
    };
    single = h.single;
  }

  pub leave_keeps : (b : BoardState) (w : ℕ) → IsBoard ss os b → CanLeave b w → IsBoard ss os (with_leave b w)
  leave_keeps b w h can =
      let size = length-map b.segments (without_owner w) in
      let old = λ (x : Actor) (j : ℕ) (own : Owns (with_leave b w) x j).
      owner_still w (segment_at b j).owner x (ap
      (λ (t : SegmentState). t.owner) (sym (at_left b w j)) ∙ own) in
      record {
        bytes = h.bytes ∙ sym size;
        outcomes = h.outcomes ∙ sym size;
        claims = h.claims;
        within = let l = h.within in omega arith;
        each = λ j. let g = h.each j in let s = segment_at b j in
            subst (IsSegment ss os b.capacity b.next b.cur b.stopped (set b.left w true) j)
            (sym (at_left b w j)) record {
              fresh = λ late. let k = g.fresh late in (ap (owner_without w) k.0, k.1, k.2, k.3);
              order = g.order;
              within = g.within;
              ring = g.ring;
              room = g.room;
              below = g.below;
              above = g.above;
              done = λ o e. let k = g.done o e in (k.0, k.1, ap (owner_without w) k.2);
              owned = λ go lt d. ⊎_elim
                  (λ (stop : b.stopped ≡ true). absurd (true≢false (sym stop ∙ go)))
                  (λ (over : (b.next ≡ length b.segments) × OwnsNothing b (Worker w)). let k =
                  g.owned go lt d in (k.0, owner_stays w s.owner (over.1 j) ∙ k.1)) can.over;
              here = λ v e. let k = owner_still w s.owner (Worker v) e in
                  get_else b.left w v true (λ same. k.1 (ap Worker same)) ∙ g.here v k.0;
              emitter = λ e. g.emitter (owner_still w s.owner Emitter e).0;
            };
        single = λ x j k ej ek. h.single x j k (old x j ej).0 (old x k ek).0;
      }

  -- each lawful event keeps the board
  pub keeps : (old : BoardState) (e : BoardEvent) (new : BoardState) → IsBoard ss os old
      → LawfulStep ss os old e new → IsBoard ss os new
  keeps old (Claim a) new h l = subst (IsBoard ss os) (sym l.step.1) (claim_keeps old a h l.step.0)
  keeps old (Put w bytes) new h l =
      subst (IsBoard ss os) (sym l.step.2)
      (put_keeps old w bytes l.step.0 h l.step.1 (l.lists l.step.0 l.step.1.own))
  keeps old (Pass n) new h l = subst (IsBoard ss os) (sym l.step.1) (pass_keeps old n h l.step.0 l.lists)
  keeps old (Finish a o) new h l =
      subst (IsBoard ss os) (sym l.step.2)
      (finish_keeps old a o l.step.0 h l.step.1 (l.lists l.step.0 l.step.1.own))
  keeps old (Take n) new h l = subst (IsBoard ss os) (sym l.step.1) (take_keeps old n h l.step.0)
  keeps old Advance new h l = subst (IsBoard ss os) (sym l.step.1) (advance_keeps old h l.step.0)
  keeps old Stop new h l = subst (IsBoard ss os) (sym l.step.1) (stop_keeps old h)
  keeps old (Leave w) new h l = subst (IsBoard ss os) (sym l.step.1) (leave_keeps old w h l.step.0)
