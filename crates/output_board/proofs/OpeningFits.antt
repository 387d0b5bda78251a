-- The board before the first event fits the emitter's view, and the seats as they are made.
use Rattle.std.proofs.Common.{◌≡◌, ℕ, zero, suc, ◌+◌, ◌<◌, ◌≤◌, List, [], ◌∷◌, length, replicate, sym, ap, ◌∙◌, subst, refl, false, true≢false, Some, None, get_or, arith}
use Rattle.std.proofs.lemmas.List.{length-replicate}
use Rattle.std.specs.Prelude.{slice_get}
use mathlib.Core.Option.{some, some-injective, some-ne-none}
use lib.ListN.{get_elem?}
use Rattle.handover.specs.declared.outcome.Outcome.{Outcome}
use Rattle.board_core.specs.declared.actor.Actor.{Actor}
use Rattle.board_core.specs.BoardStates.{SegmentState, unclaimed_segment, opening_board, OwnsNothing}
use Rattle.board_core.specs.BoardSteps.{count_limit}
use Rattle.board_core.specs.BoardInvariants.{bytes_at}
use Rattle.board_core.proofs.EachSegment.{from_board}
use Rattle.board_core.proofs.OpeningBoard.{opens}
use Rattle.output_board.specs.declared.view.View.{View}
use Rattle.output_board.specs.declared.view.EmitterView.{EmitterView}
use Rattle.output_board.specs.declared.view.Role.TheVariants.{Emits}
use Rattle.output_board.specs.SeatRule.{Fits, FitsEmitter}
use Rattle.output_board.specs.Seats.{new_emitter}
use Rattle.output_board.proofs.BoardKept.{not_both}
use Rattle.output_board.specs.Splits.{same_emitter}

nobody : (k i : ℕ) → get_or (replicate k unclaimed_segment) i unclaimed_segment ≡ unclaimed_segment
nobody zero i = refl
nobody (suc k) zero = refl
nobody (suc k) (suc i) = nobody k i

nobody_owns : (k capacity workers : ℕ) (a : Actor) → OwnsNothing (opening_board k capacity workers) a
nobody_owns k capacity workers a i own =
    let e : None ≡ Some a = sym (ap (λ (s : SegmentState). s.owner) (nobody k i)) ∙ own in cc

all_here : (n w : ℕ) → w < length (replicate n false) → slice_get (replicate n false) w ≡ Some false
all_here zero w few = absurd (omega arith)
all_here (suc n) zero few = refl
all_here (suc n) (suc w) few = all_here n w (omega arith)

only : {A : Type 0} (v u : A) (j : ℕ) → get_elem? (v ∷ []) j ≡ some u → (j ≡ 0) × (v ≡ u)
only v u zero e = (refl, some-injective v u e)
only v u (suc j) e = absurd (some-ne-none u (sym e))

module _ {C : Type 0} (bytes : C → List (List ℕ)) (outcomes : C → List Outcome) where
  pub opening_fits : (k capacity workers : ℕ) (v : View C) → v.claims ≡ 0
      → v.role ≡ Emits (new_emitter 0 workers capacity)
      → length (bytes v.content.value) ≡ k → length (outcomes v.content.value) ≡ k
      → ((i : ℕ) → length (bytes_at (bytes v.content.value) i) < count_limit) → 1 ≤ capacity
      → Fits bytes outcomes (opening_board k capacity workers) (v ∷ [])
  opening_fits k capacity workers v claims role many ends short room =
      let b = opening_board k capacity workers in
      let ss = bytes v.content.value in
      let os = outcomes v.content.value in
      record {
        content = v.content.value;
        same = λ j u e. ap (λ (z : View C). z.content.value) (sym (only v u j e).1);
        board = from_board ss os b (opens ss os k capacity workers many ends);
        short = short;
        room = room;
        claims = λ j u e. subst (λ (z : View C). z.claims ≤ 0) (only v u j e).1 (omega (arith, claims));
        emitter = λ j u f e is.
            let o = only v u j e in
            subst (λ (g : EmitterView). (j ≡ 0) × (length (v ∷ []) ≡ g.made + 1) × FitsEmitter b g)
            (same_emitter (new_emitter 0 workers capacity) f
            (sym role ∙ (ap (λ (z : View C). z.role) o.1 ∙ is))) (
              o.0,
              refl,
              record {
                cur = refl;
                taken = sym (ap (λ (s : SegmentState). s.taken) (nobody k 0));
                owns = λ own. absurd (true≢false (sym own));
                free = λ _. nobody_owns k capacity workers _;
                stopped = refl;
                workers = sym (length-replicate workers false);
                capacity = refl;
              },
            );
        workers = λ j u w e is. absurd (not_both w (new_emitter 0 workers capacity)
            (sym is ∙ (ap (λ (z : View C). z.role) (sym (only v u j e).1) ∙ role)));
        unmade = λ w l.
            record { free = nobody_owns k capacity workers _; here = all_here workers w };
      }
