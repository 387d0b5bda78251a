-- The opening state.
use Rattle.std.proofs.Common.{◌≡◌, ℕ, zero, suc, false, List, [], length, get_or, replicate, sym, ap, ◌∙◌, subst, refl, Some, None, arith}
use Rattle.std.proofs.lemmas.List.{length-replicate}
use Rattle.std.specs.Prelude.{take, ◌++◌}
use Rattle.std.specs.List.{concat}
use Rattle.handover.specs.declared.outcome.Outcome.{Outcome}
use Rattle.board_core.specs.BoardStates.{opening_board, SegmentState, segment_at, unclaimed_segment}
use Rattle.board_core.specs.BoardInvariants.{bytes_at}
use Rattle.board_core.proofs.EachSegment.{IsSegment, IsBoard}

nobody : (k i : ℕ) → get_or (replicate k unclaimed_segment) i unclaimed_segment ≡ unclaimed_segment
nobody zero i = refl
nobody (suc k) zero = refl
nobody (suc k) (suc i) = nobody k i

pub opens : (ss : List (List ℕ)) (os : List Outcome) (k capacity workers : ℕ) → length ss ≡ k
    → length os ≡ k → IsBoard ss os (opening_board k capacity workers)
opens ss os k capacity workers many ends =
    let size = length-replicate k unclaimed_segment in
    let b = opening_board k capacity workers in
    record {
      bytes = many ∙ sym size;
      outcomes = ends ∙ sym size;
      claims = omega arith;
      within = omega arith;
      each = λ i. subst (IsSegment ss os capacity 0 0 false (replicate workers false) i)
          (sym (nobody k i)) record {
            fresh = λ _. (refl, refl, refl, refl);
            order = omega arith;
            within = omega arith;
            ring = refl;
            room = omega arith;
            below = λ l. absurd (omega arith);
            above = λ _. refl;
            done = λ o e. absurd (cc);
            owned = λ go l _. absurd (omega arith);
            here = λ w e. absurd (cc);
            emitter = λ e. absurd (cc);
          };
      single = λ a i j own _. absurd (let e : None ≡ Some a =
          sym (ap (λ (s : SegmentState). s.owner) (nobody k i)) ∙ own in cc);
    }

-- nothing was handed out yet
pub handed_nothing : (ss : List (List ℕ)) (k capacity workers : ℕ)
    → concat (take 0 ss) ++ take (segment_at (opening_board k capacity workers) 0).taken
    (bytes_at ss 0) ≡ []
handed_nothing ss k capacity workers = ap (λ (s : SegmentState). take s.taken (bytes_at ss 0)) (nobody k 0)
