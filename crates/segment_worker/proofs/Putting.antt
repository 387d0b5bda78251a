-- A worker's bytes, put into its ring.
use Rattle.std.proofs.Common.{◌≡◌, ℕ, zero, suc, ◌+◌, ◌≤◌, List, [], ◌∷◌, length, take, drop, sym, ap, subst, ◌∙◌, arith, Some}
use lib.Seq.{drop-drop}
use lib.ListN.{length-drop}
use Rattle.board_core.specs.BoardInvariants.{bytes_at}
use Rattle.output_board.specs.declared.view.WorkerView.{WorkerView}
use Rattle.output_board.specs.Answers.{HasNext, IsAtEnd}
use Rattle.std.specs.Prelude.{slice_get}
use Rattle.handover.specs.declared.outcome.Outcome.{Outcome}
use Rattle.segment_code.specs.FileDecoding.{FileDecoderSeen}
use Rattle.segment_code.specs.declared.step.Step.{Step}
use Rattle.segment_worker.specs.Contents.{Stretch, segments_bytes, segments_outcomes}
use Rattle.segment_worker.specs.OwnSegments.{OwesRest}
use Rattle.segment_worker.proofs.Tails.{first_of_rest}
use Rattle.segment_worker.proofs.OwnPieces.{PaysAll, owed_next}

-- the bytes after the first ones come next, once those are put
pub next_after : (ss : List (List ℕ)) (w : WorkerView) (bytes : List ℕ) (put : ℕ) (now : WorkerView)
    → put ≤ length bytes → HasNext ss w bytes → now ≡ record w { put = w.put + put }
    → HasNext ss now (drop put bytes)
next_after ss w bytes put now within n view =
    let s = bytes_at ss n.index in
    let long = length-drop put bytes in
    let rest : take (length (drop put bytes)) (drop (w.put + put) s) ≡ drop put bytes =
    ap (take (length (drop put bytes))) (sym (drop-drop put w.put s))
    ∙ taken_later (drop w.put s) bytes put within n.next in
    subst (λ (x : WorkerView). HasNext ss x (drop put bytes)) (sym view)
    (record { index = n.index; segment = n.segment; next = rest })
  where
    taken_later : (xs bytes : List ℕ) (put : ℕ) → put ≤ length bytes → take (length bytes) xs ≡ bytes
        → take (length (drop put bytes)) (drop put xs) ≡ drop put bytes
    taken_later xs bytes zero within e = e
    taken_later xs [] (suc put) within e = absurd (omega (arith, within))
    taken_later [] (b ∷ bytes) (suc put) within e = absurd (cc)
    taken_later (x ∷ xs) (b ∷ bytes) (suc put) within e =
        taken_later xs bytes put (omega (arith, within)) (ap (drop 1) e)

-- a piece of a segment that is owed comes next
pub piece_next : (v : Stretch) (i : ℕ) (w : WorkerView) (step : Step) (out : List ℕ)
    (old new : FileDecoderSeen) (seat : Stretch) → w.segment ≡ Some i → seat ≡ v
    → OwesRest v i w.put old → PaysAll step out old new → HasNext (segments_bytes seat) w out
piece_next v i w step out old new seat segment content owes pays =
    let next = owed_next v i w.put step out old new owes pays in
    subst (λ (c : Stretch). HasNext (segments_bytes c) w out) (sym content) (record {
      index = i;
      segment = segment;
      next = first_of_rest (bytes_at (segments_bytes v) i) out next.0 w.put next.1;
    })

-- the last piece was put
pub at_end : (v : Stretch) (i put : ℕ) (w : WorkerView) (o : Outcome) (out : List ℕ) (seat : Stretch)
    → w.segment ≡ Some i → w.put ≡ put + length out → seat ≡ v
    → (put + length out ≡ length (bytes_at (segments_bytes v) i))
    × (slice_get (segments_outcomes v) i ≡ Some o)
    → IsAtEnd (segments_bytes seat) (segments_outcomes seat) w o
at_end v i put w o out seat segment count content f =
    subst (λ (c : Stretch). IsAtEnd (segments_bytes c) (segments_outcomes c) w o) (sym content) (record {
      index = i;
      segment = segment;
      all = count ∙ f.0;
      outcome = f.1;
    })
