-- Law: what the seat rule says of the views of all seats (own).
use Rattle.std.specs.Prelude.{◌≡◌, ℕ, ◌⊎◌, List, length, true, Option, Some}
use mathlib.Core.Option.{some}
use lib.ListN.{get_elem?}
use Rattle.handover.specs.declared.outcome.Outcome.{Outcome}
use Rattle.board_core.specs.BoardStates.{BoardState}
use Rattle.output_board.specs.declared.view.View.{View}
use Rattle.output_board.specs.declared.view.EmitterView.{EmitterView}
use Rattle.output_board.specs.declared.view.WorkerView.{WorkerView}
use Rattle.output_board.specs.declared.view.Role.TheVariants.{Emits}
use Rattle.output_board.specs.declared.seen.Seen.{Seen}
use Rattle.output_board.specs.declared.answers.Claim.{Claim}
use Rattle.output_board.specs.declared.answers.Claim.TheVariants.{NoneLeft, Stopped}
use Rattle.output_board.specs.SeatRule.{Fits}
use Rattle.output_board.specs.Releases.{IsSeen, own_segment}
use Rattle.output_board.specs.Seats.{SeatValue}
use Rattle.output_board.specs.Answers.{ClaimGives}

-- the board is stopped, or no segment is left to claim
abbrev pub HasNoneToClaim : BoardState → Type 0
HasNoneToClaim b = (b.stopped ≡ true) ⊎ (b.next ≡ length b.segments)

-- the emitter's view, for the given number of segments, says that all are emitted, or that it stopped the board
abbrev pub IsThrough : ℕ → EmitterView → Type 0
IsThrough count e = (e.cur ≡ count) ⊎ (e.stopped ≡ true)

-- a claim, for the given number of segments, whose last hold saw this board, returns NoneLeft or Stopped
abbrev pub ClaimsFindNothing : Type 0 → BoardState → ℕ → Type 0
ClaimsFindNothing C b count =
    (old new : SeatValue C WorkerView) (answer : Claim)
    (own : Option ℕ) (kind amount : ℕ) (seen : Seen)
    → new.last ≡ Some (kind, amount, seen) → IsSeen own seen b
    → ClaimGives count old new answer
    → (answer ≡ NoneLeft) ⊎ (answer ≡ Stopped)

module _ {C : Type 0} (bytes : C → List (List ℕ)) (outcomes : C → List Outcome) where
  -- if the emitter is through, no segment is left to claim, and each claim finds that
  abbrev pub LateClaimsFindNothing : Type 0
  LateClaimsFindNothing =
      (b : BoardState) (views : List (View C)) (j : ℕ) (v : View C) (e : EmitterView)
      → Fits bytes outcomes b views → get_elem? views j ≡ some v → v.role ≡ Emits e
      → IsThrough (length (bytes v.content.value)) e
      → HasNoneToClaim b × ClaimsFindNothing C b (length (bytes v.content.value))

  -- at most one of all views names a segment as its seat's own
  abbrev pub SegmentsHaveOneOwner : Type 0
  SegmentsHaveOneOwner =
      (b : BoardState) (views : List (View C)) (j k : ℕ) (u v : View C) (i : ℕ)
      → Fits bytes outcomes b views → get_elem? views j ≡ some u → get_elem? views k ≡ some v
      → own_segment u.role ≡ Some i → own_segment v.role ≡ Some i
      → j ≡ k
