-- View: what clauses see of a crew (own).
use Rattle.std.specs.Prelude.{◌≡◌, ℕ, Bool, List}
use Rattle.output_board.specs.declared.view.EmitterView.{EmitterView}
use Rattle.output_board.specs.declared.view.WorkerView.{WorkerView}
use Rattle.segment_worker.specs.Contents.{Stretch}

-- one who decodes: what its seat last saw of the board, how many segments it claimed, and how many its decoder began
pub record Member (V : Type 0) : Type 0 where
  pub view : V
  pub claims : ℕ
  pub begun : ℕ

-- a crew: its segments, the emitter, the workers, and whether it was used
pub record CrewSeen : Type 0 where
  pub segments : Stretch
  pub emitter : Member EmitterView
  pub team : List (Member WorkerView)
  pub used : Bool

-- each began as many segments as it claimed
abbrev pub HasBegunItsClaims : {V : Type 0} → Member V → Type 0
HasBegunItsClaims member = member.begun ≡ member.claims
