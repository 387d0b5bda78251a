-- View: a seat, as clauses see it (own).
use Rattle.std.specs.Prelude.{◌≡◌, ℕ, ◌+◌, List, [], ◌∷◌, ◌++◌, zero, suc, Option, None, false}
use Rattle.atomic_table.specs.Seated.{TableId}
use Rattle.output_board.specs.declared.view.EmitterView.{EmitterView}
use Rattle.output_board.specs.declared.view.WorkerView.{WorkerView}
use Rattle.output_board.specs.declared.seen.Seen.{Seen}
use Rattle.output_board.specs.SeatRule.{new_worker}

-- a seat: of which board it is, for which content, its view, how many segments it has claimed, how often it held the
-- board, the last hold: its kind, its amount and what it saw, and how often the seat rang the bell
pub record SeatValue (C V : Type 0) : Type 0 where
  pub table : TableId
  pub content : C
  pub view : V
  pub claims : ℕ
  pub holds : ℕ
  pub last : Option (ℕ × ℕ × Seen)
  pub rings : ℕ

-- the emitter's view before the first event, with rings of this capacity
abbrev pub new_emitter : ℕ → ℕ → ℕ → EmitterView
new_emitter made workers capacity = record {
  made = made;
  workers = workers;
  capacity = capacity;
  cur = 0;
  taken = 0;
  owns = false;
  stopped = false;
}

module _ {C : Type 0} where
  -- a seat that hasn't held the board yet, nor rung its bell
  abbrev pub new_seat : {V : Type 0} → TableId → C → V → SeatValue C V
  new_seat table content view = record {
    table = table;
    content = content;
    view = view;
    claims = 0;
    holds = 0;
    last = None;
    rings = 0;
  }

  -- the emitter's seat before the first event
  abbrev pub new_emitter_seat : TableId → C → ℕ → ℕ → SeatValue C EmitterView
  new_emitter_seat table content workers capacity =
      new_seat table content (new_emitter workers workers capacity)

  -- the seats of the given number of workers before the first event, in the order of their numbers
  abbrev pub new_worker_seats : TableId → C → ℕ → List (SeatValue C WorkerView)
  new_worker_seats table content zero = []
  new_worker_seats table content (suc w) =
      new_worker_seats table content w ++ new_seat table content (new_worker w) ∷ []

  -- the same seat after one hold
  pub record HasHeldOnce {V : Type 0} (old new : SeatValue C V) : Type 0 where
    pub table : new.table ≡ old.table
    pub content : new.content ≡ old.content
    pub holds : new.holds ≡ old.holds + 1

  -- a call rang the bell once: what it changed may be what another seat waits for
  abbrev pub HasRung : {V : Type 0} → SeatValue C V → SeatValue C V → Type 0
  HasRung old new = new.rings ≡ old.rings + 1

  -- a call didn't ring the bell
  abbrev pub HasNotRung : {V : Type 0} → SeatValue C V → SeatValue C V → Type 0
  HasNotRung old new = new.rings ≡ old.rings
