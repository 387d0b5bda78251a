-- View: what ties a board to what its seats know (docs/THREADS.md, The seats).
use Rattle.std.specs.Prelude.{◌≡◌, ℕ, ◌+◌, ◌<◌, ◌≤◌, ◌⊎◌, true, false, List, length, Some, None, slice_get}
use mathlib.Core.Option.{some}
use lib.ListN.{get_elem?}
use Rattle.handover.specs.declared.outcome.Outcome.{Outcome}
use Rattle.board_core.specs.declared.actor.Actor.TheVariants.{Worker, Emitter}
use Rattle.board_core.specs.BoardStates.{BoardState, segment_at, Owns, OwnsNothing}
use Rattle.board_core.specs.BoardSteps.{count_limit}
use Rattle.board_core.specs.BoardInvariants.{bytes_at, BoardInvariant}
use Rattle.output_board.specs.declared.view.View.{View}
use Rattle.output_board.specs.declared.view.EmitterView.{EmitterView}
use Rattle.output_board.specs.declared.view.WorkerView.{WorkerView}
use Rattle.output_board.specs.declared.view.Role.{Role}
use Rattle.output_board.specs.declared.view.Role.TheVariants.{Emits, Works}

-- the emitter's view says which segment is emitted and how many of its bytes are taken, whether the emitter owns it,
-- whether the board is stopped, how many workers there are, and how many bytes each ring has room for
pub record FitsEmitter (b : BoardState) (e : EmitterView) : Type 0 where
  pub cur : e.cur ≡ b.cur
  pub taken : e.taken ≡ (segment_at b b.cur).taken
  pub owns : e.owns ≡ true → Owns b Emitter b.cur
  pub free : e.owns ≡ false → OwnsNothing b Emitter
  pub stopped : e.stopped ≡ b.stopped
  pub workers : e.workers ≡ length b.left
  pub capacity : e.capacity ≡ b.capacity

-- a worker can do nothing more
abbrev pub IsOverFor : BoardState → ℕ → Type 0
IsOverFor b w =
    (b.stopped ≡ true) ⊎ ((b.next ≡ length b.segments) × OwnsNothing b (Worker w))

-- a worker's view says which segment it owns, or that it owns none, how many bytes of it are put, whether it left, and
-- perhaps that all is over for it
pub record FitsWorker (b : BoardState) (w : WorkerView) : Type 0 where
  pub own : (i : ℕ) → w.segment ≡ Some i
      → Owns b (Worker w.number) i × (w.put ≡ (segment_at b i).put)
  pub free : w.segment ≡ None → OwnsNothing b (Worker w.number)
  pub over : w.over ≡ true → IsOverFor b w.number
  pub left : slice_get b.left w.number ≡ Some w.left

-- a worker without a seat owns nothing, and hasn't left
pub record IsUnseated (b : BoardState) (w : ℕ) : Type 0 where
  pub free : OwnsNothing b (Worker w)
  pub here : w < length b.left → slice_get b.left w ≡ Some false

-- the seat rule, for contents with these bytes and outcomes
module _ {C : Type 0} (bytes : C → List (List ℕ)) (outcomes : C → List Outcome) where
  -- a board fits the views of all seats: they are for one content, for which `BoardInvariant` holds of the board; the
  -- emitter's is the first, and worker w's the one with index w + 1; no segment has 2^64 bytes; a ring has room for one
  pub record Fits (b : BoardState) (views : List (View C)) : Type 0 where
    pub content : C
    pub same : (j : ℕ) (v : View C) → get_elem? views j ≡ some v → v.content.value ≡ content
    pub board : BoardInvariant (bytes content) (outcomes content) b
    pub short : (i : ℕ) → length (bytes_at (bytes content) i) < count_limit
    pub room : 1 ≤ b.capacity
    pub claims : (j : ℕ) (v : View C) → get_elem? views j ≡ some v → v.claims ≤ b.next
    pub emitter : (j : ℕ) (v : View C) (e : EmitterView)
        → get_elem? views j ≡ some v → v.role ≡ Emits e
        → (j ≡ 0) × (length views ≡ e.made + 1) × FitsEmitter b e
    pub workers : (j : ℕ) (v : View C) (w : WorkerView)
        → get_elem? views j ≡ some v → v.role ≡ Works w
        → (j ≡ w.number + 1) × FitsWorker b w
    pub unmade : (w : ℕ) → length views ≤ w + 1 → IsUnseated b w

-- the emitter's view with one worker's seat more
abbrev pub with_one_made : EmitterView → EmitterView
with_one_made e = record e { made = e.made + 1 }

-- the view of a worker's new seat
abbrev pub new_worker : ℕ → WorkerView
new_worker number =
    record { number = number; segment = None; put = 0; over = false; left = false }

-- the emitter's seat may be split while workers' seats are still to make, and no other
abbrev pub RoleMaySplit : Role → Type 0
RoleMaySplit (Emits e) = e.made < e.workers
RoleMaySplit (Works w) = ⊥

-- the role from which a seat was split
abbrev pub role_with_one_made : Role → Role
role_with_one_made (Emits e) = Emits (with_one_made e)
role_with_one_made (Works w) = Works w

-- the role of the seat that was split off
abbrev pub new_role : Role → Role
new_role (Emits e) = Works (new_worker e.made)
new_role (Works w) = Works w

module _ {C : Type 0} where
  -- which view may be split
  abbrev pub MaySplit : View C → Type 0
  MaySplit v = RoleMaySplit v.role

  -- the view from which one was split
  abbrev pub view_with_one_made : View C → View C
  view_with_one_made v = record v { role = role_with_one_made v.role }

  -- the view that was split off
  abbrev pub new_view : View C → View C
  new_view v = record v { claims = 0; role = new_role v.role }
