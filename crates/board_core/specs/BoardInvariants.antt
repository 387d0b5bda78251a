-- View: what always holds of the board, for the bytes and the outcome of each segment (docs/THREADS.md, The board).
use Rattle.std.specs.Prelude.{◌≡◌, ℕ, ◌<◌, ◌≤◌, false, List, [], length, Option, Some, None, slice_get, slice_range, slice_index_or}
use Rattle.board_core.specs.declared.actor.Actor.{Actor}
use Rattle.board_core.specs.declared.actor.Actor.TheVariants.{Emitter}
use Rattle.handover.specs.declared.outcome.Outcome.{Outcome}
use Rattle.board_core.specs.BoardStates.{SegmentState, BoardState, segment_at, Owns, IsPresent, IsGood}

-- the bytes of the segment at an index
abbrev pub bytes_at : List (List ℕ) → ℕ → List ℕ
bytes_at ss i = slice_index_or ss i []

-- a segment with no owner, no bytes and no outcome
pub record IsUntouched (s : SegmentState) : Type 0 where
  pub owner : s.owner ≡ None
  pub put : s.put ≡ 0
  pub ring : s.ring ≡ []
  pub done : s.done ≡ None

-- the bytes of a segment that wait: those put and not taken, and no more than the capacity
pub record IsBetween (bytes : List ℕ) (capacity : ℕ) (s : SegmentState) : Type 0 where
  pub order : s.taken ≤ s.put
  pub within : s.put ≤ length bytes
  pub ring : s.ring ≡ slice_range bytes s.taken s.put
  pub room : length s.ring ≤ capacity

-- a complete segment, all of it emitted
pub record IsEmitted (bytes : List ℕ) (s : SegmentState) : Type 0 where
  pub good : IsGood s.done
  pub all : s.taken ≡ length bytes

-- a segment that ended with its listed outcome, all of it put, and that nobody owns
pub record IsDoneBy (bytes : List ℕ) (outcome : Option Outcome) (s : SegmentState) : Type 0 where
  pub own : s.done ≡ outcome
  pub all : s.put ≡ length bytes
  pub free : s.owner ≡ None

-- what always holds of the board, for segments with these bytes and outcomes
pub record BoardInvariant (ss : List (List ℕ)) (os : List Outcome) (b : BoardState) : Type 0 where
  pub bytes : length ss ≡ length b.segments
  pub outcomes : length os ≡ length b.segments
  pub claims : b.cur ≤ b.next
  pub within : b.next ≤ length b.segments
  pub fresh : (i : ℕ) → b.next ≤ i → IsUntouched (segment_at b i)
  pub between : (i : ℕ) → IsBetween (bytes_at ss i) b.capacity (segment_at b i)
  pub below : (i : ℕ) → i < b.cur → IsEmitted (bytes_at ss i) (segment_at b i)
  pub above : (i : ℕ) → b.cur < i → (segment_at b i).taken ≡ 0
  pub done : (i : ℕ) (o : Outcome) → (segment_at b i).done ≡ Some o
      → IsDoneBy (bytes_at ss i) (slice_get os i) (segment_at b i)
  pub owned : b.stopped ≡ false → (i : ℕ) → i < b.next → (segment_at b i).done ≡ None
      → (a : Actor) × Owns b a i
  pub present : (a : Actor) (i : ℕ) → Owns b a i → IsPresent b a
  pub single : (a : Actor) (i j : ℕ) → Owns b a i → Owns b a j → i ≡ j
  pub emitter : (i : ℕ) → Owns b Emitter i
      → (i ≡ b.cur) × ((segment_at b i).taken ≡ (segment_at b i).put)
