-- View: the board as the program keeps it (own).
use Rattle.std.specs.Prelude.{◌≡◌, ℕ, ◌+◌, ◌≤◌, List, length, map, All, Some, slice_index_or}
use Rattle.board_core.specs.declared.actor.Actor.{Actor}
use Rattle.board_core.specs.declared.segment.Segment.{Segment}
use Rattle.board_core.specs.BoardStates.{SegmentState, unclaimed_segment}

-- a segment as clauses see it
abbrev pub state_of : Segment → SegmentState
state_of s =
    record { owner = s.owner; put = s.put; taken = s.taken; ring = s.ring.items; done = s.done }

-- all segments as clauses see them
abbrev pub states_of : List Segment → List SegmentState
states_of l = map state_of l

-- the segment at an index as clauses see it
abbrev pub kept_at : List Segment → ℕ → SegmentState
kept_at l i = slice_index_or (states_of l) i unclaimed_segment

-- what always holds of a segment: its ring has the board's capacity, and what was put and not taken waits
pub record IsKept (capacity : ℕ) (s : Segment) : Type 0 where
  pub room : s.ring.capacity ≡ capacity
  pub within : length s.ring.items ≤ capacity
  pub waits : s.taken + length s.ring.items ≡ s.put

-- what always holds of a board: at most 255 segments, and no actor owns two
pub record IsCore (capacity : ℕ) (l : List Segment) : Type 0 where
  pub few : length l ≤ 255
  pub each : All (IsKept capacity) l
  pub single : (a : Actor) (i j : ℕ)
      → (kept_at l i).owner ≡ Some a → (kept_at l j).owner ≡ Some a → i ≡ j
