-- Statement: the state of the board (docs/THREADS.md, The board).
use Rattle.std.specs.Prelude.{◌≡◌, ◌≢◌, ℕ, ◌⊎◌, Bool, true, false, List, [], length, replicate, Option, Some, None, slice_get, slice_set, slice_index_or}
use Rattle.board_core.specs.declared.actor.Actor.{Actor}
use Rattle.board_core.specs.declared.actor.Actor.TheVariants.{Worker, Emitter}
use Rattle.handover.specs.declared.outcome.Outcome.{Outcome}
use Rattle.handover.specs.declared.pads.PadSum.{PadSum}
use Rattle.handover.specs.declared.outcome.Outcome.TheVariants.{Good}

-- a segment: its owner, how many of its bytes were put and taken so far, the bytes that wait in its ring, and its
-- outcome once it has one
pub record SegmentState : Type 0 where
  pub owner : Option Actor
  pub put : ℕ
  pub taken : ℕ
  pub ring : List ℕ
  pub done : Option Outcome

-- the board: the capacity of each ring, the first segment that nobody has claimed, the one that is emitted, the
-- segments, whether the board was stopped, and for each worker whether it left
pub record BoardState : Type 0 where
  pub capacity : ℕ
  pub next : ℕ
  pub cur : ℕ
  pub segments : List SegmentState
  pub stopped : Bool
  pub left : List Bool

-- a segment that nobody has claimed
abbrev pub unclaimed_segment : SegmentState
unclaimed_segment = record { owner = None; put = 0; taken = 0; ring = []; done = None }

-- the board before the first event, with k segments
abbrev pub opening_board : ℕ → ℕ → ℕ → BoardState
opening_board k capacity workers =
    record {
      capacity = capacity;
      next = 0;
      cur = 0;
      segments = replicate k unclaimed_segment;
      stopped = false;
      left = replicate workers false;
    }

-- the segment at an index; after the last one, an unclaimed one
abbrev pub segment_at : BoardState → ℕ → SegmentState
segment_at b i = slice_index_or b.segments i unclaimed_segment

-- the board with another segment at an index
abbrev pub with_segment : BoardState → ℕ → SegmentState → BoardState
with_segment b i s = record b { segments = slice_set b.segments i s }

-- an actor owns the segment at an index
abbrev pub Owns : BoardState → Actor → ℕ → Type 0
Owns b a i = (segment_at b i).owner ≡ Some a

-- an actor owns no segment
abbrev pub OwnsNothing : BoardState → Actor → Type 0
OwnsNothing b a = (i : ℕ) → (segment_at b i).owner ≢ Some a

-- one of the board's workers, which hasn't left, or the emitter, which never leaves
abbrev pub IsPresent : BoardState → Actor → Type 0
IsPresent b (Worker w) = slice_get b.left w ≡ Some false
IsPresent b Emitter = Unit {0}

-- a good outcome
abbrev pub IsGood : Option Outcome → Type 0
IsGood done = (pads : PadSum) × (done ≡ Some (Good pads))

-- all workers left, and all segments are emitted or the board is stopped
abbrev pub IsEnded : BoardState → Type 0
IsEnded b =
    ((w : ℕ) → slice_get b.left w ≢ Some false)
    × ((b.stopped ≡ true) ⊎ (b.cur ≡ length b.segments))
