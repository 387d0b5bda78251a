-- Steps: the events of the board, the condition of each, and what it changes (docs/THREADS.md, The board).
use Rattle.std.specs.Prelude.{◌≡◌, ℕ, ◌+◌, ◌^◌, ◌<◌, ◌≤◌, ◌⊎◌, true, false, List, [], ◌++◌, length, drop, map, ◌==◌, if◌then◌else◌, Option, Some, None, slice_set}
use Rattle.board_core.specs.declared.actor.Actor.{Actor}
use Rattle.board_core.specs.declared.actor.Actor.TheVariants.{Worker, Emitter}
use Rattle.handover.specs.declared.outcome.Outcome.{Outcome}
use Rattle.board_core.specs.BoardStates.{SegmentState, BoardState, segment_at, with_segment, Owns, OwnsNothing, IsPresent, IsGood}

-- an event; the bytes that are put are a list
pub data BoardEvent : Type 0 where
  Claim : (who : Actor) → BoardEvent
  Put : (worker : ℕ) → (bytes : List ℕ) → BoardEvent
  Pass : (count : ℕ) → BoardEvent
  Finish : (who : Actor) → (outcome : Outcome) → BoardEvent
  Take : (count : ℕ) → BoardEvent
  Advance : BoardEvent
  Stop : BoardEvent
  Leave : (worker : ℕ) → BoardEvent

-- the condition of Claim: an idle actor that is present, and the emitter only if the segment is the one emitted
pub record CanClaim (b : BoardState) (a : Actor) : Type 0 where
  pub going : b.stopped ≡ false
  pub more : b.next < length b.segments
  pub present : IsPresent b a
  pub idle : OwnsNothing b a
  pub turn : a ≡ Emitter → b.next ≡ b.cur

-- the condition of Put: there is a byte, and the ring of the worker's segment has room for all of them
pub record CanPut (b : BoardState) (w count i : ℕ) : Type 0 where
  pub going : b.stopped ≡ false
  pub own : Owns b (Worker w) i
  pub some : 1 ≤ count
  pub room : length (segment_at b i).ring + count ≤ b.capacity

-- the condition of Pass: the emitter owns the segment that is emitted
pub record CanPass (b : BoardState) (count : ℕ) : Type 0 where
  pub going : b.stopped ≡ false
  pub own : Owns b Emitter b.cur
  pub some : 1 ≤ count

-- the condition of Finish: the segment has this owner
pub record CanFinish (b : BoardState) (a : Actor) (i : ℕ) : Type 0 where
  pub going : b.stopped ≡ false
  pub own : Owns b a i

-- the condition of Take: at least this number of bytes of the segment that is emitted wait
pub record CanTake (b : BoardState) (count : ℕ) : Type 0 where
  pub going : b.stopped ≡ false
  pub more : b.cur < length b.segments
  pub some : 1 ≤ count
  pub within : count ≤ length (segment_at b b.cur).ring

-- the condition of Advance: the segment that is emitted is complete, and no byte of it waits
pub record CanAdvance (b : BoardState) : Type 0 where
  pub going : b.stopped ≡ false
  pub more : b.cur < length b.segments
  pub good : IsGood (segment_at b b.cur).done
  pub empty : (segment_at b b.cur).ring ≡ []

-- the condition of Leave: the worker can do nothing more
pub record CanLeave (b : BoardState) (w : ℕ) : Type 0 where
  pub present : IsPresent b (Worker w)
  pub over : (b.stopped ≡ true) ⊎ ((b.next ≡ length b.segments) × OwnsNothing b (Worker w))

-- the condition of an event
abbrev pub IsEnabled : BoardState → BoardEvent → Type 0
IsEnabled b (Claim a) = CanClaim b a
IsEnabled b (Put w bytes) = (i : ℕ) × CanPut b w (length bytes) i
IsEnabled b (Pass n) = CanPass b n
IsEnabled b (Finish a o) = (i : ℕ) × CanFinish b a i
IsEnabled b (Take n) = CanTake b n
IsEnabled b Advance = CanAdvance b
IsEnabled b Stop = b.stopped ≡ false
IsEnabled b (Leave w) = CanLeave b w

-- counts of bytes stay below this number
abbrev pub count_limit : ℕ
count_limit = 2 ^ 64

-- the number of bytes put of the event's segment fits
abbrev pub CountsFit : BoardState → BoardEvent → Type 0
CountsFit b (Put w bytes) =
    (i : ℕ) → Owns b (Worker w) i → (segment_at b i).put + length bytes < count_limit
CountsFit b (Pass n) = (segment_at b b.cur).put + n < count_limit
CountsFit b _ = Unit {0}

-- a segment that an actor claimed
abbrev pub with_owner : Actor → SegmentState → SegmentState
with_owner a s = record s { owner = Some a }

-- a segment with more bytes in its ring
abbrev pub with_put : List ℕ → SegmentState → SegmentState
with_put bytes s = record s { put = s.put + length bytes; ring = s.ring ++ bytes }

-- a segment of which n more bytes were passed, not through its ring
abbrev pub with_passed : ℕ → SegmentState → SegmentState
with_passed n s = record s { put = s.put + n; taken = s.taken + n }

-- a segment that ended, which nobody owns
abbrev pub with_outcome : Outcome → SegmentState → SegmentState
with_outcome o s = record s { owner = None; done = Some o }

-- a segment without the first n bytes of its ring
abbrev pub with_taken : ℕ → SegmentState → SegmentState
with_taken n s = record s { taken = s.taken + n; ring = drop n s.ring }

-- the owner once a worker left: the same, or none if it was that worker
abbrev pub owner_without : ℕ → Option Actor → Option Actor
owner_without w None = None
owner_without w (Some Emitter) = Some Emitter
owner_without w (Some (Worker v)) = if v == w then None else Some (Worker v)

-- a segment once a worker left
abbrev pub without_owner : ℕ → SegmentState → SegmentState
without_owner w s = record s { owner = owner_without w s.owner }

-- the board with one segment changed
abbrev pub changed_at : BoardState → ℕ → (SegmentState → SegmentState) → BoardState
changed_at b i f = with_segment b i (f (segment_at b i))

-- the board after Claim
abbrev pub with_claim : BoardState → Actor → BoardState
with_claim b a = record (changed_at b b.next (with_owner a)) { next = b.next + 1 }

-- the board after Advance
abbrev pub with_advance : BoardState → BoardState
with_advance b = record b { cur = b.cur + 1 }

-- the board after Stop
abbrev pub with_stop : BoardState → BoardState
with_stop b = record b { stopped = true }

-- the board after Leave
abbrev pub with_leave : BoardState → ℕ → BoardState
with_leave b w =
    record b { segments = map (without_owner w) b.segments; left = slice_set b.left w true }

-- one event: its condition holds of the old board, and the new board is the old one with the event's change
abbrev pub BoardStep : BoardState → BoardEvent → BoardState → Type 0
BoardStep old (Claim a) new = CanClaim old a × (new ≡ with_claim old a)
BoardStep old (Put w bytes) new =
    (i : ℕ) × CanPut old w (length bytes) i × (new ≡ changed_at old i (with_put bytes))
BoardStep old (Pass n) new = CanPass old n × (new ≡ changed_at old old.cur (with_passed n))
BoardStep old (Finish a o) new =
    (i : ℕ) × CanFinish old a i × (new ≡ changed_at old i (with_outcome o))
BoardStep old (Take n) new = CanTake old n × (new ≡ changed_at old old.cur (with_taken n))
BoardStep old Advance new = CanAdvance old × (new ≡ with_advance old)
BoardStep old Stop new = (old.stopped ≡ false) × (new ≡ with_stop old)
BoardStep old (Leave w) new = CanLeave old w × (new ≡ with_leave old w)
