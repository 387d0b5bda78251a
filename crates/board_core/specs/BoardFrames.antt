-- Steps: what each event changes, and what it leaves as it was (own).
use Rattle.std.specs.Prelude.{◌≡◌, ◌≢◌, ℕ, ◌+◌, ◌≤◌, length, None, Some, true, slice_get}
use Rattle.board_core.specs.declared.actor.Actor.{Actor}
use Rattle.board_core.specs.declared.actor.Actor.TheVariants.{Worker, Emitter}
use Rattle.board_core.specs.BoardStates.{SegmentState, BoardState, segment_at, Owns}
use Rattle.board_core.specs.BoardSteps.{BoardEvent, Claim, Put, Pass, Finish, Take, Advance, Stop, Leave, with_owner, without_owner}

-- one segment is changed by f, and all else is as it was
pub record ChangesOnly (i : ℕ) (f : SegmentState → SegmentState)
    (old new : BoardState) : Type 0 where
  pub changed : segment_at new i ≡ f (segment_at old i)
  pub others : (j : ℕ) → j ≢ i → segment_at new j ≡ segment_at old j
  pub size : length new.segments ≡ length old.segments
  pub next : new.next ≡ old.next
  pub cur : new.cur ≡ old.cur
  pub stopped : new.stopped ≡ old.stopped
  pub left : new.left ≡ old.left
  pub capacity : new.capacity ≡ old.capacity

-- an actor owns the segment that was next, the one after it is next, and all else is as it was
pub record IsAfterClaim (a : Actor) (old new : BoardState) : Type 0 where
  pub changed : segment_at new old.next ≡ with_owner a (segment_at old old.next)
  pub others : (j : ℕ) → j ≢ old.next → segment_at new j ≡ segment_at old j
  pub size : length new.segments ≡ length old.segments
  pub next : new.next ≡ old.next + 1
  pub cur : new.cur ≡ old.cur
  pub stopped : new.stopped ≡ old.stopped
  pub left : new.left ≡ old.left
  pub capacity : new.capacity ≡ old.capacity

-- a worker left and owns nothing, and all else is as it was
pub record IsAfterLeave (w : ℕ) (old new : BoardState) : Type 0 where
  pub segments : (i : ℕ) → segment_at new i ≡ without_owner w (segment_at old i)
  pub gone : slice_get new.left w ≡ Some true
  pub others : (v : ℕ) → v ≢ w → slice_get new.left v ≡ slice_get old.left v
  pub workers : length new.left ≡ length old.left
  pub size : length new.segments ≡ length old.segments
  pub next : new.next ≡ old.next
  pub cur : new.cur ≡ old.cur
  pub stopped : new.stopped ≡ old.stopped
  pub capacity : new.capacity ≡ old.capacity

-- whose event it is
abbrev pub actor_of : BoardEvent → Actor
actor_of (Claim a) = a
actor_of (Put w bytes) = Worker w
actor_of (Pass n) = Emitter
actor_of (Finish a o) = a
actor_of (Take n) = Emitter
actor_of Advance = Emitter
actor_of Stop = Emitter
actor_of (Leave w) = Worker w

-- nobody owns the next segment
abbrev pub NextIsFree : BoardState → Type 0
NextIsFree b = (segment_at b b.next).owner ≡ None

-- all actors but one own what they owned, with the same number of bytes put, and have left or not as before; a stopped
-- board stays stopped
pub record LeavesOthers (a : Actor) (old new : BoardState) : Type 0 where
  pub still : (b : Actor) (i : ℕ) → b ≢ a → Owns old b i → Owns new b i
  pub before : (b : Actor) (i : ℕ) → b ≢ a → Owns new b i → Owns old b i
  pub put : (b : Actor) (i : ℕ) → b ≢ a → Owns old b i
      → (segment_at new i).put ≡ (segment_at old i).put
  pub left : (w : ℕ) → Worker w ≢ a → slice_get new.left w ≡ slice_get old.left w
  pub stopped : old.stopped ≡ true → new.stopped ≡ true
  pub next : old.next ≤ new.next
  pub size : length new.segments ≡ length old.segments
  pub workers : length new.left ≡ length old.left
  pub capacity : new.capacity ≡ old.capacity

-- the same segment is emitted, as far as before, and the board is stopped or not as before
pub record LeavesEmitted (old new : BoardState) : Type 0 where
  pub cur : new.cur ≡ old.cur
  pub taken : (segment_at new old.cur).taken ≡ (segment_at old old.cur).taken
  pub stopped : new.stopped ≡ old.stopped
