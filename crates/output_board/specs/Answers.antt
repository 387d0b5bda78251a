-- Steps: what the calls ask of a seat's view, and what they make of it and return (own). Each answer says what
-- changed of the view, then facts of the result, then what the call's one hold found (`seen`) and recorded; beside it
-- stands after which answers the bell rang. `ss` and `os` are the bytes and the outcomes of the segments.
use Rattle.std.specs.Prelude.{◌≡◌, ◌≢◌, ℕ, ◌+◌, ◌<◌, ◌≤◌, ◌⊎◌, min, take, drop, ◌==◌, if◌then◌else◌, List, ◌++◌, length, true, false, Some, None, slice_get}
use Rattle.handover.specs.declared.outcome.Outcome.{Outcome}
use Rattle.handover.specs.declared.outcome.Outcome.TheVariants.{Good, Bad}
use Rattle.board_core.specs.BoardInvariants.{bytes_at}
use Rattle.output_board.specs.declared.view.EmitterView.{EmitterView}
use Rattle.output_board.specs.declared.view.WorkerView.{WorkerView}
use Rattle.output_board.specs.declared.seen.Seen.{Seen}
use Rattle.output_board.specs.declared.answers.Claim.{Claim}
use Rattle.output_board.specs.declared.answers.Claim.TheVariants.{Segment, NoneLeft, Stopped as ClaimStopped}
use Rattle.output_board.specs.declared.answers.Put.{Put}
use Rattle.output_board.specs.declared.answers.Put.TheVariants.{Took, Stopped as PutStopped}
use Rattle.output_board.specs.declared.answers.Finish.{Finish}
use Rattle.output_board.specs.declared.answers.Finish.TheVariants.{Kept, Stopped as FinishStopped}
use Rattle.output_board.specs.declared.answers.Take.{Take}
use Rattle.output_board.specs.declared.answers.Take.TheVariants.{Bytes, Ended, Unclaimed, NotYet, Over}
use Rattle.output_board.specs.declared.answers.Own.{Own}
use Rattle.output_board.specs.declared.answers.Own.TheVariants.{Mine, Other}
use Rattle.output_board.specs.Releases.{worker_after, emitter_after, claims_after, Action, kind_of, Nothing, FindsOver, Claims, Puts, Passes, Finishes, Takes, Advances, Stops, Leaves}
use Rattle.output_board.specs.Seats.{SeatValue, HasRung, HasNotRung}

-- put: the worker owns a segment, and these are its next bytes
pub record HasNext (ss : List (List ℕ)) (w : WorkerView) (bytes : List ℕ) : Type 0 where
  pub index : ℕ
  pub segment : w.segment ≡ Some index
  pub next : take (length bytes) (drop w.put (bytes_at ss index)) ≡ bytes

-- finish: the worker owns a segment, all of whose bytes are put, and this is its outcome
pub record IsAtEnd (ss : List (List ℕ)) (os : List Outcome) (w : WorkerView) (o : Outcome)
    : Type 0 where
  pub index : ℕ
  pub segment : w.segment ≡ Some index
  pub all : w.put ≡ length (bytes_at ss index)
  pub outcome : slice_get os index ≡ Some o

-- the last hold of a seat had this action and amount and saw this, and changed view and claims as the action does
pub record HasTold {C V : Type 0} (after : V → Action → ℕ → ℕ → V) (old new : SeatValue C V)
    (action : Action) (amount : ℕ) (seen : Seen) : Type 0 where
  pub last : new.last ≡ Some (kind_of action, amount, seen)
  pub view : new.view ≡ after old.view action amount seen.next
  pub claims : new.claims ≡ claims_after old.claims action

module _ {C : Type 0} where
  -- a hold of a worker's seat
  abbrev pub WorkerTold : SeatValue C WorkerView → SeatValue C WorkerView
      → Action → ℕ → Seen → Type 0
  WorkerTold old new action amount seen = HasTold worker_after old new action amount seen

  -- a hold of the emitter's seat, which saw that the segment of its view is emitted
  abbrev pub EmitterTold : SeatValue C EmitterView → SeatValue C EmitterView
      → Action → ℕ → Seen → Type 0
  EmitterTold old new action amount seen =
      HasTold emitter_after old new action amount seen × (seen.cur ≡ old.view.cur)

  -- claim, for the given number of segments: Segment if the board isn't stopped and one is left, NoneLeft if it isn't
  -- stopped and none is, Stopped if it is; a seat has claimed no more segments than were claimed at all
  abbrev pub ClaimGives : ℕ → SeatValue C WorkerView → SeatValue C WorkerView → Claim → Type 0
  ClaimGives count old new (Segment i) =
      (new.view ≡ record old.view { segment = Some i; put = 0 })
      × (new.claims ≤ i + 1)
      × (seen : Seen) × WorkerTold old new Claims 0 seen
      × (seen.stopped ≡ false) × (seen.next < count) × (i ≡ seen.next)
  ClaimGives count old new NoneLeft =
      (new.view ≡ record old.view { over = true })
      × (seen : Seen) × WorkerTold old new FindsOver 0 seen
      × (seen.stopped ≡ false) × (seen.next ≡ count)
  ClaimGives count old new ClaimStopped =
      (new.view ≡ record old.view { over = true })
      × (seen : Seen) × WorkerTold old new FindsOver 0 seen × (seen.stopped ≡ true)

  -- claim rings the bell if it returns a segment
  abbrev pub ClaimRings : SeatValue C WorkerView → SeatValue C WorkerView → Claim → Type 0
  ClaimRings old new (Segment _) = HasRung old new
  ClaimRings old new NoneLeft = HasNotRung old new
  ClaimRings old new ClaimStopped = HasNotRung old new

  -- put, of the given number of bytes: Took n if the board isn't stopped and the ring had room for n of them
  abbrev pub PutGives : ℕ → SeatValue C WorkerView → SeatValue C WorkerView → Put → Type 0
  PutGives count old new (Took n) =
      (new.view ≡ record old.view { put = old.view.put + n })
      × (seen : Seen) × WorkerTold old new (if n == 0 then Nothing else Puts) n seen
      × (seen.stopped ≡ false) × (n ≡ min count seen.free)
  PutGives count old new PutStopped =
      (new.view ≡ record old.view { over = true })
      × (seen : Seen) × WorkerTold old new FindsOver 0 seen × (seen.stopped ≡ true)

  -- put rings the bell if it took a byte
  abbrev pub PutRings : SeatValue C WorkerView → SeatValue C WorkerView → Put → Type 0
  PutRings old new (Took n) = (n ≡ 0 → HasNotRung old new) × (1 ≤ n → HasRung old new)
  PutRings old new PutStopped = HasNotRung old new

  -- finish: Kept if the board isn't stopped
  abbrev pub FinishGives : SeatValue C WorkerView → SeatValue C WorkerView → Finish → Type 0
  FinishGives old new Kept =
      (new.view ≡ record old.view { segment = None })
      × (seen : Seen) × WorkerTold old new Finishes 0 seen × (seen.stopped ≡ false)
  FinishGives old new FinishStopped =
      (new.view ≡ record old.view { over = true })
      × (seen : Seen) × WorkerTold old new FindsOver 0 seen × (seen.stopped ≡ true)

  -- finish rings the bell if it kept the outcome
  abbrev pub FinishRings : SeatValue C WorkerView → SeatValue C WorkerView → Finish → Type 0
  FinishRings old new Kept = HasRung old new
  FinishRings old new FinishStopped = HasNotRung old new

  -- leave
  abbrev pub LeaveGives : SeatValue C WorkerView → SeatValue C WorkerView → Type 0
  LeaveGives old new =
      (new.view ≡ record old.view { segment = None; left = true })
      × (seen : Seen) × WorkerTold old new Leaves 0 seen

  -- take, by what the buffer was and is: Bytes n if bytes wait; Ended if none does and the segment has its outcome;
  -- Unclaimed if nobody has claimed it; NotYet if somebody has, no byte waits and it isn't done; Over if all segments
  -- are emitted
  abbrev pub TakeGives : List (List ℕ) → List Outcome
      → SeatValue C EmitterView → SeatValue C EmitterView → List ℕ → List ℕ → Take → Type 0
  TakeGives ss os old new before now (Bytes n) =
      (new.view ≡ record old.view { taken = old.view.taken + n })
      × (now ≡ take n (drop old.view.taken (bytes_at ss old.view.cur)) ++ drop n before)
      × (seen : Seen) × EmitterTold old new Takes n seen
      × (1 ≤ seen.length) × (n ≡ min seen.length (length before))
  TakeGives ss os old new before now (Ended (Good pads)) =
      (new.view ≡ record old.view { cur = old.view.cur + 1; taken = 0 })
      × (now ≡ before)
      × (slice_get os old.view.cur ≡ Some (Good pads))
      × (old.view.taken ≡ length (bytes_at ss old.view.cur))
      × (seen : Seen) × EmitterTold old new Advances 0 seen
      × (seen.length ≡ 0) × (seen.done ≡ true)
  TakeGives ss os old new before now (Ended (Bad fault)) =
      (new.view ≡ old.view)
      × (now ≡ before)
      × (slice_get os old.view.cur ≡ Some (Bad fault))
      × (old.view.taken ≡ length (bytes_at ss old.view.cur))
      × (seen : Seen) × EmitterTold old new Nothing 0 seen
      × (seen.length ≡ 0) × (seen.done ≡ true)
  TakeGives ss os old new before now Unclaimed =
      (new.view ≡ old.view)
      × (now ≡ before)
      × (seen : Seen) × EmitterTold old new Nothing 0 seen
      × (seen.next ≡ seen.cur) × (seen.cur < length ss)
  TakeGives ss os old new before now NotYet =
      (new.view ≡ old.view)
      × (now ≡ before)
      × (seen : Seen) × EmitterTold old new Nothing 0 seen
      × (seen.cur < seen.next) × (seen.length ≡ 0) × (seen.done ≡ false)
  TakeGives ss os old new before now Over =
      (new.view ≡ old.view)
      × (now ≡ before)
      × (seen : Seen) × EmitterTold old new Nothing 0 seen
      × (seen.cur ≡ length ss)

  -- take rings the bell if it took bytes, or ended a good segment
  abbrev pub TakeRings : SeatValue C EmitterView → SeatValue C EmitterView → Take → Type 0
  TakeRings old new (Bytes _) = HasRung old new
  TakeRings old new (Ended (Good _)) = HasRung old new
  TakeRings old new (Ended (Bad _)) = HasNotRung old new
  TakeRings old new Unclaimed = HasNotRung old new
  TakeRings old new NotYet = HasNotRung old new
  TakeRings old new Over = HasNotRung old new

  -- claim_own, for the given number of segments: Mine if the segment that is emitted is the next one; the emitter has
  -- taken no byte of it
  abbrev pub OwnGives : ℕ → SeatValue C EmitterView → SeatValue C EmitterView → Own → Type 0
  OwnGives count old new (Mine i) =
      (new.view ≡ record old.view { owns = true })
      × (old.view.taken ≡ 0) × (new.claims ≤ i + 1)
      × (seen : Seen) × EmitterTold old new Claims 0 seen
      × (seen.next ≡ seen.cur) × (seen.cur < count) × (i ≡ seen.cur)
  OwnGives count old new Other =
      (new.view ≡ old.view)
      × (seen : Seen) × EmitterTold old new Nothing 0 seen
      × ((seen.next ≢ seen.cur) ⊎ (seen.cur ≡ count))

  -- claim_own rings the bell if the segment is the emitter's own
  abbrev pub OwnRings : SeatValue C EmitterView → SeatValue C EmitterView → Own → Type 0
  OwnRings old new (Mine _) = HasRung old new
  OwnRings old new Other = HasNotRung old new

  -- pass, of the given number of bytes
  abbrev pub PassGives : ℕ → SeatValue C EmitterView → SeatValue C EmitterView → Type 0
  PassGives count old new =
      (new.view ≡ record old.view { taken = old.view.taken + count })
      × (seen : Seen) × EmitterTold old new Passes count seen

  -- finish_own
  abbrev pub OwnFinishGives : SeatValue C EmitterView → SeatValue C EmitterView → Type 0
  OwnFinishGives old new =
      (new.view ≡ record old.view { owns = false })
      × (seen : Seen) × EmitterTold old new Finishes 0 seen

  -- stop
  abbrev pub StopGives : SeatValue C EmitterView → SeatValue C EmitterView → Type 0
  StopGives old new =
      (new.view ≡ record old.view { stopped = true })
      × (seen : Seen) × EmitterTold old new Stops 0 seen
