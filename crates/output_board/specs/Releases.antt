-- Steps: what a release says of the board, and what it makes of the holder's view (own).
use Rattle.std.specs.Prelude.{◌≡◌, ℕ, ◌+◌, ◌-◌, true, false, List, [], length, take, drop, Option, Some, None, is_some, MatchOption, slice_get, ◌==◌, if◌then◌else◌}
use Rattle.handover.specs.declared.outcome.Outcome.{Outcome}
use Rattle.board_core.specs.declared.actor.Actor.{Actor}
use Rattle.board_core.specs.declared.actor.Actor.TheVariants.{Worker, Emitter}
use Rattle.board_core.specs.BoardStates.{BoardState, segment_at, Owns, OwnsNothing}
use Rattle.board_core.specs.BoardSteps.{BoardEvent, Claim, Put, Pass, Finish, Take, Advance, Stop, Leave, BoardStep}
use Rattle.board_core.specs.BoardInvariants.{bytes_at}
use Rattle.output_board.specs.declared.view.View.{View}
use Rattle.output_board.specs.declared.view.EmitterView.{EmitterView}
use Rattle.output_board.specs.declared.view.WorkerView.{WorkerView}
use Rattle.output_board.specs.declared.view.Role.{Role}
use Rattle.output_board.specs.declared.view.Role.TheVariants.{Emits, Works}
use Rattle.output_board.specs.declared.seen.Seen.{Seen}

-- what a release does: nothing; nothing but that the worker knows that all is over for it; or an event of the board
pub data Action : Type 0 where
  Nothing : Action
  FindsOver : Action
  Claims : Action
  Puts : Action
  Passes : Action
  Finishes : Action
  Takes : Action
  Advances : Action
  Stops : Action
  Leaves : Action

-- the kind of a release with an action
abbrev pub kind_of : Action → ℕ
kind_of Nothing = 0
kind_of FindsOver = 1
kind_of Claims = 2
kind_of Puts = 3
kind_of Passes = 4
kind_of Finishes = 5
kind_of Takes = 6
kind_of Advances = 7
kind_of Stops = 8
kind_of Leaves = 9

-- the action of a release of a kind; one of any other kind does nothing
abbrev pub action_of : ℕ → Action
action_of kind =
    if kind == kind_of FindsOver then FindsOver
    else (if kind == kind_of Claims then Claims
    else (if kind == kind_of Puts then Puts
    else (if kind == kind_of Passes then Passes
    else (if kind == kind_of Finishes then Finishes
    else (if kind == kind_of Takes then Takes
    else (if kind == kind_of Advances then Advances
    else (if kind == kind_of Stops then Stops
    else (if kind == kind_of Leaves then Leaves
    else Nothing))))))))

-- a worker's view after an action; the amount is how many bytes it puts, and `next` was the next segment
abbrev pub worker_after : WorkerView → Action → ℕ → ℕ → WorkerView
worker_after w FindsOver amount next = record w { over = true }
worker_after w Claims amount next = record w { segment = Some next; put = 0 }
worker_after w Puts amount next = record w { put = w.put + amount }
worker_after w Finishes amount next = record w { segment = None }
worker_after w Leaves amount next = record w { segment = None; left = true }
worker_after w _ amount next = w

-- the emitter's view after an action; the amount is how many bytes it takes or passes
abbrev pub emitter_after : EmitterView → Action → ℕ → ℕ → EmitterView
emitter_after e Claims amount next = record e { owns = true }
emitter_after e Passes amount next = record e { taken = e.taken + amount }
emitter_after e Finishes amount next = record e { owns = false }
emitter_after e Takes amount next = record e { taken = e.taken + amount }
emitter_after e Advances amount next = record e { cur = e.cur + 1; taken = 0 }
emitter_after e Stops amount next = record e { stopped = true }
emitter_after e _ amount next = e

-- a role after an action
abbrev pub role_after : Role → Action → ℕ → ℕ → Role
role_after (Emits e) action amount next = Emits (emitter_after e action amount next)
role_after (Works w) action amount next = Works (worker_after w action amount next)

-- how many segments a seat has claimed after an action
abbrev pub claims_after : ℕ → Action → ℕ
claims_after claims Claims = claims + 1
claims_after claims _ = claims

-- the segment that is a seat's own
abbrev pub own_segment : Role → Option ℕ
own_segment (Emits e) = if e.owns then Some e.cur else None
own_segment (Works w) = w.segment

-- the free room of the ring of a segment, 0 without one
abbrev pub room_of : BoardState → Option ℕ → ℕ
room_of b None = 0
room_of b (Some i) = b.capacity - length (segment_at b i).ring

-- what a seat with this segment of its own sees of the board
pub record IsSeen (own : Option ℕ) (seen : Seen) (b : BoardState) : Type 0 where
  pub stopped : seen.stopped ≡ b.stopped
  pub next : seen.next ≡ b.next
  pub cur : seen.cur ≡ b.cur
  pub waits : seen.length ≡ length (segment_at b b.cur).ring
  pub free : seen.free ≡ room_of b own
  pub done : seen.done ≡ is_some (segment_at b b.cur).done

-- what an actor sees of the board
abbrev pub IsSeenBy : Actor → Seen → BoardState → Type 0
IsSeenBy a seen b =
    (own : Option ℕ) × MatchOption own (OwnsNothing b a) (Owns b a) × IsSeen own seen b

-- the next bytes of a segment, the amount of them
abbrev pub next_bytes : List (List ℕ) → Option ℕ → ℕ → ℕ → List ℕ
next_bytes ss None from amount = []
next_bytes ss (Some i) from amount = take amount (drop from (bytes_at ss i))

-- the outcome of a segment
abbrev pub outcome_at : List Outcome → Option ℕ → Option Outcome
outcome_at os None = None
outcome_at os (Some i) = slice_get os i

-- the end of an actor's segment with its outcome
abbrev pub finish_event : Actor → Option Outcome → Option BoardEvent
finish_event a None = None
finish_event a (Some o) = Some (Finish a o)

-- the event that action and amount name, with its bytes and its outcome from the lists
abbrev pub named_event : List (List ℕ) → List Outcome → Role → Action → ℕ → Option BoardEvent
named_event ss os (Works w) Claims amount = Some (Claim (Worker w.number))
named_event ss os (Works w) Puts amount =
    Some (Put w.number (next_bytes ss w.segment w.put amount))
named_event ss os (Works w) Finishes amount =
    finish_event (Worker w.number) (outcome_at os w.segment)
named_event ss os (Works w) Leaves amount = Some (Leave w.number)
named_event ss os (Works w) _ amount = None
named_event ss os (Emits e) Claims amount = Some (Claim Emitter)
named_event ss os (Emits e) Passes amount = Some (Pass amount)
named_event ss os (Emits e) Finishes amount = finish_event Emitter (slice_get os e.cur)
named_event ss os (Emits e) Takes amount = Some (Take amount)
named_event ss os (Emits e) Advances amount = Some Advance
named_event ss os (Emits e) Stops amount = Some Stop
named_event ss os (Emits e) _ amount = None

module _ {C : Type 0} where
  -- a view after a release of a kind and an amount
  abbrev pub after : View C → ℕ → ℕ → Seen → BoardState → View C
  after v kind amount seen found = record v {
    claims = claims_after v.claims (action_of kind);
    role = role_after v.role (action_of kind) amount seen.next;
  }

  -- what a release says: what is seen is the board found, and the board left is the step of the event that is named, or
  -- the board found if none is
  pub record Tells (bytes : C → List (List ℕ)) (outcomes : C → List Outcome)
      (v : View C) (kind amount : ℕ) (seen : Seen) (found left : BoardState) : Type 0 where
    pub sees : IsSeen (own_segment v.role) seen found
    pub leaves : MatchOption
        (named_event (bytes v.content.value) (outcomes v.content.value) v.role (action_of kind) amount)
        (left ≡ found)
        (λ e. BoardStep found e left)
