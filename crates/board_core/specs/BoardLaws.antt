-- Law: what holds of an event, and after every list of lawful events from the opening board (docs/THREADS.md, The
-- board).
use Rattle.std.specs.Prelude.{◌≡◌, ℕ, ◌<◌, ◌≤◌, ◌↔◌, List, ◌++◌, length}
use Rattle.std.specs.List.{concat}
use Rattle.handover.specs.declared.outcome.Outcome.{Outcome}
use Rattle.board_core.specs.declared.actor.Actor.TheVariants.{Worker}
use Rattle.board_core.specs.BoardStates.{BoardState, opening_board, IsEnded}
use Rattle.board_core.specs.BoardSteps.{BoardEvent, IsEnabled, count_limit, CountsFit, BoardStep}
use Rattle.board_core.specs.BoardInvariants.{bytes_at, BoardInvariant}
use Rattle.board_core.specs.LawfulEvents.{MatchesLists, LawfulStep, LawfulRun, bytes_handed_out, CanGoOn, most_events}
use Rattle.board_core.specs.BoardFrames.{actor_of, NextIsFree, LeavesOthers, LeavesEmitted}

-- events on a board, the lists that its bytes and outcomes come from, and the board after the last event
pub record Run : Type 0 where
  pub bytes : List (List ℕ)
  pub outcomes : List Outcome
  pub capacity : ℕ
  pub workers : ℕ
  pub events : List BoardEvent
  pub after : BoardState

-- the board before the first event, with as many segments as the lists have
abbrev pub board_before : Run → BoardState
board_before r = opening_board (length r.bytes) r.capacity r.workers

-- one lawful event after another, and an outcome for each segment
pub record IsLawful (r : Run) : Type 0 where
  pub outcomes : length r.outcomes ≡ length r.bytes
  pub events : LawfulRun r.bytes r.outcomes (board_before r) r.events r.after

-- the bytes that the events of a run give to the output, in order
abbrev pub output : (r : Run) → IsLawful r → List ℕ
output r lawful =
    bytes_handed_out r.bytes r.outcomes (board_before r) r.events r.after lawful.events

-- an event is enabled exactly if it has a step
abbrev pub EnabledEventsHappen : Type 0
EnabledEventsHappen =
    (b : BoardState) (e : BoardEvent) → IsEnabled b e ↔ ((new : BoardState) × BoardStep b e new)

-- an event leaves one board
abbrev pub EventsHaveOneStep : Type 0
EventsHaveOneStep =
    (ss : List (List ℕ)) (os : List Outcome) (old : BoardState) (e : BoardEvent)
    (one two : BoardState)
    → BoardInvariant ss os old → BoardStep old e one → BoardStep old e two → one ≡ two

-- if each segment has fewer than 2^64 bytes, a lawful event keeps the number of bytes put below 2^64
abbrev pub LawfulEventsFit : Type 0
LawfulEventsFit =
    (ss : List (List ℕ)) (os : List Outcome) (b : BoardState) (e : BoardEvent)
    → ((i : ℕ) → length (bytes_at ss i) < count_limit)
    → BoardInvariant ss os b → MatchesLists ss os b e → CountsFit b e

-- what always holds of the board holds after a lawful event
abbrev pub EventsKeepTheBoard : Type 0
EventsKeepTheBoard =
    (ss : List (List ℕ)) (os : List Outcome) (old : BoardState) (e : BoardEvent) (new : BoardState)
    → BoardInvariant ss os old → LawfulStep ss os old e new → BoardInvariant ss os new

-- what always holds of the board holds after each list of lawful events, the empty one too
abbrev pub TheBoardIsKept : Type 0
TheBoardIsKept = (r : Run) → IsLawful r → BoardInvariant r.bytes r.outcomes r.after

-- the output is a prefix of all segments, one after another
abbrev pub BytesComeInOrder : Type 0
BytesComeInOrder =
    (r : Run) (lawful : IsLawful r) → (rest : List ℕ) × (output r lawful ++ rest ≡ concat r.bytes)

-- a board that isn't ended has a next step, or may be stopped for a fault
abbrev pub NoBoardIsStuck : Type 0
NoBoardIsStuck =
    (r : Run) → 1 ≤ r.capacity → IsLawful r → ¬ IsEnded r.after → CanGoOn r.bytes r.outcomes r.after

-- a list of lawful events is no longer than the bound
abbrev pub EventsAreFew : Type 0
EventsAreFew = (r : Run) → IsLawful r → length r.events ≤ most_events r.bytes r.workers

-- an event leaves the others, whoever's it is
abbrev pub EventsLeaveOthers : Type 0
EventsLeaveOthers =
    (old : BoardState) (e : BoardEvent) (new : BoardState)
    → NextIsFree old → BoardStep old e new → LeavesOthers (actor_of e) old new

-- an event of a worker leaves what is emitted
abbrev pub WorkersLeaveTheEmitted : Type 0
WorkersLeaveTheEmitted =
    (w : ℕ) (old : BoardState) (e : BoardEvent) (new : BoardState)
    → actor_of e ≡ Worker w → BoardStep old e new → LeavesEmitted old new
