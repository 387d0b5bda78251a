-- Statement: which events are lawful, for the bytes and the outcome of each segment, and what a run of them gives to
-- the output (docs/THREADS.md, The board).
use Rattle.std.specs.Prelude.{◌≡◌, ◌≢◌, ℕ, ◌+◌, ◌*◌, ◌≤◌, ◌⊎◌, false, List, [], ◌∷◌, ◌++◌, length, take, drop, Some, slice_get}
use Rattle.std.specs.List.{concat}
use Rattle.board_core.specs.declared.actor.Actor.TheVariants.{Worker}
use Rattle.handover.specs.declared.outcome.Outcome.{Outcome}
use Rattle.handover.specs.declared.outcome.Outcome.TheVariants.{Bad}
use Rattle.handover.specs.declared.outcome.StreamFault.{StreamFault}
use Rattle.board_core.specs.BoardStates.{BoardState, segment_at, Owns}
use Rattle.board_core.specs.BoardSteps.{BoardEvent, Put, Pass, Finish, Take, Stop, BoardStep}
use Rattle.board_core.specs.BoardInvariants.{bytes_at}

-- bytes and outcome of an event are those of the lists: the next bytes of the segment, and its outcome at its end
abbrev pub MatchesLists : List (List ℕ) → List Outcome → BoardState → BoardEvent → Type 0
MatchesLists ss os b (Put w bytes) =
    (i : ℕ) → Owns b (Worker w) i
    → take (length bytes) (drop (segment_at b i).put (bytes_at ss i)) ≡ bytes
MatchesLists ss os b (Pass n) = (segment_at b b.cur).put + n ≤ length (bytes_at ss b.cur)
MatchesLists ss os b (Finish a o) =
    (i : ℕ) → Owns b a i
    → ((segment_at b i).put ≡ length (bytes_at ss i)) × (slice_get os i ≡ Some o)
MatchesLists ss os b _ = Unit {0}

-- an event that happens, with bytes and outcome of the lists
pub record LawfulStep (ss : List (List ℕ)) (os : List Outcome)
    (old : BoardState) (e : BoardEvent) (new : BoardState) : Type 0 where
  pub step : BoardStep old e new
  pub lists : MatchesLists ss os old e

-- one lawful event after another
abbrev pub LawfulRun : List (List ℕ) → List Outcome
    → BoardState → List BoardEvent → BoardState → Type 0
LawfulRun ss os old [] new = new ≡ old
LawfulRun ss os old (e ∷ es) new =
    (mid : BoardState) × LawfulStep ss os old e mid × LawfulRun ss os mid es new

-- the bytes that an event gives to the output: the ones taken; or, for passed ones, whose content the board doesn't
-- see, the next bytes of the segment
abbrev pub bytes_handed : List (List ℕ) → BoardState → BoardEvent → List ℕ
bytes_handed ss b (Take n) = take n (segment_at b b.cur).ring
bytes_handed ss b (Pass n) = take n (drop (segment_at b b.cur).put (bytes_at ss b.cur))
bytes_handed ss b _ = []

-- the bytes that the events of a run give to the output, in order
abbrev pub bytes_handed_out : (ss : List (List ℕ)) (os : List Outcome)
    (old : BoardState) (es : List BoardEvent) (new : BoardState)
    → LawfulRun ss os old es new → List ℕ
bytes_handed_out ss os old [] new run = []
bytes_handed_out ss os old (e ∷ es) new run =
    bytes_handed ss old e ++ bytes_handed_out ss os run.0 es new run.2

-- a lawful event other than Stop, and the board that it leaves
pub record IsNextStep (ss : List (List ℕ)) (os : List Outcome)
    (b : BoardState) (e : BoardEvent) (new : BoardState) : Type 0 where
  pub other : e ≢ Stop
  pub step : LawfulStep ss os b e new

-- the segment that is emitted ended badly, no byte of it waits, and the board may be stopped
pub record IsFaultDue (b : BoardState) (fault : StreamFault) : Type 0 where
  pub bad : (segment_at b b.cur).done ≡ Some (Bad fault)
  pub empty : (segment_at b b.cur).ring ≡ []
  pub going : b.stopped ≡ false

-- a board that has a next step, or that may be stopped for a fault
abbrev pub CanGoOn : List (List ℕ) → List Outcome → BoardState → Type 0
CanGoOn ss os b =
    ((e : BoardEvent) × (new : BoardState) × IsNextStep ss os b e new)
    ⊎ ((fault : StreamFault) × IsFaultDue b fault)

-- the most events of a board: 2B + 3K + W + 1
abbrev pub most_events : List (List ℕ) → ℕ → ℕ
most_events ss workers = 2 * length (concat ss) + 3 * length ss + workers + 1
