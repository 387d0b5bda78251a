-- View: what always holds of the table under a lock between any two steps (docs/THREADS.md, Invariants). The table has
-- two words, the turn and the bell, one slot, in which the value is at home, and a seat for each pass.
use Rattle.std.specs.Prelude.{◌≡◌, ◌≢◌, ℕ, ◌+◌, ◌%◌, ◌^◌, List, [], ◌∷◌, ◌⊎◌, map, length, slice_index, slice_set, Option, Some, None}
use mathlib.Core.Option.{none, some}
use lib.ListN.{get_elem?}
use Rattle.atomic_table.specs.Table.{State, Me}
use Rattle.seat_lock.specs.declared.known.Known.{Known}
use Rattle.seat_lock.specs.declared.known.Slot.{Slot}
use Rattle.seat_lock.specs.declared.known.Slot.TheVariants.{Home}
use Rattle.seat_lock.specs.declared.known.Stage.{Stage}
use Rattle.seat_lock.specs.declared.known.Stage.TheVariants.{Idle, Holds, Told}

-- what is known of a seat: what it knows, and the slots that it has taken
abbrev pub Seated : Type 0 → Type 0 → Type 0 → Type 0
Seated V X E = Me (Slot X E) (Known V X E)

-- the value that a seat found
abbrev pub found_in : {V X : Type 0} → Stage V X → Option X
found_in Idle = None
found_in (Holds found) = Some found
found_in (Told found _) = Some found

-- some views that a value fits have this one at a number
pub record FitsAmong {V X : Type 0} (fits : X → List V → Type 0) (value : X) (number : ℕ) (view : V)
    : Type 0 where
  pub views : List V
  pub fitted : fits value views
  pub at : get_elem? views number ≡ some view

-- if the value found fits views with the old one at a number, the value left fits them with the new one there
abbrev pub FitsAgain : {V X : Type 0} → (X → List V → Type 0) → ℕ → V → V → X → X → Type 0
FitsAgain {V} fits number old new found left =
    (views : List V) → fits found views → get_elem? views number ≡ some old
    → fits left (slice_set views number new)

module _ {V X E : Type 0} where
  -- the view of a seat
  abbrev pub seen_by : Known V X E → V
  seen_by k = k.view

  -- the views of all seats
  abbrev pub views_of : List (Known V X E) → List V
  views_of ks = map seen_by ks

  -- the holder's view as it was when it took the turn
  abbrev pub view_before : Known V X E → Stage V X → V
  view_before k (Told _ view) = view
  view_before k _ = k.view

  -- the number of the turn: 0 is free, 1 is taken
  abbrev pub turn_of : State (Slot X E) (Known V X E) → ℕ
  turn_of s = slice_index s.words 0

  -- the number of the bell
  abbrev pub bell_of : State (Slot X E) (Known V X E) → ℕ
  bell_of s = slice_index s.words 1

  -- how often all seats together raised the bell
  abbrev pub rings_in : List (Known V X E) → ℕ
  rings_in [] = 0
  rings_in (k ∷ ks) = k.rings + rings_in ks

  -- no seat has the turn
  abbrev pub AllIdle : List (Known V X E) → Type 0
  AllIdle ks = (j : ℕ) (k : Known V X E) → get_elem? ks j ≡ some k → k.stage ≡ Idle

  -- no seat but the one with this number has the turn
  abbrev pub OthersIdle : ℕ → List (Known V X E) → Type 0
  OthersIdle number ks =
      (j : ℕ) (k : Known V X E) → get_elem? ks j ≡ some k → j ≢ number → k.stage ≡ Idle

  -- each seat's number is its index
  abbrev pub IsNumbered : List (Known V X E) → Type 0
  IsNumbered ks = (j : ℕ) (k : Known V X E) → get_elem? ks j ≡ some k → k.number ≡ j

  -- the number of the seats other than the first is that of its splits
  abbrev pub IsCounted : List (Known V X E) → Type 0
  IsCounted ks = (k : Known V X E) → get_elem? ks 0 ≡ some k → length ks ≡ k.splits + 1

-- the turn is free: no seat has it, and the value at home fits all views
pub record AtHome {V X E : Type 0} (fits : X → List V → Type 0) (s : State (Slot X E) (Known V X E))
    : Type 0 where
  pub turn : turn_of s ≡ 0
  pub value : X
  pub home : s.homes ≡ some (Home value) ∷ []
  pub fitted : fits value (views_of s.views)
  pub idle : AllIdle s.views

-- one seat has the turn and the slot: the value that it found fits all views, with its own as it was
pub record Away {V X E : Type 0} (fits : X → List V → Type 0) (s : State (Slot X E) (Known V X E))
    : Type 0 where
  pub turn : turn_of s ≡ 1
  pub number : ℕ
  pub holder : Known V X E
  pub found : X
  pub at : get_elem? s.views number ≡ some holder
  pub finds : found_in holder.stage ≡ Some found
  pub out : s.homes ≡ none ∷ []
  pub fitted : fits found (slice_set (views_of s.views) number (view_before holder holder.stage))
  pub others : OthersIdle number s.views

-- the rule of the table
pub record IsKept {V X E : Type 0} (fits : X → List V → Type 0) (s : State (Slot X E) (Known V X E))
    : Type 0 where
  pub words : length s.words ≡ 2
  pub numbered : IsNumbered s.views
  pub counted : IsCounted s.views
  pub bell : bell_of s ≡ rings_in s.views % 2 ^ 64
  pub turn : AtHome fits s ⊎ Away fits s
