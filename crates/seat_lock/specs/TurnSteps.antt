-- Steps: what each kind of step makes of what a seat knows (docs/THREADS.md, Kinds of step).
use Rattle.std.specs.Prelude.{◌≡◌, ◌≢◌, ℕ, ◌+◌, List, ◌∷◌, Some, None}
use Rattle.atomic_table.specs.Table.{Step, rest}
use Rattle.seat_lock.specs.declared.known.Known.{Known}
use Rattle.seat_lock.specs.declared.known.Slot.{Slot}
use Rattle.seat_lock.specs.declared.known.Slot.TheVariants.{Home, Note}
use Rattle.seat_lock.specs.declared.known.Stage.{Stage}
use Rattle.seat_lock.specs.declared.known.Stage.TheVariants.{Idle, Holds, Told}
use Rattle.seat_lock.specs.TurnRule.{Seated, FitsAmong}

module _ {V X E : Type 0} where
  -- the first seat of a lock
  abbrev pub opening : V → Known V X E
  opening view =
      record { view = view; stage = Idle; holds = 0; last = None; number = 0; splits = 0; rings = 0 }

  -- a seat that took the turn
  abbrev pub holding : Known V X E → X → Known V X E
  holding k found = record k { stage = Holds found }

  -- a seat that gave the turn
  abbrev pub idle : Known V X E → Known V X E
  idle k = record k { stage = Idle }

  -- a seat that recorded its change: one hold more, and the kind, amount and entry of the last
  abbrev pub changed : (V → ℕ → ℕ → E → X → V) → Known V X E → ℕ → ℕ → E → X → Known V X E
  changed after k kind amount entry found = record k {
    view = after k.view kind amount entry found;
    stage = Told found k.view;
    holds = k.holds + 1;
    last = Some (kind, amount, entry);
  }

  -- a seat that took the turn and the slot, and what it knows of the value found
  pub record HasTaken (fits : X → List V → Type 0) (before now : Seated V X E) : Type 0 where
    pub found : X
    pub seat : now ≡ (holding before.0 found, (0, Home found) ∷ before.1)
    pub among : FitsAmong fits found before.0.number before.0.view

  -- what a try of the turn leaves, if the turn had this number
  pub record HasTried (fits : X → List V → Type 0) (turn : ℕ) (before now : Seated V X E)
      : Type 0 where
    pub free : turn ≡ 0 → HasTaken fits before now
    pub taken : turn ≢ 0 → now ≡ before

  -- kind 1: the turn is tried
  abbrev pub tried : (X → List V → Type 0)
      → Step (Slot X E) → Seated V X E → ℕ → Seated V X E → Type 0
  tried fits step before turn now = HasTried fits turn before now

  -- a seat after the note in its slot was recorded
  abbrev pub after_note : (V → ℕ → ℕ → E → X → V)
      → Known V X E → List (ℕ × Slot X E) → Stage V X → Known V X E
  after_note after k ((_, Note kind amount entry) ∷ _) (Holds found) =
      changed after k kind amount entry found
  after_note after k _ _ = k

  -- kind 3: the change is recorded, while the value is out
  abbrev pub told : (V → ℕ → ℕ → E → X → V)
      → Step (Slot X E) → Seated V X E → ℕ → Seated V X E → Type 0
  told after step before turn now =
      now ≡ (after_note after before.0 before.1 before.0.stage, before.1)

  -- kind 5: the turn is given, and the slot with it
  abbrev pub given : Step (Slot X E) → Seated V X E → ℕ → Seated V X E → Type 0
  given step before turn now = now ≡ (idle before.0, rest before.1)

  -- kind 6: the first seat, from which another is split off
  abbrev pub giver : (V → V) → Known V X E → Known V X E
  giver left k = record k { view = left k.view; splits = k.splits + 1 }

  -- kind 6: the seat that is split off
  abbrev pub newcomer : (V → V) → Known V X E → Known V X E
  newcomer right k = record (opening (right k.view)) { number = k.splits + 1 }

  -- a seat that raised the bell once more
  abbrev pub ringer : Known V X E → Known V X E
  ringer k = record k { rings = k.rings + 1 }

  -- kind 7: the bell is raised
  abbrev pub rung : Step (Slot X E) → Seated V X E → ℕ → Seated V X E → Type 0
  rung step before bell now = now ≡ (ringer before.0, before.1)
