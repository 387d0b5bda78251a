-- View: a hold, as clauses see it (own).
use Rattle.std.specs.Prelude.{◌≡◌, ℕ, List, [], ◌∷◌}
use denote.Ref.{MutBor}
use Rattle.seat_lock.specs.declared.known.Slot.TheVariants.{Out}
use Rattle.seat_lock.specs.declared.known.Stage.TheVariants.{Holds}
use Rattle.seat_lock.specs.declared.held.Held.{Held}
use Rattle.seat_lock.specs.declared.pass.Pass.{Pass}
use Rattle.seat_lock.specs.Passes.{view_of, number_of}
use Rattle.seat_lock.specs.TurnRule.{FitsAgain}

module _ {L V X E : Type 0} where
  -- the pass by which the lock is held
  abbrev pub pass_of : Held L V X E → Pass L V X E
  pass_of held = held.pass.now

  -- the hold borrows this pass: what its pass knows at the release, the pass knows from then on
  abbrev pub Borrows : Held L V X E → MutBor (Pass L V X E) → Type 0
  Borrows held pass = held.pass.ghost_name ≡ pass.ghost_name

  -- the value that the hold found
  abbrev pub found_of : Held L V X E → X
  found_of held = held.found.value

  -- the value as it is now
  abbrev pub value_of : Held L V X E → X
  value_of held = held.value

  -- the hold has the turn and the value
  abbrev pub IsHolding : Held L V X E → Type 0
  IsHolding held =
      ((pass_of held).seat.me.0.stage ≡ Holds (found_of held))
      × ((pass_of held).seat.me.1 ≡ (0, Out) ∷ [])

  -- the view that a release makes of the pass's
  abbrev pub view_after : (V → ℕ → ℕ → E → X → V) → Held L V X E → ℕ → ℕ → E → V
  view_after after held kind amount entry =
      after (view_of (pass_of held)) kind amount entry (found_of held)

  -- the value as it is now fits each list of views that the one found fits, with this view in place of the pass's own
  abbrev pub Refits : (X → List V → Type 0) → Held L V X E → V → Type 0
  Refits fits held view =
      let pass = pass_of held in
      FitsAgain fits (number_of pass) (view_of pass) view (found_of held) (value_of held)

  -- a hold once the borrow of its value has ended
  abbrev pub with_value : Held L V X E → X → Held L V X E
  with_value held value = record held { value = value }
