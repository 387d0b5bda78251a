-- View: seats as passes of the board's lock (own).
use Rattle.std.specs.Prelude.{◌≡◌, ℕ}
use Rattle.seat_lock.specs.declared.pass.Pass.{Pass}
use Rattle.seat_lock.specs.Passes.{lock_of, view_of, holds_of, last_of, rings_of, IsReady}
use Rattle.output_board.specs.declared.view.View.{View}
use Rattle.output_board.specs.declared.view.EmitterView.{EmitterView}
use Rattle.output_board.specs.declared.view.WorkerView.{WorkerView}
use Rattle.output_board.specs.declared.view.Role.{Role}
use Rattle.output_board.specs.declared.view.Role.TheVariants.{Emits, Works}
use Rattle.output_board.specs.declared.seen.Seen.{Seen}
use Rattle.output_board.specs.SeatRule.{new_worker}
use Rattle.output_board.specs.Seats.{SeatValue, new_emitter}

-- the emitter's view, and any for a worker's
abbrev pub emitter_of : Role → EmitterView
emitter_of (Emits e) = e
emitter_of (Works w) = new_emitter 0 0 0

-- a worker's view, and any for the emitter's
abbrev pub worker_of : Role → WorkerView
worker_of (Emits e) = new_worker 0
worker_of (Works w) = w

module _ {L C X : Type 0} where
  -- what clauses see of a pass with a part of its role
  abbrev pub seat_value : {V : Type 0} → (Role → V) → Pass L (View C) X Seen → SeatValue C V
  seat_value part pass = record {
    table = lock_of pass;
    content = (view_of pass).content.value;
    view = part (view_of pass).role;
    claims = (view_of pass).claims;
    holds = holds_of pass;
    last = last_of pass;
    rings = rings_of pass;
  }

  -- what clauses see of the emitter's pass
  abbrev pub emitter_value : Pass L (View C) X Seen → SeatValue C EmitterView
  emitter_value pass = seat_value emitter_of pass

  -- what clauses see of a worker's pass
  abbrev pub worker_value : Pass L (View C) X Seen → SeatValue C WorkerView
  worker_value pass = seat_value worker_of pass

  -- the pass is the emitter's, and doesn't hold the lock
  pub record IsEmitterPass (pass : Pass L (View C) X Seen) : Type 0 where
    pub ready : IsReady pass
    pub role : (view_of pass).role ≡ Emits (emitter_of (view_of pass).role)

  -- the pass is the one of the worker with this number, and doesn't hold the lock
  pub record IsWorkerPass (number : ℕ) (pass : Pass L (View C) X Seen) : Type 0 where
    pub ready : IsReady pass
    pub role : (view_of pass).role ≡ Works (worker_of (view_of pass).role)
    pub number_is : (worker_of (view_of pass).role).number ≡ number
