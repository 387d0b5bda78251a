-- View: callers as passes of the store's lock (own).
use Rattle.std.specs.Prelude.{◌≡◌, ℕ}
use Rattle.seat_lock.specs.declared.pass.Pass.{Pass}
use Rattle.seat_lock.specs.Passes.{lock_of, number_of, view_of, holds_of, last_of, splits_of, IsReady}
use Rattle.blob_store.specs.declared.view.View.{View}
use Rattle.blob_store.specs.declared.note.Note.{Note}
use Rattle.blob_store.specs.Callers.{CallerValue}

module _ {L X : Type 0} where
  -- what clauses see of a caller's pass
  abbrev pub caller_value : Pass L View X Note → CallerValue
  caller_value pass = record {
    table = lock_of pass;
    number = number_of pass;
    view = view_of pass;
    holds = holds_of pass;
    last = last_of pass;
    splits = splits_of pass;
  }

  -- the pass is that of the caller with this number, and doesn't hold the lock
  pub record IsCallerPass (number : ℕ) (pass : Pass L View X Note) : Type 0 where
    pub ready : IsReady pass
    pub number_is : number_of pass ≡ number
