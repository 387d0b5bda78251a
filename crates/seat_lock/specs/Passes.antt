-- View: a lock and its passes, as clauses see them (own).
use Rattle.std.specs.Prelude.{◌≡◌, ℕ, [], Option, None}
use Rattle.atomic_table.specs.Seated.{TableId}
use Rattle.seat_lock.specs.declared.known.Stage.TheVariants.{Idle}
use Rattle.seat_lock.specs.declared.lock.Lock.{Lock}
use Rattle.seat_lock.specs.declared.pass.Pass.{Pass}

module _ {L V X E : Type 0} where
  -- which lock it is
  abbrev pub lock_id : Lock L V X E → TableId
  lock_id lock = lock.table.shared.table_id

  -- which lock a pass is for
  abbrev pub lock_of : Pass L V X E → TableId
  lock_of pass = pass.seat.table_id

  -- the index of a pass's view among the views of all passes
  abbrev pub number_of : Pass L V X E → ℕ
  number_of pass = pass.seat.me.0.number

  -- what a pass knows
  abbrev pub view_of : Pass L V X E → V
  view_of pass = pass.seat.me.0.view

  -- how often the lock was held by a pass and released
  abbrev pub holds_of : Pass L V X E → ℕ
  holds_of pass = pass.seat.me.0.holds

  -- kind, amount and entry of a pass's last release
  abbrev pub last_of : Pass L V X E → Option (ℕ × ℕ × E)
  last_of pass = pass.seat.me.0.last

  -- how many passes were split off from a pass
  abbrev pub splits_of : Pass L V X E → ℕ
  splits_of pass = pass.seat.me.0.splits

  -- how often a pass raised the bell
  abbrev pub rings_of : Pass L V X E → ℕ
  rings_of pass = pass.seat.me.0.rings

  -- a pass is for a lock
  abbrev pub IsFor : Lock L V X E → Pass L V X E → Type 0
  IsFor lock pass = lock_of pass ≡ lock_id lock

  -- the lock is not held by the pass
  abbrev pub IsReady : Pass L V X E → Type 0
  IsReady pass = (pass.seat.me.0.stage ≡ Idle) × (pass.seat.me.1 ≡ [])

  -- it is the pass that was made with its lock
  abbrev pub IsFirst : Pass L V X E → Type 0
  IsFirst pass = number_of pass ≡ 0

  -- they are one pass, before and after a call
  pub record IsSamePass (old new : Pass L V X E) : Type 0 where
    pub lock : lock_of new ≡ lock_of old
    pub number : number_of new ≡ number_of old

  -- a call was no hold of the pass
  pub record HasSameHolds (old new : Pass L V X E) : Type 0 where
    pub holds : holds_of new ≡ holds_of old
    pub last : last_of new ≡ last_of old

  -- a pass knows after a call what it knew before
  pub record KnowsSame (old new : Pass L V X E) : Type 0 where
    pub view : view_of new ≡ view_of old
    pub holds : holds_of new ≡ holds_of old
    pub last : last_of new ≡ last_of old
    pub splits : splits_of new ≡ splits_of old

  -- a pass for a lock, with its number and view, by which the lock was never held and the bell never rung
  pub record IsNewPass (lock : Lock L V X E) (pass : Pass L V X E) (number : ℕ) (view : V)
      : Type 0 where
    pub own : IsFor lock pass
    pub ready : IsReady pass
    pub numbered : number_of pass ≡ number
    pub knows : view_of pass ≡ view
    pub holds : holds_of pass ≡ 0
    pub last : last_of pass ≡ None
    pub splits : splits_of pass ≡ 0
    pub rings : rings_of pass ≡ 0
