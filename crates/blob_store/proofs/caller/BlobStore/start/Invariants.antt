use Rattle.std.proofs.Common.{◌≡◌}
use Rattle.seat_lock.specs.Passes.{IsReady, IsFor, IsFirst, lock_id}
use Rattle.blob_store.specs.Callers.{new_caller, later_callers}
use Rattle.blob_store.specs.CallerPasses.{caller_value}
use Rattle.blob_store.proofs.caller.BlobStore.start.Given as goal

abbrev pub invariant-loop-before : goal.invariant-loop-before
invariant-loop-before g l =
    IsFor l.lock l.first
    × IsReady l.first
    × IsFirst l.first
    × (caller_value l.first ≡ new_caller (lock_id l.lock) (g.P.Keeper.fault_count l.fn.keeper) l.limit 0 l.before)
    × (l.all.items ≡ later_callers (lock_id l.lock) (g.P.Keeper.fault_count l.fn.keeper) l.limit l.before)
