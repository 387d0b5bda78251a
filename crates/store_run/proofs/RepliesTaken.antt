-- Which replies a sink takes before a record is answered, and after it.
use Rattle.std.proofs.Common.{ℕ, List, [], ◌∷◌, ◌++◌, Option, Some, None, sym, subst, refl, append-nil}
use Rattle.std.specs.Prelude.{IfNone}
use Rattle.std.specs.Io.KnownBytes.{Consumes}
use Rattle.std.proofs.KnownBytes.{Consumes-trans}
use Rattle.outside_core.specs.Takes.{MovesOn, TakesNext}
use Rattle.photo_store.specs.FileStores.{Files, FileCall}
use Rattle.store_run.specs.Records.{FitsRecord, record_bytes}
use Rattle.store_run.specs.TakesReplies.{TakesReplies}
use Rattle.store_run.specs.Turns.{reply_in}
use Rattle.store_run.specs.declared.ending.Ending.{Ending}

module _ {Sink : Type 0} (takes : Sink → List ℕ → Type 0) (old new : Option (List ℕ)) (call : FileCall)
    (whole : FitsRecord call) (read : Consumes old new (record_bytes call)) where
  -- the sink takes each reply to a record that was read
  pub takes_reply : (sink : Sink) → TakesReplies takes old sink
      → (files : Files) → TakesNext takes sink (reply_in files call)
  takes_reply sink all files = (
    [],
    all (call ∷ []) (reply_in files call ++ [])
        ((whole, tt), (new, subst (Consumes old new) (sym (append-nil (record_bytes call))) read))
        (files, [], refl, refl),
  )

  -- and once one was written, those to the records that the source may give then
  takes_later : (from to : Sink) → TakesReplies takes old from
      → (files : Files) → MovesOn takes from to (reply_in files call) → TakesReplies takes new to
  takes_later from to all files onward records text may are =
      onward text
      (all (call ∷ records) (reply_in files call ++ text)
      ((whole, may.0), (may.1.0, Consumes-trans old new may.1.0 _ _ read may.1.1))
      (files, text, refl, are))

  -- the same if the run doesn't end there
  pub still_takes : (result : Option Ending) (from to : Sink) → TakesReplies takes old from
      → IfNone result ((files : Files) × MovesOn takes from to (reply_in files call))
      → IfNone result (TakesReplies takes new to)
  still_takes None from to all wrote = takes_later from to all wrote.0 wrote.1
  still_takes (Some ending) from to all wrote = tt
