-- What answering one record does.
use Rattle.std.proofs.Common.{◌≡◌, ℕ, ◌<◌, List, length, take, Option, Some, None, subst, refl}
use Rattle.std.specs.Io.KnownBytes.{Appends}
use Rattle.std.specs.declared.result.Result.TheVariants.{Ok, Err}
use Rattle.outside_core.specs.Faults.{Rose}
use Rattle.blob_store.specs.Callers.{CallerValue}
use Rattle.photo_store.specs.FileStores.{FileCall}
use Rattle.outside_core.specs.Written.{HasWritten, HasFailed}
use Rattle.store_run.specs.Answering.{Gives, answer_bytes}
use Rattle.store_run.specs.Reading.{ReadsNext}
use Rattle.store_run.specs.Turns.{CallTurns, Stops, ending_by}
use Rattle.store_run.specs.declared.answers.Answer.{Answer}
use Rattle.store_run.specs.declared.calls.RecordStop.{RecordStop}
use Rattle.store_run.specs.declared.calls.RecordStop.TheVariants.{Bad, ReadFault, NoMemory as NoRoom}
use Rattle.store_run.specs.declared.ending.Ending.TheVariants.{WriteFailed}

module _ {Sink : Type 0} (held : Sink → Option (List ℕ)) (takes : Sink → List ℕ → Type 0)
    (faults : Sink → ℕ) (full : Sink → Type 0) (from to : Sink) (before after : CallerValue) (call : FileCall)
    (answer : Answer) (gives : Gives before after call (Ok answer)) where
  -- the reply was written
  pub written_turns : HasWritten held takes faults from to (answer_bytes answer)
      → CallTurns held faults full from to before after call None
  written_turns w = (
    w.unfailed,
    λ files sole tied.
        let g = gives.1 files sole tied in
        (subst (λ (l : List ℕ). Appends (held from) (held to) l) g.0 w.appended, g.1),
  )

  -- the sink failed
  pub cut_turns : (written : ℕ) → HasFailed held faults full from to (answer_bytes answer) written
      → CallTurns held faults full from to before after call (Some WriteFailed)
  cut_turns written f = (
    f.rose,
    λ files sole tied.
        let g = gives.1 files sole tied in (
          written,
          subst (λ (l : List ℕ). written < length l) g.0 f.short,
          subst (λ (l : List ℕ). Appends (held from) (held to) (take written l)) g.0 f.appended,
          g.1,
        ),
  )

module _ {Source Sink : Type 0} (left : Source → Option (List ℕ)) (held : Sink → Option (List ℕ))
    (source_faults : Source → ℕ) (source_full : Source → Type 0) (sink_faults : Sink → ℕ)
    (sink_full : Sink → Type 0) (old new : Source) where
  -- no record was read
  pub read_stops : (stop : RecordStop) → ReadsNext (left old) (left new) (Err stop)
      → (stop ≡ ReadFault → Rose source_faults source_full old new)
      → ((stop ≡ ReadFault → ⊥) → source_faults new ≡ source_faults old)
      → Stops left held source_faults source_full sink_faults sink_full old new (ending_by stop)
  read_stops Bad r rose worked = (r.0, r.1, r.2, worked (λ e. absurd (cc)))
  read_stops ReadFault r rose worked = (r.0, r.1, r.2, rose refl)
  read_stops (NoRoom short) r rose worked = (r.0, r.1, r.2, worked (λ e. absurd (cc)))
