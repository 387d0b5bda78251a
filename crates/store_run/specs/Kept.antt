-- Statement: which files the keeper has once records are answered (docs/STORE.md, Records).
use Rattle.std.specs.Prelude.{ℕ, ◌≡◌, ◌<◌, List, length, Option, Some}
use Rattle.photo_store.specs.FileEntries.{IsFileAt}
use Rattle.photo_store.specs.FileStores.{FileCall, no_files}
use Rattle.store_run.specs.Records.{files_by, replies}
use Rattle.store_run.specs.RunEnds.{HasAnswered, HasAnsweredAll}
use Rattle.store_run.specs.declared.ending.Ending.{Ending}
use Rattle.store_run.specs.declared.ending.Ending.TheVariants.{WriteFailed}

-- each file that these records leave in the store has its blob among these blobs
abbrev pub HaveFiles : List (List ℕ) → List FileCall → Type 0
HaveFiles blobs records =
    (key file : List ℕ) → files_by no_files records key ≡ Some file
    → (number : ℕ) × IsFileAt blobs number file

module _ {Source Sink : Type 0} (left : Source → Option (List ℕ)) (held : Sink → Option (List ℕ))
  where
    -- whole records were read and answered, then bytes that got no reply, and `Kept` holds of the records; if the sink
    -- failed, the one whose reply wasn't written whole is among them
    abbrev pub HasKept : Source → Source → Sink → Sink → (List FileCall → Type 0) → Ending → Type 0
    HasKept old new from to Kept WriteFailed =
        (records : List FileCall) × (rest : List ℕ) × (written : ℕ)
        × HasAnswered left held old new from to records rest written
        × (written < length (replies no_files records)) × Kept records
    HasKept old new from to Kept ending =
        (records : List FileCall) × (rest : List ℕ)
        × HasAnsweredAll left held old new from to records rest × Kept records
