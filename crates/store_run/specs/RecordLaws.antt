-- Law: an input has one reading as records, and a run without a fault answers it (docs/STORE.md, Records).
use Rattle.std.specs.Prelude.{ℕ, ◌≡◌, ◌<◌, ◌≤◌, ◌⊎◌, List, [], ◌∷◌, ◌++◌, length, flat_map, Option, Some}
use Rattle.std.specs.List.{AllByRecursion}
use Rattle.allocation.specs.declared.no_memory.NoMemory.{NoMemory as OutOfMemory}
use Rattle.outside_core.specs.Faults.{Rose}
use Rattle.photo_store.specs.FileStores.{FileCall}
use Rattle.store_run.specs.Records.{IsBad, FitsRecord, most_records, record_bytes}
use Rattle.store_run.specs.RunEnds.{RunEnds, HasAnsweredAll, KeeperRose}
use Rattle.store_run.specs.declared.ending.Ending.{Ending}
use Rattle.store_run.specs.declared.ending.Ending.TheVariants.{Answered, BadRecord, NoMemory, Full}

-- after N whole records these bytes are read, and these are left: none at all; a bad record; or one byte more than
-- the most records
abbrev pub EndsBy : ℕ → List ℕ → List ℕ → Ending → Type 0
EndsBy count rest after Answered = (rest ≡ []) × (after ≡ []) × (count ≤ most_records)
EndsBy count rest after BadRecord = IsBad rest (Some after) × (count < most_records)
EndsBy count rest after Full = ((byte : ℕ) × (rest ≡ byte ∷ [])) × (count ≡ most_records)
EndsBy count rest after other = ⊥

-- an input as whole records, the bytes that are read after them, and what is left
pub record IsReading (input : List ℕ) (records : List FileCall) (rest after : List ℕ)
    (ending : Ending) : Type 0 where
  pub whole : AllByRecursion FitsRecord records
  pub is : input ≡ flat_map record_bytes records ++ (rest ++ after)
  pub ends : EndsBy (length records) rest after ending

-- an input has one reading
abbrev pub OneReading : Type 0
OneReading =
    (input : List ℕ) (records others : List FileCall) (rest end after left : List ℕ)
    (ending other : Ending) → IsReading input records rest after ending
    → IsReading input others end left other
    → (records ≡ others) × (rest ≡ end) × (after ≡ left) × (ending ≡ other)

module _ {Source Sink Keeper : Type 0} (left : Source → Option (List ℕ))
    (held : Sink → Option (List ℕ)) (source_faults : Source → ℕ)
    (source_full : Source → Type 0) (sink_faults : Sink → ℕ) (sink_full : Sink → Type 0)
    (keeper_faults : Keeper → ℕ) where
  -- if the source's bytes are known and no count rose, a run ends as its input says, all replies written, or out of
  -- memory
  abbrev pub RunsAsRead : Type 0
  RunsAsRead =
      (old new : Source) (from to : Sink) (given : Keeper) (back : Option Keeper) (input : List ℕ)
      (records : List FileCall) (rest after : List ℕ) (ending expected : Ending)
      → RunEnds left held source_faults source_full sink_faults sink_full old new from to
      (KeeperRose keeper_faults given back) ending
      → left old ≡ Some input → IsReading input records rest after expected
      → (Rose source_faults source_full old new → ⊥) → (Rose sink_faults sink_full from to → ⊥)
      → (KeeperRose keeper_faults given back → ⊥)
      → ((ending ≡ expected) × HasAnsweredAll left held old new from to records rest)
      ⊎ ((short : OutOfMemory) × (ending ≡ NoMemory short))
