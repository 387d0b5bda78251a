-- Steps: what answering one record does (own).
use Rattle.std.specs.Prelude.{ℕ, ◌≡◌, ◌⊎◌, ◌<◌, ◌≤◌, List, [], length, take, flat_map, Option, Some, None}
use Rattle.std.specs.List.{AllByRecursion}
use Rattle.std.specs.Io.KnownBytes.{Appends, Consumes, IsAtEnd}
use Rattle.outside_core.specs.Faults.{Rose}
use Rattle.blob_store.specs.Callers.{CallerValue}
use Rattle.blob_store.specs.Journals.{AreBy}
use Rattle.blob_store.specs.States.{HasRisen}
use Rattle.photo_store.specs.FileStores.{Files, FileCall, key_asked, file_reply, files_after, no_files}
use Rattle.store_run.specs.Answering.{IsTied, KeepsFiles}
use Rattle.store_run.specs.Records.{IsBad, IsBegun, FitsRecord, files_by, most_records, record_bytes, replies, reply_bytes}
use Rattle.store_run.specs.declared.ending.Ending.{Ending}
use Rattle.store_run.specs.declared.ending.Ending.TheVariants.{Answered, BadRecord, ReadFailed, WriteFailed, NoMemory, KeeperFailed, Full}
use Rattle.store_run.specs.declared.calls.RecordStop.{RecordStop}
use Rattle.store_run.specs.declared.calls.RecordStop.TheVariants.{Bad, ReadFault, NoMemory as NoRoom}

-- the ending if no record can be read
abbrev pub ending_by : RecordStop → Ending
ending_by Bad = BadRecord
ending_by ReadFault = ReadFailed
ending_by (NoRoom short) = NoMemory short

-- the reply to a call, in bytes
abbrev pub reply_in : Files → FileCall → List ℕ
reply_in files call = reply_bytes call (file_reply (files (key_asked call)) call)

module _ {Sink : Type 0} (held : Sink → Option (List ℕ)) (sink_faults : Sink → ℕ)
    (sink_full : Sink → Type 0) where
  -- a call was made and its reply written, or how the run ends there
  abbrev pub CallTurns : Sink → Sink → CallerValue → CallerValue → FileCall → Option Ending → Type 0
  CallTurns from to before after call None =
      (sink_faults to ≡ sink_faults from)
      × ((files : Files) → AreBy 0 after.view.seen → IsTied before files
      → Appends (held from) (held to) (reply_in files call)
      × IsTied after (files_after files call))
  CallTurns from to before after call (Some WriteFailed) =
      Rose sink_faults sink_full from to
      × ((files : Files) → AreBy 0 after.view.seen → IsTied before files
      → (written : ℕ) × (written < length (reply_in files call))
      × Appends (held from) (held to) (take written (reply_in files call))
      × IsTied after (files_after files call))
  CallTurns from to before after call (Some (NoMemory short)) =
      (to ≡ from) × KeepsFiles before after
  CallTurns from to before after call (Some KeeperFailed) =
      (to ≡ from) × HasRisen before.view.faults after.view.faults × KeepsFiles before after
  CallTurns from to before after call (Some Full) =
      AreBy 0 after.view.seen → before.number ≡ 0
      → length before.view.mine ≡ before.view.limit
  CallTurns from to before after call (Some other) = ⊥

module _ {Source Sink : Type 0} (left : Source → Option (List ℕ)) (held : Sink → Option (List ℕ))
    (source_faults : Source → ℕ) (source_full : Source → Type 0) (sink_faults : Sink → ℕ)
    (sink_full : Sink → Type 0) where
  -- no record was read, and the run ends there
  abbrev pub Stops : Source → Source → Ending → Type 0
  Stops old new Answered =
      Consumes (left old) (left new) [] × IsAtEnd (left new)
      × (source_faults new ≡ source_faults old)
  Stops old new BadRecord =
      (bytes : List ℕ) × Consumes (left old) (left new) bytes × IsBad bytes (left new)
      × (source_faults new ≡ source_faults old)
  Stops old new ReadFailed =
      (bytes : List ℕ) × Consumes (left old) (left new) bytes × IsBegun bytes
      × Rose source_faults source_full old new
  Stops old new (NoMemory short) =
      (bytes : List ℕ) × Consumes (left old) (left new) bytes × IsBegun bytes
      × (source_faults new ≡ source_faults old)
  Stops old new other = ⊥

  -- a record was read, and its call made
  pub record Calls (old new : Source) (from to : Sink) (before after : CallerValue)
      (result : Option Ending) : Type 0 where
    pub call : FileCall
    pub whole : FitsRecord call
    pub read : Consumes (left old) (left new) (record_bytes call)
    pub worked : source_faults new ≡ source_faults old
    pub turns : CallTurns held sink_faults sink_full from to before after call result

  -- the run ends before a call
  pub record StopsFirst (old new : Source) (from to : Sink) (before after : CallerValue)
      (result : Option Ending) : Type 0 where
    pub ending : Ending
    pub is : result ≡ Some ending
    pub stops : Stops old new ending
    pub sink : to ≡ from
    pub caller : after ≡ before

  -- one record
  abbrev pub Turns : Source → Source → Sink → Sink → CallerValue → CallerValue → Option Ending
      → Type 0
  Turns old new from to before after result =
      Calls old new from to before after result ⊎ StopsFirst old new from to before after result

  -- between two records, if the journal has no other caller's entries
  pub record IsServing (old new : Source) (from to : Sink) (caller : CallerValue) (count : ℕ)
      : Type 0 where
    pub records : List FileCall
    pub whole : AllByRecursion FitsRecord records
    pub long : length records ≡ count
    pub read : Consumes (left old) (left new) (flat_map record_bytes records)
    pub wrote : Appends (held from) (held to) (replies no_files records)
    pub tied : IsTied caller (files_by no_files records)
    pub few : length caller.view.mine ≤ count
    pub limit : caller.view.limit ≡ most_records
    pub source_worked : source_faults new ≡ source_faults old
    pub sink_worked : sink_faults to ≡ sink_faults from
