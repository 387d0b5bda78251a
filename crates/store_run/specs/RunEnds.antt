-- Statement: how an input is answered, and how that ends (docs/STORE.md, Records).
use Rattle.std.specs.Prelude.{ℕ, ◌≡◌, ◌<◌, ◌≤◌, List, [], ◌∷◌, ◌++◌, length, take, flat_map, Option, Some, None, codes, ◌⊎◌}
use Rattle.std.specs.List.{AllByRecursion}
use Rattle.std.specs.Io.KnownBytes.{Appends, Consumes, IsAtEnd}
use Rattle.outside_core.specs.Faults.{Rose}
use Rattle.blob_store.specs.States.{HasRisen}
use Rattle.photo_store.specs.FileStores.{FileCall, no_files}
use Rattle.outside_core.specs.Written.{HasFailed}
use Rattle.store_run.specs.Records.{IsBad, IsBegun, IsRecord, FitsRecord, most_records, record_bytes, replies}
use Rattle.store_run.specs.declared.ending.Ending.{Ending}
use Rattle.store_run.specs.declared.ending.Ending.TheVariants.{Answered, BadRecord, ReadFailed, WriteFailed, NoMemory, KeeperFailed, Full}

-- the status of an ending
abbrev pub status_of : Ending → ℕ
status_of Answered = 0
status_of BadRecord = 1
status_of ReadFailed = 3
status_of WriteFailed = 4
status_of (NoMemory short) = 5
status_of KeeperFailed = 6
status_of Full = 7

-- its line
abbrev pub line_of : Ending → List ℕ
line_of Answered = []
line_of BadRecord = codes "store: bad record\n"
line_of ReadFailed = codes "lepton: read failed\n"
line_of WriteFailed = codes "lepton: write failed\n"
line_of (NoMemory short) = codes "lepton: no memory\n"
line_of KeeperFailed = codes "store: keeper failed\n"
line_of Full = codes "store: full\n"

-- the keeper that is given back counts more faults than the one that was given, or can count no more
abbrev pub KeeperRose : {P : Type 0} → (P → ℕ) → P → Option P → Type 0
KeeperRose faults given None = ⊥
KeeperRose faults given (Some back) = HasRisen (faults given) (faults back)

-- stderr got a line whole, or the first bytes of it and a write failed
abbrev pub Notes : {Note : Type 0} → (Note → Option (List ℕ)) → (Note → ℕ) → (Note → Type 0)
    → Note → Note → List ℕ → Type 0
Notes held faults full old new line =
    (Appends (held old) (held new) line × (faults new ≡ faults old))
    ⊎ ((written : ℕ) × HasFailed held faults full old new line written)

module _ {Source Sink : Type 0} (left : Source → Option (List ℕ)) (held : Sink → Option (List ℕ))
  where
    -- whole records were read, and these bytes after them, and of the replies N bytes were written
    pub record HasAnswered (old new : Source) (from to : Sink) (records : List FileCall)
        (rest : List ℕ) (written : ℕ) : Type 0 where
      pub whole : AllByRecursion FitsRecord records
      pub read : Consumes (left old) (left new) (flat_map record_bytes records ++ rest)
      pub wrote : Appends (held from) (held to) (take written (replies no_files records))

    -- some replies were written, the last one perhaps in part
    pub record HasAnsweredSome (old new : Source) (from to : Sink) : Type 0 where
      pub records : List FileCall
      pub rest : List ℕ
      pub written : ℕ
      pub so_far : HasAnswered old new from to records rest written

    -- all of them were
    pub record HasAnsweredAll (old new : Source) (from to : Sink) (records : List FileCall)
        (rest : List ℕ) : Type 0 where
      pub whole : AllByRecursion FitsRecord records
      pub read : Consumes (left old) (left new) (flat_map record_bytes records ++ rest)
      pub wrote : Appends (held from) (held to) (replies no_files records)

    module _ (source_faults : Source → ℕ) (source_full : Source → Type 0) (sink_faults : Sink → ℕ)
        (sink_full : Sink → Type 0) where
      -- the source didn't fail
      abbrev pub SourceWorked : Source → Source → Type 0
      SourceWorked old new = source_faults new ≡ source_faults old

      -- the sink didn't fail
      abbrev pub SinkWorked : Sink → Sink → Type 0
      SinkWorked from to = sink_faults to ≡ sink_faults from

      -- how it ends; `KeeperRose` is that the keeper's count of faults rose, or can't rise any more
      abbrev pub RunEnds : Source → Source → Sink → Sink → Type 0 → Ending → Type 0
      RunEnds old new from to KeeperRose Answered =
          (records : List FileCall) × HasAnsweredAll old new from to records []
          × IsAtEnd (left new) × (length records ≤ most_records)
          × SourceWorked old new × SinkWorked from to
      RunEnds old new from to KeeperRose BadRecord =
          (records : List FileCall) × (bytes : List ℕ)
          × HasAnsweredAll old new from to records bytes × IsBad bytes (left new)
          × (length records < most_records) × SourceWorked old new × SinkWorked from to
      RunEnds old new from to KeeperRose Full =
          (records : List FileCall) × (byte : ℕ)
          × HasAnsweredAll old new from to records (byte ∷ []) × (length records ≡ most_records)
          × SourceWorked old new × SinkWorked from to
      RunEnds old new from to KeeperRose ReadFailed =
          (records : List FileCall) × (bytes : List ℕ)
          × HasAnsweredAll old new from to records bytes × IsBegun bytes
          × Rose source_faults source_full old new × SinkWorked from to
      RunEnds old new from to KeeperRose WriteFailed =
          HasAnsweredSome old new from to × Rose sink_faults sink_full from to
          × SourceWorked old new
      RunEnds old new from to KeeperRose KeeperFailed =
          (records : List FileCall) × (call : FileCall) × FitsRecord call
          × HasAnsweredAll old new from to records (record_bytes call) × KeeperRose
          × SourceWorked old new × SinkWorked from to
      RunEnds old new from to KeeperRose (NoMemory short) =
          (records : List FileCall) × (bytes : List ℕ)
          × HasAnsweredAll old new from to records bytes × (IsBegun bytes ⊎ IsRecord bytes)
          × SourceWorked old new × SinkWorked from to
