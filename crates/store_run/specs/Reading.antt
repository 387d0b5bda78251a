-- Steps: what reading a record gives (own). `left` is what the source has left after it.
use Rattle.std.specs.Prelude.{ℕ, ◌≡◌, List, [], ◌∷◌, Option, Some, None}
use Rattle.std.specs.Io.KnownBytes.{Consumes, IsAtEnd}
use Rattle.std.specs.declared.result.Result.{Result}
use Rattle.std.specs.declared.result.Result.TheVariants.{Ok, Err}
use Rattle.photo_store.specs.FileStores.{FileCall, PutFile, FindFile, RemoveFile}
use Rattle.store_run.specs.Records.{IsBad, IsBegun, FitsRecord, record_bytes}
use Rattle.store_run.specs.declared.calls.Asked.{Asked}
use Rattle.store_run.specs.declared.calls.Asked.TheVariants.{Put, Find, Remove}
use Rattle.store_run.specs.declared.calls.RecordStop.{RecordStop}
use Rattle.store_run.specs.declared.calls.RecordStop.TheVariants.{Bad, ReadFault, NoMemory}
use Rattle.store_run.specs.declared.reading.ReadStop.{ReadStop}
use Rattle.store_run.specs.declared.reading.ReadStop.TheVariants.{AtEnd, ReadFault as BytesFault, NoMemory as BytesMemory}

-- the call that a record asks for
abbrev pub call_of : Asked → FileCall
call_of (Put file) = PutFile file.items
call_of (Find key) = FindFile key
call_of (Remove key) = RemoveFile key

-- a record stops with what stops the reading of its bytes
abbrev pub stop_of : ReadStop → RecordStop
stop_of AtEnd = Bad
stop_of BytesFault = ReadFault
stop_of (BytesMemory short) = NoMemory short

-- these bytes of a record were read
abbrev pub IsRead : List ℕ → Option (List ℕ) → Result Asked RecordStop → Type 0
IsRead bytes left (Ok asked) = (bytes ≡ record_bytes (call_of asked)) × FitsRecord (call_of asked)
IsRead bytes left (Err Bad) = IsBad bytes left
IsRead bytes left (Err ReadFault) = IsBegun bytes
IsRead bytes left (Err (NoMemory short)) = IsBegun bytes

-- the rest of a record was read, after this mark
abbrev pub ReadsRest : ℕ → Option (List ℕ) → Option (List ℕ) → Result Asked RecordStop → Type 0
ReadsRest mark old new result =
    (rest : List ℕ) × Consumes old new rest × IsRead (mark ∷ rest) new result

-- the next record was read; if there is none, the source is at its end
abbrev pub ReadsNext : Option (List ℕ) → Option (List ℕ) → Result (Option Asked) RecordStop → Type 0
ReadsNext old new (Ok None) = Consumes old new [] × IsAtEnd new
ReadsNext old new (Ok (Some asked)) =
    (bytes : List ℕ) × Consumes old new bytes × IsRead bytes new (Ok asked)
ReadsNext old new (Err stop) =
    (bytes : List ℕ) × Consumes old new bytes × IsRead bytes new (Err stop)
