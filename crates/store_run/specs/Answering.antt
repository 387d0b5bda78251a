-- Steps: what a store's sole caller is answered, and what is written of it (own).
use Rattle.std.specs.Prelude.{ℕ, ◌≡◌, ◌+◌, ◌≤◌, List, [], ◌∷◌, ◌++◌, length}
use Rattle.std.specs.declared.result.Result.{Result}
use Rattle.std.specs.declared.result.Result.TheVariants.{Ok, Err}
use Rattle.sha2.specs.Sha256.{sha256}
use Rattle.byteorder.specs.Endian.{big_bytes}
use Rattle.container_spec.specs.Limits.{most_of_a_file}
use Rattle.blob_store.specs.Callers.{CallerValue}
use Rattle.blob_store.specs.Journals.{AreBy, StartsWith}
use Rattle.blob_store.specs.States.{HasRisen}
use Rattle.blob_store.specs.declared.record.Stop.{Stop}
use Rattle.blob_store.specs.declared.record.Stop.TheVariants.{Full, Clash, KeeperFault, NoMemory}
use Rattle.photo_store.specs.FileEntries.{AreSame}
use Rattle.photo_store.specs.FileStores.{Files, FileCall, key_asked, file_reply, files_after}
use Rattle.photo_store.specs.declared.answers.Put.{Put}
use Rattle.photo_store.specs.declared.answers.Put.TheVariants.{Stored, Held}
use Rattle.photo_store.specs.declared.answers.Remove.{Remove}
use Rattle.photo_store.specs.declared.answers.Remove.TheVariants.{Removed, Missing}
use Rattle.store_run.specs.Records.{clash_mark, found_mark, held_mark, not_removed_mark, removed_mark, reply_bytes, stored_mark}
use Rattle.store_run.specs.declared.answers.Answer.{Answer}
use Rattle.store_run.specs.declared.answers.Answer.TheVariants.{Keyed, File, Mark}

-- the bytes that are written of an answer
abbrev pub answer_bytes : Answer → List ℕ
answer_bytes (Keyed mark key) = mark ∷ key
answer_bytes (File file) = found_mark ∷ (big_bytes 4 (length file.items) ++ file.items)
answer_bytes (Mark mark) = mark ∷ []

-- a file in an answer is as long as it may be
abbrev pub IsShort : Answer → Type 0
IsShort (Keyed mark key) = Unit {0}
IsShort (File file) = length file.items ≤ most_of_a_file
IsShort (Mark mark) = Unit {0}

-- the answer that is written of a put
abbrev pub put_answer : List ℕ → Result Put Stop → Result Answer Stop
put_answer file (Ok (Stored key front)) = Ok (Keyed stored_mark key)
put_answer file (Ok (Held key front)) = Ok (Keyed held_mark key)
put_answer file (Err Clash) = Ok (Keyed clash_mark (sha256 file))
put_answer file (Err Full) = Err Full
put_answer file (Err KeeperFault) = Err KeeperFault
put_answer file (Err (NoMemory short)) = Err (NoMemory short)

-- and of a removal
abbrev pub remove_answer : Result Remove Stop → Result Answer Stop
remove_answer (Ok (Removed front)) = Ok (Mark removed_mark)
remove_answer (Ok (Missing front)) = Ok (Mark not_removed_mark)
remove_answer (Err stop) = Err stop

-- the first caller, whose own entries keep these files
pub record IsTied (caller : CallerValue) (files : Files) : Type 0 where
  pub first : caller.number ≡ 0
  pub same : AreSame caller.view.blobs caller.view.mine files

-- if the journal has no other entries, the files stay as they were
abbrev pub KeepsFiles : CallerValue → CallerValue → Type 0
KeepsFiles old new =
    (files : Files) → AreBy 0 new.view.seen → IsTied old files → IsTied new files

-- if the journal has no other entries, the answer is the reply of the store of one thread, or there is a cause
abbrev pub Gives : CallerValue → CallerValue → FileCall → Result Answer Stop → Type 0
Gives old new call (Ok answer) =
    IsShort answer
    × ((files : Files) → AreBy 0 new.view.seen → IsTied old files
    → (answer_bytes answer ≡ reply_bytes call (file_reply (files (key_asked call)) call))
    × IsTied new (files_after files call))
Gives old new call (Err Full) =
    AreBy 0 new.view.seen → old.number ≡ 0 → length old.view.mine ≡ old.view.limit
Gives old new call (Err Clash) = ⊥
Gives old new call (Err KeeperFault) =
    HasRisen old.view.faults new.view.faults × KeepsFiles old new
Gives old new call (Err (NoMemory short)) = KeepsFiles old new

-- a caller later
pub record IsLater (old new : CallerValue) : Type 0 where
  pub table : new.table ≡ old.table
  pub number : new.number ≡ old.number
  pub splits : new.splits ≡ old.splits
  pub limit : new.view.limit ≡ old.view.limit
  pub seen : StartsWith new.view.seen old.view.seen
  pub faults : old.view.faults ≤ new.view.faults
  pub entries : length new.view.mine ≤ length old.view.mine + 1

-- an answer is a reply that some store of files would give
abbrev pub IsReply : FileCall → Result Answer Stop → Type 0
IsReply call (Ok answer) =
    (files : Files)
    × (answer_bytes answer ≡ reply_bytes call (file_reply (files (key_asked call)) call))
IsReply call (Err stop) = Unit {0}

-- what a call gives
pub record HasAnswered (old new : CallerValue) (call : FileCall) (result : Result Answer Stop)
    : Type 0 where
  pub later : IsLater old new
  pub gives : Gives old new call result
  pub reply : IsReply call result

-- a caller after some calls
pub record IsSameCaller (old new : CallerValue) : Type 0 where
  pub table : new.table ≡ old.table
  pub number : new.number ≡ old.number
  pub splits : new.splits ≡ old.splits
  pub faults : old.view.faults ≤ new.view.faults
