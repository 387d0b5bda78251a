-- Statement: photos under their digests, and what the calls on a store of them answer (docs/STORE.md, Calls).
use Rattle.std.specs.Prelude.{ℕ, ◌≡◌, ◌≢◌, ◌⊎◌, ◌≤◌, List, length, Some, slice_get}
use Rattle.std.specs.declared.result.Result.{Result}
use Rattle.std.specs.declared.result.Result.TheVariants.{Ok, Err}
use Rattle.sha2.specs.Sha256.{sha256}
use Rattle.allocation.specs.declared.no_memory.NoMemory.{NoMemory as OutOfMemory}
use Rattle.container_spec.specs.Limits.{most_of_a_file}
use Rattle.blob_store.specs.declared.record.Reply.TheVariants.{Stored, Held, Found as FoundReply, Missing as MissingReply, Removed as RemovedReply}
use Rattle.blob_store.specs.declared.record.Stop.{Stop}
use Rattle.blob_store.specs.declared.record.Stop.TheVariants.{NoMemory}
use Rattle.blob_store.specs.States.{Puts, Finds, Removes}
use Rattle.blob_store.specs.Callers.{CallerValue, CallGives, HasCalled}
use Rattle.photo_blob.specs.Blobs.{IsBlobOf}
use Rattle.photo_store.specs.declared.answers.Put.{Put}
use Rattle.photo_store.specs.declared.answers.Put.TheVariants.{Stored as PutStored, Held as PutHeld}
use Rattle.photo_store.specs.declared.answers.Find.{Find}
use Rattle.photo_store.specs.declared.answers.Find.TheVariants.{Found, Missing as FindMissing}
use Rattle.photo_store.specs.declared.answers.Remove.{Remove}
use Rattle.photo_store.specs.declared.answers.Remove.TheVariants.{Removed, Missing}

-- a blob is that of a file with this digest
pub record SuitsKey (key blob : List ℕ) : Type 0 where
  pub file : List ℕ
  pub short : length file ≤ most_of_a_file
  pub key_is : key ≡ sha256 file
  pub blob_is : IsBlobOf blob file

-- what a put of a file gives: one call, which put the file's blob under its digest; or memory was out before that
abbrev pub PutGives : CallerValue → CallerValue → List ℕ → Result Put Stop → Type 0
PutGives old new file (Ok (PutStored key front)) =
    (blob : List ℕ) × (number : ℕ) × IsBlobOf blob file × (key ≡ sha256 file)
    × CallGives SuitsKey old new (Puts (sha256 file) blob) (Ok (Stored number)) front
PutGives old new file (Ok (PutHeld key front)) =
    (blob : List ℕ) × (number : ℕ) × IsBlobOf blob file × (key ≡ sha256 file)
    × CallGives SuitsKey old new (Puts (sha256 file) blob) (Ok (Held number)) front
PutGives old new file (Err stop) =
    ((short : OutOfMemory) × (stop ≡ NoMemory short) × (new ≡ old))
    ⊎ ((blob : List ℕ) × IsBlobOf blob file
    × HasCalled SuitsKey old new (Puts (sha256 file) blob) (Err stop))

-- another file has the same digest
abbrev pub HasTwin : List ℕ → Type 0
HasTwin file = (other : List ℕ) × (sha256 other ≡ sha256 file) × (other ≢ file)

-- what a removal of a key gives
abbrev pub RemoveGives : CallerValue → CallerValue → List ℕ → Result Remove Stop → Type 0
RemoveGives old new key (Ok (Removed front)) =
    CallGives SuitsKey old new (Removes key) (Ok RemovedReply) front
RemoveGives old new key (Ok (Missing front)) =
    CallGives SuitsKey old new (Removes key) (Ok MissingReply) front
RemoveGives old new key (Err stop) = HasCalled SuitsKey old new (Removes key) (Err stop)

-- what a find of a key gives: a ticket holds the blob with the number in the reply, which is that of a file with this
-- digest
abbrev pub FindGives : CallerValue → CallerValue → List ℕ → Result Find Stop → Type 0
FindGives old new key (Ok (Found ticket front)) =
    (number : ℕ) × CallGives SuitsKey old new (Finds key) (Ok (FoundReply number)) front
    × (slice_get new.view.blobs number ≡ Some ticket) × SuitsKey key ticket
FindGives old new key (Ok (FindMissing front)) =
    CallGives SuitsKey old new (Finds key) (Ok MissingReply) front
FindGives old new key (Err stop) = HasCalled SuitsKey old new (Finds key) (Err stop)
