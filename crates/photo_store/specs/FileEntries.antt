-- Statement: what the entries of a journal say of files, with the keeper's blobs (own).
use Rattle.std.specs.Prelude.{ℕ, ◌≡◌, List, [], ◌∷◌, Option, Some, None, slice_get}
use Rattle.sha2.specs.Sha256.{sha256}
use Rattle.blob_store.specs.declared.record.Call.TheVariants.{Put, Find, Remove}
use Rattle.blob_store.specs.declared.record.Reply.TheVariants.{Stored, Held, Found, Missing, Removed}
use Rattle.blob_store.specs.declared.record.Record.{Record}
use Rattle.blob_store.specs.Journals.{kept}
use Rattle.photo_blob.specs.Blobs.{IsBlobOf}
use Rattle.photo_store.specs.FileStores.{Files, FileCall, PutFile, FindFile, RemoveFile, FileReply, FileStored, FileHeld, FileFound, FileMissing, FileRemoved}

-- the blob with this number is that of a file
abbrev pub IsFileAt : List (List ℕ) → ℕ → List ℕ → Type 0
IsFileAt blobs number file =
    (blob : List ℕ) × (slice_get blobs number ≡ Some blob) × IsBlobOf blob file

-- an entry is this call with this reply
abbrev pub IsEntry : List (List ℕ) → Record → FileCall → FileReply → Type 0
IsEntry blobs r (PutFile file) FileStored =
    (r.call ≡ Put) × (r.key ≡ sha256 file)
    × ((number : ℕ) × (r.reply ≡ Stored number) × IsFileAt blobs number file)
IsEntry blobs r (PutFile file) FileHeld =
    (r.call ≡ Put) × (r.key ≡ sha256 file)
    × ((number : ℕ) × (r.reply ≡ Held number) × IsFileAt blobs number file)
IsEntry blobs r (FindFile key) (FileFound file) =
    (r.call ≡ Find) × (r.key ≡ key)
    × ((number : ℕ) × (r.reply ≡ Found number) × IsFileAt blobs number file)
IsEntry blobs r (FindFile key) FileMissing =
    (r.call ≡ Find) × (r.key ≡ key) × (r.reply ≡ Missing)
IsEntry blobs r (RemoveFile key) FileRemoved =
    (r.call ≡ Remove) × (r.key ≡ key) × (r.reply ≡ Removed)
IsEntry blobs r (RemoveFile key) FileMissing =
    (r.call ≡ Remove) × (r.key ≡ key) × (r.reply ≡ Missing)
IsEntry blobs r call reply = ⊥

-- entries are these calls with their replies, one by one
abbrev pub AreEntries : List (List ℕ) → List Record → List (FileCall × FileReply) → Type 0
AreEntries blobs [] [] = Unit {0}
AreEntries blobs (r ∷ rs) (c ∷ cs) = IsEntry blobs r c.0 c.1 × AreEntries blobs rs cs
AreEntries blobs rs cs = ⊥

-- what a key has, by the number of its blob and by its file
abbrev pub HasSame : List (List ℕ) → List ℕ → Option ℕ → Option (List ℕ) → Type 0
HasSame blobs key None None = Unit {0}
HasSame blobs key (Some number) (Some file) = (key ≡ sha256 file) × IsFileAt blobs number file
HasSame blobs key number file = ⊥

-- a map of files has for each key what a journal keeps
abbrev pub AreSame : List (List ℕ) → List Record → Files → Type 0
AreSame blobs journal files = (key : List ℕ) → HasSame blobs key (kept journal key) (files key)
