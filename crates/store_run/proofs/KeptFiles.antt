-- What the keeper has once records are answered.
use Rattle.std.proofs.Common.{◌≡◌, ℕ, List, Option, Some, None, sym, subst}
use Rattle.blob_store.specs.declared.record.Record.{Record}
use Rattle.blob_store.specs.Journals.{kept}
use Rattle.photo_store.specs.FileEntries.{AreSame, HasSame, IsFileAt}
use Rattle.photo_store.specs.FileStores.{FileCall, no_files}
use Rattle.store_run.specs.Kept.{HasKept, HaveFiles}
use Rattle.store_run.specs.Records.{files_by}
use Rattle.store_run.specs.declared.ending.Ending.{Ending}
use Rattle.store_run.specs.declared.ending.Ending.TheVariants.{Answered, BadRecord, ReadFailed, WriteFailed, NoMemory, KeeperFailed, Full}

-- a file that a key has is at a blob
have : (blobs : List (List ℕ)) (key file : List ℕ) (k : Option ℕ) (f : Option (List ℕ))
    → HasSame blobs key k f → f ≡ Some file → (number : ℕ) × IsFileAt blobs number file
have blobs key file None None h e = absurd (cc)
have blobs key file (Some n) (Some g) h e =
    let same : g ≡ file = cc in (n, subst (λ (x : List ℕ). IsFileAt blobs n x) same h.1)
have blobs key file None (Some g) h e = absurd h
have blobs key file (Some n) None h e = absurd h

-- the files of a journal are those of its blobs
pub same_have : (blobs all : List (List ℕ)) (journal : List Record) (records : List FileCall)
    → all ≡ blobs → AreSame blobs journal (files_by no_files records) → HaveFiles all records
same_have blobs all journal records is same key file e =
    have all key file (kept journal key) (files_by no_files records key)
    (subst (λ (bs : List (List ℕ)). HasSame bs key (kept journal key) (files_by no_files records key)) (sym is) (same key))
    e

-- what follows from what holds of the records holds of them
pub kept_wider : {Source Sink : Type 0} (left : Source → Option (List ℕ))
    (held : Sink → Option (List ℕ)) (old new : Source) (from to : Sink)
    (A B : List FileCall → Type 0) → ((records : List FileCall) → A records → B records)
    → (ending : Ending) → HasKept left held old new from to A ending
    → HasKept left held old new from to B ending
kept_wider left held old new from to A B more WriteFailed h = (h.0, h.1, h.2, h.3, h.4, more h.0 h.5)
kept_wider left held old new from to A B more Answered h = (h.0, h.1, h.2, more h.0 h.3)
kept_wider left held old new from to A B more BadRecord h = (h.0, h.1, h.2, more h.0 h.3)
kept_wider left held old new from to A B more ReadFailed h = (h.0, h.1, h.2, more h.0 h.3)
kept_wider left held old new from to A B more (NoMemory short) h = (h.0, h.1, h.2, more h.0 h.3)
kept_wider left held old new from to A B more KeeperFailed h = (h.0, h.1, h.2, more h.0 h.3)
kept_wider left held old new from to A B more Full h = (h.0, h.1, h.2, more h.0 h.3)
