-- Statement: which replies a sink takes (docs/STORE.md, Records).
use Rattle.std.specs.Prelude.{ℕ, ◌≡◌, List, [], ◌∷◌, ◌++◌, flat_map, Option}
use Rattle.std.specs.List.{AllByRecursion}
use Rattle.std.specs.Io.KnownBytes.{Consumes}
use Rattle.photo_store.specs.FileStores.{Files, FileCall, key_asked, file_reply}
use Rattle.store_run.specs.Records.{FitsRecord, record_bytes, reply_bytes}

-- a text of replies to these records, each as some store of files would give it
abbrev pub AreReplies : List FileCall → List ℕ → Type 0
AreReplies [] text = text ≡ []
AreReplies (call ∷ calls) text =
    (files : Files) × (more : List ℕ)
    × (text ≡ reply_bytes call (file_reply (files (key_asked call)) call) ++ more)
    × AreReplies calls more

-- whole records that a source may give next
abbrev pub MayGive : Option (List ℕ) → List FileCall → Type 0
MayGive left records =
    AllByRecursion FitsRecord records
    × ((rest : Option (List ℕ)) × Consumes left rest (flat_map record_bytes records))

-- a sink takes replies to the records that a source may give, whichever they are
abbrev pub TakesReplies : {Sink : Type 0} → (Sink → List ℕ → Type 0) → Option (List ℕ) → Sink
    → Type 0
TakesReplies takes left sink =
    (records : List FileCall) (text : List ℕ) → MayGive left records → AreReplies records text
    → takes sink text
