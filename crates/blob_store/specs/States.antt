-- Statement: the state of a store, what calls ask of it, and what always holds of it (own).
use Rattle.std.specs.Prelude.{◌≡◌, ◌≢◌, ◌⊎◌, ℕ, ◌-◌, ◌<◌, ◌≤◌, ◌^◌, List, [], length, slice_get, Option, Some, None, IsSome}
use Rattle.std.specs.List.{AllByRecursion}
use Rattle.std.specs.Global.{Vec}
use Rattle.std.specs.declared.result.Result.{Result}
use Rattle.std.specs.declared.result.Result.TheVariants.{Ok, Err}
use Rattle.blob_store.specs.declared.record.Call.{Call}
use Rattle.blob_store.specs.declared.record.Call.TheVariants.{Put, Find, Remove}
use Rattle.blob_store.specs.declared.record.Reply.{Reply}
use Rattle.blob_store.specs.declared.record.Reply.TheVariants.{Stored, Held, Found, Missing, Removed}
use Rattle.blob_store.specs.declared.record.Record.{Record}
use Rattle.blob_store.specs.declared.record.Stop.{Stop}
use Rattle.blob_store.specs.Journals.{kept, stored_in, IsLegal}

-- the journal, the keeper's blobs and its count of faults, and how many entries the journal may have
pub record StoreState : Type 0 where
  pub journal : List Record
  pub blobs : List (List ℕ)
  pub faults : ℕ
  pub limit : ℕ

-- a store before the first call
abbrev pub empty_store : ℕ → ℕ → StoreState
empty_store faults limit = record { journal = []; blobs = []; faults = faults; limit = limit }

-- a count of faults has risen, or can't rise any more
abbrev pub HasRisen : ℕ → ℕ → Type 0
HasRisen before after = (before < after) ⊎ (2 ^ 64 - 1 ≤ after)

-- what a call asks: its key, and a put's blob
pub data Asked : Type 0 where
  Puts : List ℕ → List ℕ → Asked
  Finds : List ℕ → Asked
  Removes : List ℕ → Asked

-- which call it is
abbrev pub call_of : Asked → Call
call_of (Puts key blob) = Put
call_of (Finds key) = Find
call_of (Removes key) = Remove

-- its key
abbrev pub key_of : Asked → List ℕ
key_of (Puts key blob) = key
key_of (Finds key) = key
key_of (Removes key) = key

-- the entry of a caller's call with its reply
abbrev pub entry_of : ℕ → Asked → Reply → Record
entry_of caller asked reply =
    record { caller = caller; call = call_of asked; key = key_of asked; reply = reply }

-- the answer to a find, without the blob
abbrev pub find_reply : Result (Option (ℕ × Vec ℕ)) Stop → Result Reply Stop
find_reply (Ok None) = Ok Missing
find_reply (Ok (Some found)) = Ok (Found found.0)
find_reply (Err stop) = Err stop

-- the blob of a put is the one whose number is in the reply
abbrev pub NamesBlob : List (List ℕ) → Asked → Reply → Type 0
NamesBlob blobs (Puts key blob) (Stored number) = slice_get blobs number ≡ Some blob
NamesBlob blobs (Puts key blob) (Held number) = slice_get blobs number ≡ Some blob
NamesBlob blobs asked reply = Unit {0}

-- a call asks the keeper, and for memory, if it is a put, or a find of a key that has a blob
abbrev pub AsksKeeper : List Record → Asked → Type 0
AsksKeeper journal (Puts key blob) = Unit {0}
AsksKeeper journal (Finds key) = IsSome (kept journal key)
AsksKeeper journal (Removes key) = ⊥

-- the key of a put has another blob
abbrev pub IsClash : StoreState → Asked → Type 0
IsClash store (Puts key blob) =
    (number : ℕ) × (other : List ℕ) × (kept store.journal key ≡ Some number)
    × (slice_get store.blobs number ≡ Some other) × (other ≢ blob)
IsClash store asked = ⊥

-- if a reply says that a blob was stored, the blob with its number suits the key
abbrev pub StoredWell : (List ℕ → List ℕ → Type 0) → List (List ℕ) → List ℕ → Reply → Type 0
StoredWell suits blobs key (Stored number) =
    (blob : List ℕ) × (slice_get blobs number ≡ Some blob) × suits key blob
StoredWell suits blobs key (Held number) = Unit {0}
StoredWell suits blobs key (Found number) = Unit {0}
StoredWell suits blobs key Missing = Unit {0}
StoredWell suits blobs key Removed = Unit {0}

-- what always holds of a store: its journal is legal and within its limit, and there is one blob for each entry that
-- stored one, which suits that entry's key
pub record IsSound (suits : List ℕ → List ℕ → Type 0) (store : StoreState) : Type 0 where
  pub legal : IsLegal store.journal
  pub within : length store.journal ≤ store.limit
  pub named : length store.blobs ≡ stored_in store.journal
  pub well : AllByRecursion (λ (r : Record). StoredWell suits store.blobs r.key r.reply)
      store.journal
