-- Steps: what each call does to a store, and what it answers (own). `found` is the store before the call, `left` the
-- store after it.
use Rattle.std.specs.Prelude.{◌≡◌, ℕ, ◌<◌, ◌≤◌, List, [], ◌∷◌, ◌++◌, length, slice_get, Option, Some, None}
use Rattle.std.specs.Global.{Vec}
use Rattle.std.specs.declared.result.Result.{Result}
use Rattle.std.specs.declared.result.Result.TheVariants.{Ok, Err}
use Rattle.blob_store.specs.declared.record.Reply.{Reply}
use Rattle.blob_store.specs.declared.record.Reply.TheVariants.{Stored, Found, Missing}
use Rattle.blob_store.specs.declared.record.Stop.{Stop}
use Rattle.blob_store.specs.declared.record.Stop.TheVariants.{Full, Clash, KeeperFault, NoMemory}
use Rattle.blob_store.specs.declared.keeper.Keep.{Keep}
use Rattle.blob_store.specs.declared.keeper.Keep.TheVariants.{Failed, NoMemory as NoRoom}
use Rattle.blob_store.specs.Journals.{reply_to, kept}
use Rattle.blob_store.specs.States.{StoreState, Asked, Puts, Finds, HasRisen, AsksKeeper, NamesBlob, IsClash, call_of, key_of, entry_of}

-- the blobs that a call with this reply adds after the others
abbrev pub added_by : Asked → Reply → List (List ℕ)
added_by (Puts key blob) (Stored number) = blob ∷ []
added_by asked reply = []

-- a call got its reply, which is that of the store of one thread: the journal has one entry more
pub record Enters (found left : StoreState) (caller : ℕ) (asked : Asked) (reply : Reply)
    : Type 0 where
  pub room : length found.journal < found.limit
  pub reply_is : reply
      ≡ reply_to (kept found.journal (key_of asked)) (call_of asked) (length found.blobs)
  pub journal : left.journal ≡ found.journal ++ entry_of caller asked reply ∷ []
  pub blobs : left.blobs ≡ found.blobs ++ added_by asked reply
  pub names : NamesBlob left.blobs asked reply
  pub faults : found.faults ≤ left.faults
  pub limit : left.limit ≡ found.limit

-- the cause of a stop; if memory is out, the stop holds the error of a failed allocation, and nothing more is said than
-- that the journal had room, and that the call asked the keeper
abbrev pub HasCause : StoreState → StoreState → Asked → Stop → Type 0
HasCause found left asked Full = length found.journal ≡ found.limit
HasCause found left asked Clash = (length found.journal < found.limit) × IsClash found asked
HasCause found left asked KeeperFault =
    (length found.journal < found.limit) × HasRisen found.faults left.faults
    × AsksKeeper found.journal asked
HasCause found left asked (NoMemory short) =
    (length found.journal < found.limit) × AsksKeeper found.journal asked

-- a call got no reply: journal and blobs are as they were
pub record Stays (found left : StoreState) (asked : Asked) (stop : Stop) : Type 0 where
  pub cause : HasCause found left asked stop
  pub journal : left.journal ≡ found.journal
  pub blobs : left.blobs ≡ found.blobs
  pub faults : found.faults ≤ left.faults
  pub limit : left.limit ≡ found.limit

-- what a caller's call does to a store, and what it answers
abbrev pub Calls : StoreState → StoreState → ℕ → Asked → Result Reply Stop → Type 0
Calls found left caller asked (Ok reply) = Enters found left caller asked reply
Calls found left caller asked (Err stop) = Stays found left asked stop

-- what a find does, and what it answers: the number of the key's blob, and the blob
abbrev pub FindGives : StoreState → StoreState → ℕ → List ℕ → Result (Option (ℕ × Vec ℕ)) Stop
    → Type 0
FindGives found left caller key (Ok None) = Enters found left caller (Finds key) Missing
FindGives found left caller key (Ok (Some sought)) =
    Enters found left caller (Finds key) (Found sought.0)
    × (slice_get left.blobs sought.0 ≡ Some sought.1.items)
FindGives found left caller key (Err stop) = Stays found left (Finds key) stop

-- why a call stops if the keeper didn't do what it was asked
abbrev pub stop_from : Keep → Stop
stop_from Failed = KeeperFault
stop_from (NoRoom short) = NoMemory short
