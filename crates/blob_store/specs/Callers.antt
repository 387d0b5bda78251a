-- Statement: what a caller knows of the store, and what a call adds to it (own). `old` is its view before the call,
-- `new` its view after it.
use Rattle.std.specs.Prelude.{◌≡◌, ℕ, ◌+◌, ◌<◌, ◌≤◌, List, [], ◌∷◌, ◌++◌, length, slice_get, zero, suc, Option, Some, None}
use Rattle.std.specs.Global.{Vec}
use Rattle.std.specs.declared.result.Result.{Result}
use Rattle.std.specs.declared.result.Result.TheVariants.{Ok, Err}
use Rattle.atomic_table.specs.Seated.{TableId}
use Rattle.blob_store.specs.declared.record.Record.{Record}
use Rattle.blob_store.specs.declared.record.Reply.{Reply}
use Rattle.blob_store.specs.declared.record.Stop.{Stop}
use Rattle.blob_store.specs.declared.record.Stop.TheVariants.{Full, Clash, KeeperFault, NoMemory}
use Rattle.blob_store.specs.declared.view.View.{View}
use Rattle.blob_store.specs.declared.note.Note.{Note}
use Rattle.blob_store.specs.Journals.{StartsWith, IsReplied, calls_by}
use Rattle.blob_store.specs.States.{StoreState, Asked, HasRisen, AsksKeeper, IsSound, IsClash, NamesBlob, entry_of}
use Rattle.blob_store.specs.StoreRule.{asked_by}

-- the store as a caller knows it
abbrev pub store_seen : View → StoreState
store_seen view = record {
  journal = view.seen;
  blobs = view.blobs;
  faults = view.faults;
  limit = view.limit;
}

-- a caller knows no less than before; the store as it knows it is sound, and the entries in it with the caller's number
-- are the caller's own
pub record KnowsMore (suits : List ℕ → List ℕ → Type 0) (number : ℕ) (old new : View) : Type 0 where
  pub seen : StartsWith new.seen old.seen
  pub blobs : StartsWith new.blobs old.blobs
  pub faults : old.faults ≤ new.faults
  pub limit : new.limit ≡ old.limit
  pub sound : IsSound suits (store_seen new)
  pub mine : calls_by number new.seen ≡ new.mine

-- a call got its reply: the journal begins with what the caller had seen, and its last entry is the call, which is one
-- more of the caller's own; the reply is that of the store of one thread after the entries before it
pub record MadeEntry (number : ℕ) (old new : View) (asked : Asked) (reply : Reply) : Type 0 where
  pub between : List Record
  pub ends : new.seen ≡ (old.seen ++ between) ++ entry_of number asked reply ∷ []
  pub mine : new.mine ≡ old.mine ++ entry_of number asked reply ∷ []
  pub replied : IsReplied (old.seen ++ between) (entry_of number asked reply)
  pub names : NamesBlob new.blobs asked reply

-- the cause of a stop, as the caller knows it
abbrev pub CauseSeen : View → View → Asked → Stop → Type 0
CauseSeen old new asked Full = length new.seen ≡ new.limit
CauseSeen old new asked Clash = (length new.seen < new.limit) × IsClash (store_seen new) asked
CauseSeen old new asked KeeperFault =
    (length new.seen < new.limit) × HasRisen old.faults new.faults × AsksKeeper new.seen asked
CauseSeen old new asked (NoMemory short) =
    (length new.seen < new.limit) × AsksKeeper new.seen asked

-- a call got no reply, and made no entry
pub record MadeNone (old new : View) (asked : Asked) (stop : Stop) : Type 0 where
  pub mine : new.mine ≡ old.mine
  pub cause : CauseSeen old new asked stop

-- a call that the keeper fails says so in its note: the keeper's count of faults rose while the call had the store, or
-- can't rise any more
abbrev pub FaultTold : Note → Result Reply Stop → Type 0
FaultTold note (Err KeeperFault) = HasRisen note.found.faults note.left.faults
FaultTold note other = Unit {0}

-- what a call answered, by the views before and after it
abbrev pub Answered : ℕ → View → View → Asked → Result Reply Stop → Type 0
Answered number old new asked (Ok reply) = MadeEntry number old new asked reply
Answered number old new asked (Err stop) = MadeNone old new asked stop

-- a caller: the store that it is for, its number, what it knows, how often it held the store's lock, what it recorded
-- last (kind, amount and note), and how many callers were split off from it
pub record CallerValue : Type 0 where
  pub table : TableId
  pub number : ℕ
  pub view : View
  pub holds : ℕ
  pub last : Option (ℕ × ℕ × Note)
  pub splits : ℕ

-- one call of a caller: one hold of the lock, which recorded the call and its answer
pub record HasCalled (suits : List ℕ → List ℕ → Type 0) (old new : CallerValue) (asked : Asked)
    (answer : Result Reply Stop) : Type 0 where
  pub table : new.table ≡ old.table
  pub number : new.number ≡ old.number
  pub holds : new.holds ≡ old.holds + 1
  pub splits : new.splits ≡ old.splits
  pub note : Note
  pub last : new.last ≡ Some (0, 0, note)
  pub told : (asked_by note.ask ≡ asked) × (note.answer ≡ answer)
      × (note.left.entries ≡ length new.view.seen) × (note.left.faults ≡ new.view.faults)
  pub fault : FaultTold note answer
  pub knows : KnowsMore suits old.number old.view new.view
  pub answered : Answered old.number old.view new.view asked answer

-- what one call of a caller gives: its answer, and the journal's length after it
abbrev pub CallGives : (List ℕ → List ℕ → Type 0) → CallerValue → CallerValue → Asked
    → Result Reply Stop → ℕ → Type 0
CallGives suits old new asked answer front =
    HasCalled suits old new asked answer × (front ≡ length new.view.seen)

-- the blob that a find gives is the one with the number that it gives, and suits the key
abbrev pub FoundBlob : (List ℕ → List ℕ → Type 0) → List (List ℕ) → List ℕ
    → Result (Option (ℕ × Vec ℕ)) Stop → Type 0
FoundBlob suits blobs key (Ok None) = Unit {0}
FoundBlob suits blobs key (Ok (Some found)) =
    (slice_get blobs found.0 ≡ Some found.1.items) × suits key found.1.items
FoundBlob suits blobs key (Err stop) = Unit {0}

-- a caller that made no call
abbrev pub new_caller : TableId → ℕ → ℕ → ℕ → ℕ → CallerValue
new_caller table faults limit number splits = record {
  table = table;
  number = number;
  view = record { seen = []; mine = []; blobs = []; faults = faults; limit = limit };
  holds = 0;
  last = None;
  splits = splits;
}

-- the given number of callers after the first one
abbrev pub later_callers : TableId → ℕ → ℕ → ℕ → List CallerValue
later_callers table faults limit zero = []
later_callers table faults limit (suc n) =
    later_callers table faults limit n ++ new_caller table faults limit (n + 1) 0 ∷ []

-- the given number of callers, in the order of their numbers
abbrev pub new_callers : TableId → ℕ → ℕ → ℕ → List CallerValue
new_callers table faults limit zero = []
new_callers table faults limit (suc n) =
    new_caller table faults limit 0 n ∷ later_callers table faults limit n
