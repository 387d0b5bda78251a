-- Statement: journals of calls, and what the store of one thread replies to each call (own). The store of one thread is
-- a map from keys to blobs, each of which has its number among the blobs.
use Rattle.std.specs.Prelude.{◌≡◌, ℕ, ◌+◌, ◌==◌, if◌then◌else◌, bytes_eq, List, [], ◌∷◌, ◌++◌, Option, Some, None}
use Rattle.std.specs.List.{AllByRecursion}
use Rattle.blob_store.specs.declared.record.Call.{Call}
use Rattle.blob_store.specs.declared.record.Call.TheVariants.{Put, Find, Remove}
use Rattle.blob_store.specs.declared.record.Reply.{Reply}
use Rattle.blob_store.specs.declared.record.Reply.TheVariants.{Stored, Held, Found, Missing, Removed}
use Rattle.blob_store.specs.declared.record.Record.{Record}

-- what the store of one thread replies to a call, by the number of the key's blob, if it has one; a blob that is stored
-- gets the number that is given
abbrev pub reply_to : Option ℕ → Call → ℕ → Reply
reply_to None Put number = Stored number
reply_to None Find number = Missing
reply_to None Remove number = Missing
reply_to (Some held) Put number = Held held
reply_to (Some held) Find number = Found held
reply_to (Some held) Remove number = Removed

-- what a key has after a reply to a call with it
abbrev pub left_by : Option ℕ → Reply → Option ℕ
left_by now (Stored number) = Some number
left_by now (Held number) = now
left_by now (Found number) = now
left_by now Missing = now
left_by now Removed = None

-- what a key has after an entry
abbrev pub kept_by : List ℕ → Option ℕ → Record → Option ℕ
kept_by key now r = if bytes_eq r.key key then left_by now r.reply else now

-- what a key has after entries
abbrev pub kept_from : List ℕ → Option ℕ → List Record → Option ℕ
kept_from key now [] = now
kept_from key now (r ∷ rs) = kept_from key (kept_by key now r) rs

-- what a key has after a journal: the number of its blob, if it has one
abbrev pub kept : List Record → List ℕ → Option ℕ
kept journal key = kept_from key None journal

-- how many blobs a reply stores
abbrev pub stores : Reply → ℕ
stores (Stored number) = 1
stores (Held number) = 0
stores (Found number) = 0
stores Missing = 0
stores Removed = 0

-- how many blobs entries store
abbrev pub stored_in : List Record → ℕ
stored_in [] = 0
stored_in (r ∷ rs) = stores r.reply + stored_in rs

-- an entry's reply is that of the store of one thread after these entries
abbrev pub IsReplied : List Record → Record → Type 0
IsReplied before r = r.reply ≡ reply_to (kept before r.key) r.call (stored_in before)

-- the reply of each of these entries is that of the store of one thread, after some first entries and those before it
abbrev pub LegalAfter : List Record → List Record → Type 0
LegalAfter before [] = Unit {0}
LegalAfter before (r ∷ rs) = IsReplied before r × LegalAfter (before ++ r ∷ []) rs

-- each reply in a journal is that of the store of one thread, which begins empty
abbrev pub IsLegal : List Record → Type 0
IsLegal journal = LegalAfter [] journal

-- the entries of one caller, in their order
abbrev pub calls_by : ℕ → List Record → List Record
calls_by caller [] = []
calls_by caller (r ∷ rs) =
    if r.caller == caller then r ∷ calls_by caller rs else calls_by caller rs

-- each of these entries is a call of this caller
abbrev pub AreBy : ℕ → List Record → Type 0
AreBy caller rs = AllByRecursion (λ (r : Record). r.caller ≡ caller) rs

-- a list begins with another
abbrev pub StartsWith : {A : Type 0} → List A → List A → Type 0
StartsWith {A} whole begin = (rest : List A) × (whole ≡ begin ++ rest)
