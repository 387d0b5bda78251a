-- View: what ties a store to what its callers know, and what a release makes of that (own).
use Rattle.std.specs.Prelude.{◌≡◌, ℕ, ◌≤◌, List, [], ◌∷◌, ◌++◌, length}
use Rattle.std.specs.declared.result.Result.{Result}
use Rattle.std.specs.declared.result.Result.TheVariants.{Ok, Err}
use mathlib.Core.Option.{some}
use lib.ListN.{get_elem?}
use Rattle.blob_store.specs.declared.record.Record.{Record}
use Rattle.blob_store.specs.declared.record.Reply.{Reply}
use Rattle.blob_store.specs.declared.record.Stop.{Stop}
use Rattle.blob_store.specs.declared.view.View.{View}
use Rattle.blob_store.specs.declared.note.Ask.{Ask}
use Rattle.blob_store.specs.declared.note.Ask.TheVariants.{Put, Find, Remove}
use Rattle.blob_store.specs.declared.note.Note.{Note}
use Rattle.blob_store.specs.Journals.{StartsWith, calls_by, stored_in}
use Rattle.blob_store.specs.States.{StoreState, Asked, Puts, Finds, Removes, IsSound, entry_of}
use Rattle.blob_store.specs.CallSteps.{Calls, added_by}

-- what the caller with this number knows: a prefix of the journal, with all its own entries; as many of the blobs, from
-- the first on, as that prefix stored; a count of faults that the keeper's isn't below; and the journal's limit
pub record FitsCaller (store : StoreState) (caller : ℕ) (view : View) : Type 0 where
  pub seen : StartsWith store.journal view.seen
  pub mine : calls_by caller store.journal ≡ view.mine
  pub own : calls_by caller view.seen ≡ view.mine
  pub blobs : StartsWith store.blobs view.blobs
  pub counted : length view.blobs ≡ stored_in view.seen
  pub faults : view.faults ≤ store.faults
  pub limit : store.limit ≡ view.limit

-- a store is sound, fits the views of all callers, which are in the order of their numbers, and has no entry of another
-- caller
pub record Fits (suits : List ℕ → List ℕ → Type 0) (store : StoreState) (views : List View)
    : Type 0 where
  pub sound : IsSound suits store
  pub each : (caller : ℕ) (view : View) → get_elem? views caller ≡ some view
      → FitsCaller store caller view
  pub others : (caller : ℕ) → length views ≤ caller → calls_by caller store.journal ≡ []

-- what a call asks
abbrev pub asked_by : Ask → Asked
asked_by (Put key blob) = Puts key blob.items
asked_by (Find key) = Finds key
asked_by (Remove key) = Removes key

-- the entries that a call made
abbrev pub entries_by : ℕ → Asked → Result Reply Stop → List Record
entries_by caller asked (Ok reply) = entry_of caller asked reply ∷ []
entries_by caller asked (Err stop) = []

-- the blobs that a call added
abbrev pub blobs_by : Asked → Result Reply Stop → List (List ℕ)
blobs_by asked (Ok reply) = added_by asked reply
blobs_by asked (Err stop) = []

-- the caller's view after a release
abbrev pub after : View → ℕ → ℕ → Note → StoreState → View
after view kind amount note found =
    let made = entries_by note.caller (asked_by note.ask) note.answer in record view {
      seen = found.journal ++ made;
      mine = view.mine ++ made;
      blobs = found.blobs ++ blobs_by (asked_by note.ask) note.answer;
      faults = note.left.faults;
    }

-- what a release records: the call with its answer, and the journal's length and the keeper's count of faults, as found
-- and as left
pub record Tells (view : View) (kind amount : ℕ) (note : Note) (found left : StoreState)
    : Type 0 where
  pub length_found : note.found.entries ≡ length found.journal
  pub faults_found : note.found.faults ≡ found.faults
  pub length_left : note.left.entries ≡ length left.journal
  pub faults_left : note.left.faults ≡ left.faults
  pub calls : Calls found left note.caller (asked_by note.ask) note.answer

-- each view may be split
abbrev pub MaySplit : View → Type 0
MaySplit view = Unit {0}

-- the view of the pass from which another was split
abbrev pub same_view : View → View
same_view view = view

-- the view of the pass that was split off: it has seen as much, and made no call
abbrev pub new_view : View → View
new_view view = record view { mine = [] }
