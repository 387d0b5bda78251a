-- Law: what holds of every journal (own).
use Rattle.std.specs.Prelude.{◌≡◌, ◌⊎◌, ℕ, List, ◌∷◌, ◌++◌, Some}
use mathlib.Core.Option.{some}
use lib.ListN.{get_elem?}
use Rattle.std.specs.List.{AllByRecursion}
use Rattle.blob_store.specs.declared.record.Reply.{Reply}
use Rattle.blob_store.specs.declared.record.Reply.TheVariants.{Stored, Held, Found, Missing, Removed}
use Rattle.blob_store.specs.declared.record.Record.{Record}
use Rattle.blob_store.specs.declared.view.View.{View}
use Rattle.blob_store.specs.Journals.{StartsWith, calls_by, kept}
use Rattle.blob_store.specs.States.{StoreState}
use Rattle.blob_store.specs.StoreRule.{Fits}

-- a reply after which the key has what it had, whatever that was
abbrev pub IsQuiet : Reply → Type 0
IsQuiet (Stored number) = ⊥
IsQuiet (Held number) = Unit {0}
IsQuiet (Found number) = Unit {0}
IsQuiet Missing = Unit {0}
IsQuiet Removed = ⊥

-- none of these entries stored a blob under the key or removed the key
abbrev pub AreQuiet : List ℕ → List Record → Type 0
AreQuiet key rs = AllByRecursion (λ (r : Record). r.key ≡ key → IsQuiet r.reply) rs

-- of the entries that stored a blob under the key or removed the key, the last one stored the blob with this number
pub record IsStoredLast (journal : List Record) (key : List ℕ) (number : ℕ) : Type 0 where
  pub before : List Record
  pub stored : Record
  pub after : List Record
  pub split : journal ≡ before ++ stored ∷ after
  pub key_is : stored.key ≡ key
  pub reply_is : stored.reply ≡ Stored number
  pub quiet : AreQuiet key after

-- the blob that a key has after a journal is the one that was stored last under it
abbrev pub KeptIsStoredLast : Type 0
KeptIsStoredLast =
    (journal : List Record) (key : List ℕ) (number : ℕ) → kept journal key ≡ Some number
    → IsStoredLast journal key number

-- two callers of a store know one journal and one list of blobs, each caller as far as its last call: what one knows is
-- a prefix of what the other knows, and each knows all entries of its own
abbrev pub OneJournal : (List ℕ → List ℕ → Type 0) → Type 0
OneJournal suits =
    (store : StoreState) (views : List View) (i j : ℕ) (v w : View) → Fits suits store views
    → get_elem? views i ≡ some v → get_elem? views j ≡ some w
    → (StartsWith w.seen v.seen ⊎ StartsWith v.seen w.seen)
    × (StartsWith w.blobs v.blobs ⊎ StartsWith v.blobs w.blobs) × (calls_by i v.seen ≡ v.mine)
