-- The blob that a key has suits it.
use Rattle.std.proofs.Common.{◌≡◌, ℕ, Bool, true, false, List, [], ◌∷◌, Option, Some, None, sym, ap, ◌∙◌, subst, refl, ⊎_elim, ◌⊎◌, inl, inr, append-nil}
use Rattle.std.specs.Prelude.{slice_get, if◌then◌else◌, bytes_eq}
use Rattle.std.specs.List.{AllByRecursion}
use Rattle.std.specs.Global.{Vec}
use Rattle.std.specs.declared.result.Result.{Result}
use Rattle.std.specs.declared.result.Result.TheVariants.{Ok, Err}
use Rattle.std.proofs.lemmas.Slice.Eq.{bytes_eq-Decides}
use Rattle.blob_store.specs.declared.record.Reply.{Reply}
use Rattle.blob_store.specs.declared.record.Reply.TheVariants.{Stored, Held, Found, Missing, Removed}
use Rattle.blob_store.specs.declared.record.Record.{Record}
use Rattle.blob_store.specs.declared.record.Stop.{Stop}
use Rattle.blob_store.specs.declared.record.Call.TheVariants.{Find}
use Rattle.blob_store.specs.declared.view.View.{View}
use Rattle.blob_store.specs.Journals.{kept, kept_from, kept_by, left_by, reply_to}
use Rattle.blob_store.specs.States.{StoreState, Finds, find_reply, StoredWell, IsSound}
use Rattle.blob_store.specs.CallSteps.{Calls, FindGives}
use Rattle.blob_store.specs.Callers.{FoundBlob}
use Rattle.blob_store.proofs.StoreKept.{after_call}

module _ (suits : List ℕ → List ℕ → Type 0) (blobs : List (List ℕ)) (key : List ℕ) (n : ℕ) where
  abbrev Suited : Type 0
  Suited = (blob : List ℕ) × (slice_get blobs n ≡ Some blob) × suits key blob

  by_reply : (now : Option ℕ) (reply : Reply) → StoredWell suits blobs key reply
      → left_by now reply ≡ Some n → (now ≡ Some n) ⊎ Suited
  by_reply now (Stored m) w e =
      let same : m ≡ n = cc in
      inr (w.0, ap (slice_get blobs) (sym same) ∙ w.1, w.2)
  by_reply now (Held m) w e = inl e
  by_reply now (Found m) w e = inl e
  by_reply now Missing w e = inl e
  by_reply now Removed w e = absurd (cc)

  by_key : (b : Bool) (now : Option ℕ) (r : Record) → (b ≡ true → r.key ≡ key)
      → StoredWell suits blobs r.key r.reply → (if b then left_by now r.reply else now) ≡ Some n
      → (now ≡ Some n) ⊎ Suited
  by_key true now r same w e =
      by_reply now r.reply (subst (λ (k : List ℕ). StoredWell suits blobs k r.reply) (same refl) w) e
  by_key false now r same w e = inl e

  by_entries : (now : Option ℕ) (rs : List Record)
      → AllByRecursion (λ (r : Record). StoredWell suits blobs r.key r.reply) rs
      → kept_from key now rs ≡ Some n → (now ≡ Some n) ⊎ Suited
  by_entries now [] w e = inl e
  by_entries now (r ∷ rs) w e =
      ⊎_elim
      (λ (o : kept_by key now r ≡ Some n).
      by_key (bytes_eq r.key key) now r (bytes_eq-Decides r.key key).0 w.0 o)
      (λ (o : Suited). inr o)
      (by_entries (kept_by key now r) rs w.1 e)

  -- a blob that a key has after entries suits it
  pub suited : (rs : List Record) → AllByRecursion (λ (r : Record). StoredWell suits blobs r.key r.reply) rs
      → kept rs key ≡ Some n → Suited
  suited rs w e =
      ⊎_elim (λ (o : None ≡ Some n). absurd (cc)) (λ (o : Suited). o) (by_entries None rs w e)

found_kept : (now : Option ℕ) (n number : ℕ) → Found n ≡ reply_to now Find number → now ≡ Some n
found_kept None n number e = absurd (cc)
found_kept (Some k) n number e = let same : n ≡ k = cc in ap Some (sym same)

one_blob : (o : Option (List ℕ)) (a b : List ℕ) → o ≡ Some a → o ≡ Some b → a ≡ b
one_blob o a b e f = cc

-- a find is a call with its reply
pub find_calls : (s t : StoreState) (id : ℕ) (key : List ℕ) (sought : Result (Option (ℕ × Vec ℕ)) Stop)
    → FindGives s t id key sought → Calls s t id (Finds key) (find_reply sought)
find_calls s t id key (Ok None) e = e
find_calls s t id key (Ok (Some found)) e = e.0
find_calls s t id key (Err stop) e = e

-- the blob that it gives is the one that the caller then knows by its number, and suits the key
pub find_gives : (suits : List ℕ → List ℕ → Type 0) (s t : StoreState) (id : ℕ) (key : List ℕ) (v : View)
    (sought : Result (Option (ℕ × Vec ℕ)) Stop) → IsSound suits s → FindGives s t id key sought
    → FoundBlob suits (after_call v s t id (Finds key) (find_reply sought)).blobs key sought
find_gives suits s t id key v (Ok None) h e = tt
find_gives suits s t id key v (Ok (Some found)) h e =
    let same : t.blobs ≡ s.blobs = e.0.blobs ∙ append-nil s.blobs in
    let at : slice_get s.blobs found.0 ≡ Some found.1.items = ap (λ (bs : List (List ℕ)). slice_get bs found.0) (sym same) ∙ e.1 in
    let is = suited suits s.blobs key found.0 s.journal h.well
    (found_kept (kept s.journal key) found.0 _ e.0.reply_is) in (
      ap (λ (bs : List (List ℕ)). slice_get bs found.0) (append-nil s.blobs) ∙ at,
      subst (λ (b : List ℕ). suits key b) (one_blob (slice_get s.blobs found.0) is.0 found.1.items is.1 at) is.2,
    )
find_gives suits s t id key v (Err stop) h e = tt
