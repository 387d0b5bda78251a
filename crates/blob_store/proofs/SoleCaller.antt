-- A journal without entries of other callers.
use Rattle.std.proofs.Common.{◌≡◌, ℕ, zero, suc, ◌≤◌, Bool, true, false, List, [], ◌∷◌, ◌++◌, refl, ap, sym, ◌∙◌, subst, arith, length, length-append, append-nil}
use Rattle.std.specs.Prelude.{if◌then◌else◌, ◌==◌}
use Rattle.blob_store.specs.declared.record.Record.{Record}
use Rattle.blob_store.specs.Journals.{AreBy, StartsWith, calls_by, stored_in}
use Rattle.blob_store.specs.declared.view.View.{View}
use Rattle.blob_store.specs.States.{StoreState}
use Rattle.blob_store.specs.StoreRule.{Fits, FitsCaller}
use Rattle.blob_store.proofs.StoreKept.{eqb_refl}

-- no caller but the first has an entry
abbrev HasNoOthers : List Record → Type 0
HasNoOthers journal = (caller : ℕ) → 1 ≤ caller → calls_by caller journal ≡ []

none_after : (b : Bool) (r : Record) (xs : List Record) → (if b then r ∷ xs else xs) ≡ [] → xs ≡ []
none_after true r xs e = absurd (cc)
none_after false r xs e = e

first_is : (n : ℕ) (r : Record) (rs : List Record) → r.caller ≡ n → HasNoOthers (r ∷ rs)
    → r.caller ≡ 0
first_is zero r rs e none = e
first_is (suc k) r rs e none =
    let same : (r.caller == suc k) ≡ true = ap (λ (n : ℕ). n == suc k) e ∙ eqb_refl (suc k) in
    let made : r ∷ calls_by (suc k) rs ≡ [] =
    subst (λ (b : Bool). (if b then r ∷ calls_by (suc k) rs else calls_by (suc k) rs) ≡ []) same
    (none (suc k) (omega arith)) in absurd (cc)

-- so each is the first caller's
pub all_are_by : (journal : List Record) → HasNoOthers journal → AreBy 0 journal
all_are_by [] none = tt
all_are_by (r ∷ rs) none = (
  first_is r.caller r rs refl none,
  all_are_by rs
      (λ caller some. none_after (r.caller == caller) r (calls_by caller rs) (none caller some)),
)

-- and each of the first ones
pub first_are_by : (xs ys : List Record) → AreBy 0 (xs ++ ys) → AreBy 0 xs
first_are_by [] ys are = tt
first_are_by (x ∷ xs) ys are = (are.0, first_are_by xs ys are.1)

-- entries that are all the first caller's are its own
all_own : (xs : List Record) → AreBy 0 xs → calls_by 0 xs ≡ xs
all_own [] are = refl
all_own (x ∷ xs) are =
    ap (λ (b : Bool). if b then x ∷ calls_by 0 xs else calls_by 0 xs) (ap (λ (n : ℕ). n == 0) are.0)
    ∙ ap (λ (l : List Record). x ∷ l) (all_own xs are.1)

empty : {A : Type 0} (xs : List A) → length xs ≡ 0 → xs ≡ []
empty [] e = refl
empty (x ∷ xs) e = absurd (omega (arith, e))

nothing_more : {A : Type 0} (xs begin : List A) → (s : StartsWith xs begin) → length xs ≡ length begin
    → xs ≡ begin
nothing_more xs begin s e =
    let long = ap (λ l. length l) s.1 ∙ length-append begin s.0 in
    s.1 ∙ (ap (λ l. begin ++ l) (empty s.0 (omega (arith, e, long))) ∙ append-nil begin)

-- what the keeper has, the sole caller knows
pub sole_blobs : (suits : List ℕ → List ℕ → Type 0) (s : StoreState) (v : View)
    → Fits suits s (v ∷ []) → s.blobs ≡ v.blobs
sole_blobs suits s v h =
    let f : FitsCaller s 0 v = h.each 0 v refl in
    let all = all_are_by s.journal h.others in
    let seen = first_are_by v.seen f.seen.0 (subst (AreBy 0) f.seen.1 all) in
    let same : s.journal ≡ v.seen = sym (all_own s.journal all) ∙ (f.mine ∙ (sym f.own ∙ all_own v.seen seen)) in
    nothing_more s.blobs v.blobs f.blobs (h.sound.named ∙ (ap stored_in same ∙ sym f.counted))
