-- Law: a split of the first caller's pass keeps the rule, with its proof, which the rule of the lock cites (own).
use Rattle.std.specs.Prelude.{◌≡◌, ℕ, Bool, true, false, if◌then◌else◌, ◌==◌, List, [], ◌∷◌, ◌++◌, length, slice_set}
use Rattle.std.proofs.Common.{sym, ap, subst, refl, ⊎_elim, ◌⊎◌, arith, zero, suc, inl, inr, length-append, ◌∙◌}
use mathlib.Core.Option.{some, some-injective, some-ne-none}
use lib.ListN.{get_elem?}
use Rattle.atomic_table.proofs.Lists.{set_again}
use Rattle.blob_store.specs.declared.record.Record.{Record}
use Rattle.blob_store.specs.declared.view.View.{View}
use Rattle.blob_store.specs.Journals.{calls_by}
use Rattle.blob_store.specs.States.{StoreState}
use Rattle.blob_store.specs.StoreRule.{Fits, FitsCaller, MaySplit, same_view, new_view}

-- an element of a list with one more after it is an element of the list, or the one after it
at_end : {A : Type 0} (l : List A) (a b : A) (j : ℕ) → get_elem? (l ++ a ∷ []) j ≡ some b
    → (get_elem? l j ≡ some b) ⊎ ((j ≡ length l) × (a ≡ b))
at_end [] a b zero e = inr (refl, some-injective a b e)
at_end [] a b (suc j) e = absurd (some-ne-none b (sym e))
at_end (x ∷ xs) a b zero e = inl e
at_end (x ∷ xs) a b (suc j) e =
    ⊎_elim inl (λ (t : (j ≡ length xs) × (a ≡ b)). inr (ap suc t.0, t.1)) (at_end xs a b j e)

-- a caller that has no entry in a list has none in a prefix of it
none_of : (b : Bool) (r : Record) (xs ys : List Record) → (if b then r ∷ ys else ys) ≡ []
    → (ys ≡ [] → xs ≡ []) → (if b then r ∷ xs else xs) ≡ []
none_of true r xs ys e more = absurd (cc)
none_of false r xs ys e more = more e

none_before : (xs more : List Record) (j : ℕ) → calls_by j (xs ++ more) ≡ [] → calls_by j xs ≡ []
none_before [] more j e = refl
none_before (x ∷ xs) more j e =
    none_of (x.caller == j) x (calls_by j xs) (calls_by j (xs ++ more)) e (none_before xs more j)

-- a store that fits the views of all callers fits them together with that of a new caller
pub splits_fit : (suits : List ℕ → List ℕ → Type 0) (s : StoreState) (views : List View) (id : ℕ)
    (v : View) → Fits suits s views → get_elem? views id ≡ some v → MaySplit v
    → Fits suits s (slice_set views id (same_view v) ++ new_view v ∷ [])
splits_fit suits s views id v h at may =
    subst (λ (vs : List View). Fits suits s (vs ++ new_view v ∷ []))
    (sym (set_again views id v at)) (record {
      sound = h.sound;
      each = λ j u e.
          ⊎_elim (λ (o : get_elem? views j ≡ some u). h.each j u o)
          (λ (o : (j ≡ length views) × (new_view v ≡ u)).
          let f = h.each id v at in
          subst (λ (w : View). FitsCaller s j w) o.1 record {
            seen = f.seen;
            mine = h.others j (omega (arith, o.0));
            own = none_before v.seen f.seen.0 j
                (ap (calls_by j) (sym f.seen.1) ∙ h.others j (omega (arith, o.0)));
            blobs = f.blobs;
            counted = f.counted;
            faults = f.faults;
            limit = f.limit;
          })
          (at_end views (new_view v) u j e);
      others = λ j l. h.others j (omega (arith, l, length-append views (new_view v ∷ [])));
    })
