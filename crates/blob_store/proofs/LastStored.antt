-- What a key has was stored last.
use Rattle.std.proofs.Common.{◌≡◌, ℕ, Bool, true, false, true≢false, List, [], ◌∷◌, Option, Some, None, sym, ap, ◌∙◌, subst, refl, ⊎_elim, ◌⊎◌, inl, inr}
use Rattle.std.specs.Prelude.{if◌then◌else◌, bytes_eq}
use Rattle.std.proofs.lemmas.Slice.Eq.{bytes_eq-Decides}
use Rattle.blob_store.specs.declared.record.Reply.{Reply}
use Rattle.blob_store.specs.declared.record.Reply.TheVariants.{Stored, Held, Found, Missing, Removed}
use Rattle.blob_store.specs.declared.record.Record.{Record}
use Rattle.blob_store.specs.Journals.{kept, kept_from, kept_by, left_by}
use Rattle.blob_store.specs.StoreLaws.{IsQuiet, AreQuiet, IsStoredLast, KeptIsStoredLast}

module _ (key : List ℕ) (n : ℕ) where
  abbrev Through : Option ℕ → List Record → Type 0
  Through now rs = (now ≡ Some n) × AreQuiet key rs

  here : (r : Record) (rs : List Record) → r.key ≡ key → r.reply ≡ Stored n → AreQuiet key rs
      → IsStoredLast (r ∷ rs) key n
  here r rs same is quiet = record {
    before = [];
    stored = r;
    after = rs;
    split = refl;
    key_is = same;
    reply_is = is;
    quiet = quiet;
  }

  later : (r : Record) (rs : List Record) → IsStoredLast rs key n → IsStoredLast (r ∷ rs) key n
  later r rs l = record {
    before = r ∷ l.before;
    stored = l.stored;
    after = l.after;
    split = ap (λ (xs : List Record). r ∷ xs) l.split;
    key_is = l.key_is;
    reply_is = l.reply_is;
    quiet = l.quiet;
  }

  still : (now : Option ℕ) (r : Record) (rs : List Record) (p : Reply) → r.reply ≡ p → IsQuiet p
      → AreQuiet key rs → now ≡ Some n → Through now (r ∷ rs) ⊎ IsStoredLast (r ∷ rs) key n
  still now r rs p is q quiet e =
      inl (e, ((λ (same : r.key ≡ key). subst (λ (x : Reply). IsQuiet x) (sym is) q), quiet))

  by_reply : (now : Option ℕ) (r : Record) (rs : List Record) (p : Reply) → r.reply ≡ p → r.key ≡ key
      → AreQuiet key rs → left_by now p ≡ Some n → Through now (r ∷ rs) ⊎ IsStoredLast (r ∷ rs) key n
  by_reply now r rs (Stored m) is same quiet e =
      let number : m ≡ n = cc in inr (here r rs same (is ∙ ap Stored number) quiet)
  by_reply now r rs (Held m) is same quiet e = still now r rs (Held m) is tt quiet e
  by_reply now r rs (Found m) is same quiet e = still now r rs (Found m) is tt quiet e
  by_reply now r rs Missing is same quiet e = still now r rs Missing is tt quiet e
  by_reply now r rs Removed is same quiet e = absurd (cc)

  by_key : (b : Bool) (now : Option ℕ) (r : Record) (rs : List Record) → (b ≡ true → r.key ≡ key)
      → (r.key ≡ key → b ≡ true) → AreQuiet key rs → (if b then left_by now r.reply else now) ≡ Some n
      → Through now (r ∷ rs) ⊎ IsStoredLast (r ∷ rs) key n
  by_key true now r rs same other quiet e = by_reply now r rs r.reply refl (same refl) quiet e
  by_key false now r rs same other quiet e =
      inl (e, ((λ (k : r.key ≡ key). absurd (true≢false (sym (other k)))), quiet))

  by_entries : (now : Option ℕ) (rs : List Record) → kept_from key now rs ≡ Some n
      → Through now rs ⊎ IsStoredLast rs key n
  by_entries now [] e = inl (e, tt)
  by_entries now (r ∷ rs) e =
      let test = bytes_eq-Decides r.key key in
      ⊎_elim
      (λ (t : Through (kept_by key now r) rs). by_key (bytes_eq r.key key) now r rs test.0 test.1 t.1 t.0)
      (λ (l : IsStoredLast rs key n). inr (later r rs l))
      (by_entries (kept_by key now r) rs e)

  stored_last : (rs : List Record) → kept rs key ≡ Some n → IsStoredLast rs key n
  stored_last rs e =
      ⊎_elim (λ (t : Through None rs). absurd (cc (t.0))) (λ (l : IsStoredLast rs key n). l) (by_entries None rs e)

pub kept_is_stored_last : KeptIsStoredLast
kept_is_stored_last journal key number e = stored_last key number journal e
