-- What a shelf's map says after a call.
use Rattle.std.proofs.Common.{◌≡◌, ℕ, zero, suc, ◌+◌, ◌<◌, Bool, true, false, List, [], ◌∷◌, ◌++◌, length, Option, Some, None, sym, ap, ◌∙◌, refl, arith}
use Rattle.std.specs.Prelude.{if◌then◌else◌, bytes_eq, slice_get}
use Rattle.blob_store.specs.declared.record.Call.TheVariants.{Put}
use Rattle.std.specs.Ordering.{nat_cmp}
use Rattle.std.specs.Cmp.Lexicographic.{slice_cmp}
use Rattle.std.specs.BTreeMap.{BTreeMap, get, Updates}
use Rattle.std.proofs.lemmas.Map.Text.{is_eq-slice_cmp}
use Rattle.std.proofs.lemmas.Slice.Eq.{bytes_eq-Decides}
use Rattle.blob_store.specs.declared.record.Reply.TheVariants.{Stored, Removed}
use Rattle.blob_store.specs.declared.record.Record.{Record}
use Rattle.blob_store.specs.Journals.{kept, left_by, reply_to}
use Rattle.blob_store.proofs.JournalLaws.{kept_more}

-- what the map has at each key
abbrev pub at_key : BTreeMap (List ℕ) ℕ → List ℕ → Option ℕ
at_key map key = get (slice_cmp nat_cmp) map key

-- the map after a change at a key
pub map_changed : (m n : BTreeMap (List ℕ) ℕ) (key : List ℕ) (now : Option ℕ)
    → Updates (slice_cmp nat_cmp) m n key now → (q : List ℕ)
    → at_key n q ≡ (if bytes_eq key q then now else at_key m q)
map_changed m n key now u q =
    u.0 q ∙ ap (λ (b : Bool). if b then now else at_key m q) (is_eq-slice_cmp key q)

-- it agrees with the journal of an entry that leaves the key so
pub agrees : (m n : BTreeMap (List ℕ) ℕ) (journal : List Record) (r : Record) (now : Option ℕ)
    → Updates (slice_cmp nat_cmp) m n r.key now → ((q : List ℕ) → at_key m q ≡ kept journal q)
    → ((was : Option ℕ) → left_by was r.reply ≡ now)
    → (q : List ℕ) → at_key n q ≡ kept (journal ++ r ∷ []) q
agrees m n journal r now u is leaves q =
    map_changed m n r.key now u q
    ∙ (ap (λ (o : Option ℕ). if bytes_eq r.key q then now else o) (is q)
    ∙ (ap (λ (o : Option ℕ). if bytes_eq r.key q then o else kept journal q) (sym (leaves (kept journal q)))
    ∙ sym (kept_more journal r q)))

back : (b : Bool) (now : Option ℕ) (number : ℕ) → (b ≡ true → now ≡ None)
    → (if b then None else (if b then Some number else now)) ≡ now
back true now number none = sym (none refl)
back false now number none = refl

-- a number that was put at a key which had nothing, and taken out again
pub taken_back : (m n l : BTreeMap (List ℕ) ℕ) (journal : List Record) (key : List ℕ) (number : ℕ)
    → Updates (slice_cmp nat_cmp) m n key (Some number) → Updates (slice_cmp nat_cmp) n l key None
    → ((q : List ℕ) → at_key m q ≡ kept journal q) → kept journal key ≡ None
    → (q : List ℕ) → at_key l q ≡ kept journal q
taken_back m n l journal key number u v is none q =
    map_changed n l key None v q
    ∙ (ap (λ (o : Option ℕ). if bytes_eq key q then None else o) (map_changed m n key (Some number) u q ∙ ap (λ (o : Option ℕ). if bytes_eq key q then Some number else o) (is q))
    ∙ back (bytes_eq key q) (kept journal q) number
    (λ e. ap (kept journal) (sym ((bytes_eq-Decides key q).0 e)) ∙ none))

below_or : (b : Bool) (count number : ℕ) (now : Option ℕ)
    → ((k : ℕ) → now ≡ Some k → k < count) → (if b then Some count else now) ≡ Some number
    → number < count + 1
below_or true count number now below e = let same : count ≡ number = cc in omega arith
below_or false count number now below e = let h = below number e in omega arith

-- each number is below the count of blobs, after one more was stored
pub below_stored : (journal : List Record) (r : Record) (count : ℕ) → r.reply ≡ Stored count
    → ((q : List ℕ) (k : ℕ) → kept journal q ≡ Some k → k < count)
    → (q : List ℕ) (number : ℕ) → kept (journal ++ r ∷ []) q ≡ Some number → number < count + 1
below_stored journal r count is below q number e =
    below_or (bytes_eq r.key q) count number (kept journal q) (below q)
    (ap (λ reply. if bytes_eq r.key q then left_by (kept journal q) reply else kept journal q) (sym is)
    ∙ (sym (kept_more journal r q) ∙ e))

none_or : (b : Bool) (count number : ℕ) (now : Option ℕ)
    → ((k : ℕ) → now ≡ Some k → k < count) → (if b then None else now) ≡ Some number → number < count
none_or true count number now below e = absurd (cc)
none_or false count number now below e = below number e

-- the same after a removal
pub below_removed : (journal : List Record) (r : Record) (count : ℕ) → r.reply ≡ Removed
    → ((q : List ℕ) (k : ℕ) → kept journal q ≡ Some k → k < count)
    → (q : List ℕ) (number : ℕ) → kept (journal ++ r ∷ []) q ≡ Some number → number < count
below_removed journal r count is below q number e =
    none_or (bytes_eq r.key q) count number (kept journal q) (below q)
    (ap (λ reply. if bytes_eq r.key q then left_by (kept journal q) reply else kept journal q) (sym is)
    ∙ (sym (kept_more journal r q) ∙ e))

-- the last of a list
pub get_last : {A : Type 0} (xs : List A) (x : A) (n : ℕ) → n ≡ length xs → slice_get (xs ++ x ∷ []) n ≡ Some x
get_last [] x zero e = refl
get_last [] x (suc n) e = absurd (omega arith)
get_last (y ∷ ys) x zero e = absurd (omega arith)
get_last (y ∷ ys) x (suc n) e = get_last ys x n (omega arith)

-- the reply to a put of a key that has nothing
pub replies_stored : (now : Option ℕ) (count number : ℕ) → now ≡ None → count ≡ number
    → Stored count ≡ reply_to now Put number
replies_stored now count number none same =
    ap Stored same ∙ sym (ap (λ (o : Option ℕ). reply_to o Put number) none)
