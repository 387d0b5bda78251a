-- A journal with one entry more.
use Rattle.std.proofs.Common.{◌≡◌, ℕ, ◌+◌, Bool, true, false, List, [], ◌∷◌, ◌++◌, Option, None, sym, ap, ◌∙◌, subst, refl, append_assoc, append-nil, arith}
use Rattle.std.specs.Prelude.{if◌then◌else◌, bytes_eq, ◌==◌}
use Rattle.blob_store.specs.declared.record.Record.{Record}
use Rattle.blob_store.specs.Journals.{left_by, kept_by, kept_from, kept, stores, stored_in, IsReplied, LegalAfter, IsLegal, calls_by}

-- both ways give one value
if_same : {A : Type 0} (b : Bool) (x y : A) → x ≡ y → (if b then x else y) ≡ y
if_same true x y e = e
if_same false x y e = refl

kept_from_more : (key : List ℕ) (now : Option ℕ) (journal : List Record) (r : Record)
    → kept_from key now (journal ++ r ∷ []) ≡ kept_by key (kept_from key now journal) r
kept_from_more key now [] r = refl
kept_from_more key now (x ∷ xs) r = kept_from_more key (kept_by key now x) xs r

-- what a key has after one entry more
pub kept_more : (journal : List Record) (r : Record) (key : List ℕ)
    → kept (journal ++ r ∷ []) key ≡ kept_by key (kept journal key) r
kept_more journal r key = kept_from_more key None journal r

-- an entry whose reply leaves each key what it has
pub kept_same : (journal : List Record) (r : Record) → ((now : Option ℕ) → left_by now r.reply ≡ now)
    → (key : List ℕ) → kept (journal ++ r ∷ []) key ≡ kept journal key
kept_same journal r same key =
    kept_more journal r key
    ∙ if_same (bytes_eq r.key key) (left_by (kept journal key) r.reply) (kept journal key) (same (kept journal key))

-- entries store as many blobs as they store one after another
pub stored_more : (journal : List Record) (r : Record)
    → stored_in (journal ++ r ∷ []) ≡ stored_in journal + stores r.reply
stored_more [] r = omega arith
stored_more (x ∷ xs) r = let h = stored_more xs r in omega arith

legal_more : (before journal : List Record) (r : Record) → LegalAfter before journal
    → IsReplied (before ++ journal) r → LegalAfter before (journal ++ r ∷ [])
legal_more before [] r legal is =
    (subst (λ (l : List Record). IsReplied l r) (append-nil before) is, tt)
legal_more before (x ∷ xs) r legal is = (
  legal.0,
  legal_more (before ++ x ∷ []) xs r legal.1
      (subst (λ (l : List Record). IsReplied l r) (sym (append_assoc before (x ∷ []) xs)) is),
)

-- a legal journal stays legal by an entry with the reply of the store of one thread
pub legal_adds : (journal : List Record) (r : Record) → IsLegal journal → IsReplied journal r
    → IsLegal (journal ++ r ∷ [])
legal_adds journal r legal is = legal_more [] journal r legal is

if_more : (b : Bool) (r : Record) (xs ys : List Record)
    → (if b then r ∷ (xs ++ ys) else xs ++ ys) ≡ (if b then r ∷ xs else xs) ++ ys
if_more true r xs ys = refl
if_more false r xs ys = refl

-- the entries of a caller, with one entry more
pub calls_more : (caller : ℕ) (journal : List Record) (r : Record)
    → calls_by caller (journal ++ r ∷ [])
    ≡ calls_by caller journal ++ (if r.caller == caller then r ∷ [] else [])
calls_more caller [] r = refl
calls_more caller (x ∷ xs) r =
    let more = if r.caller == caller then r ∷ [] else [] in
    ap (λ (l : List Record). if x.caller == caller then x ∷ l else l) (calls_more caller xs r)
    ∙ if_more (x.caller == caller) x (calls_by caller xs) more
