-- The calls of a store's sole caller are those of the store of one thread on files.
use Rattle.std.proofs.Common.{◌≡◌, ℕ, zero, suc, ◌+◌, Bool, true, List, [], ◌∷◌, ◌++◌, length, Option, Some, None, sym, ap, ◌∙◌, subst, refl, length-append, append-nil, arith}
use Rattle.std.specs.Prelude.{slice_get, if◌then◌else◌, ◌==◌}
use Rattle.std.specs.declared.result.Result.{Result}
use Rattle.std.specs.declared.result.Result.TheVariants.{Ok, Err}
use Rattle.blob_store.specs.declared.record.Record.{Record}
use Rattle.blob_store.specs.declared.record.Reply.{Reply}
use Rattle.blob_store.specs.declared.record.Stop.{Stop}
use Rattle.blob_store.specs.Journals.{AreBy, IsReplied, calls_by, kept, left_by}
use Rattle.blob_store.specs.States.{Asked, entry_of}
use Rattle.blob_store.specs.Callers.{CallerValue, HasCalled}
use Rattle.photo_store.specs.FileEntries.{AreSame, HasSame}
use Rattle.photo_store.specs.FileStores.{Files, FileCall, key_asked, file_left, files_after}
use Rattle.photo_store.specs.Photos.{SuitsKey}
use Rattle.photo_store.proofs.FileRuns.{same_after}
use Rattle.store_run.specs.Answering.{IsLater, IsTied}

-- entries of one caller alone are that caller's
eqb_refl : (n : ℕ) → (n == n) ≡ true
eqb_refl n = grind arith

by_itself : (r : Record) (rs : List Record) (n : ℕ) → r.caller ≡ n
    → (if r.caller == n then r ∷ rs else rs) ≡ r ∷ rs
by_itself r rs n e =
    ap (λ (b : Bool). if b then r ∷ rs else rs) (ap (λ (c : ℕ). c == n) e ∙ eqb_refl n)

pub all_by : (n : ℕ) (rs : List Record) → AreBy n rs → calls_by n rs ≡ rs
all_by n [] are = refl
all_by n (r ∷ rs) are =
    by_itself r (calls_by n rs) n are.0 ∙ ap (λ (l : List Record). r ∷ l) (all_by n rs are.1)

-- lists with the same last element
cons_same : {A : Type 0} (x y : A) (xs ys : List A) → x ∷ xs ≡ y ∷ ys → (x ≡ y) × (xs ≡ ys)
cons_same x y xs ys e = (cc, cc)

before_same : (xs ys : List Record) (r : Record) → xs ++ r ∷ [] ≡ ys ++ r ∷ [] → xs ≡ ys
before_same [] [] r e = refl
before_same [] (y ∷ ys) r e =
    let long = length-append ys (r ∷ []) in
    let h : length (r ∷ []) ≡ length ((y ∷ ys) ++ r ∷ []) = ap length e in
    absurd (omega (arith, long, h))
before_same (x ∷ xs) [] r e =
    let long = length-append xs (r ∷ []) in
    let h : length ((x ∷ xs) ++ r ∷ []) ≡ length (r ∷ []) = ap length e in
    absurd (omega (arith, long, h))
before_same (x ∷ xs) (y ∷ ys) r e =
    let h = cons_same x y (xs ++ r ∷ []) (ys ++ r ∷ []) e in
    ap (λ (l : List Record). x ∷ l) (before_same xs ys r h.1)
    ∙ ap (λ (z : Record). z ∷ ys) h.0

-- a blob keeps its number
get_more : (xs ys : List (List ℕ)) (n : ℕ) (x : List ℕ) → slice_get xs n ≡ Some x
    → slice_get (xs ++ ys) n ≡ Some x
get_more [] ys n x e = absurd (cc)
get_more (y ∷ xs) ys zero x e = e
get_more (y ∷ xs) ys (suc n) x e = get_more xs ys n x e

-- what a key has stays the same if blobs are added
same_more : (blobs more : List (List ℕ)) (key : List ℕ) (now : Option ℕ) (held : Option (List ℕ))
    → HasSame blobs key now held → HasSame (blobs ++ more) key now held
same_more blobs more key None None h = h
same_more blobs more key None (Some file) h = absurd h
same_more blobs more key (Some n) None h = absurd h
same_more blobs more key (Some n) (Some file) h =
    (h.0, (h.1.0, get_more blobs more n h.1.0 h.1.1, h.1.2))

module _ (old new : CallerValue) (asked : Asked) (answer : Result Reply Stop)
    (h : HasCalled SuitsKey old new asked answer) where
  -- the blobs that it knew keep their numbers
  pub still_same : (files : Files) → AreSame old.view.blobs old.view.mine files
      → AreSame new.view.blobs old.view.mine files
  still_same files same key =
      subst (λ (bs : List (List ℕ)). HasSame bs key (kept old.view.mine key) (files key))
      (sym h.knows.blobs.1)
      (same_more old.view.blobs h.knows.blobs.0 key (kept old.view.mine key) (files key) (same key))

  -- it knows no other entries than its own
  pub all_own : old.number ≡ 0 → AreBy 0 new.view.seen → new.view.seen ≡ new.view.mine
  all_own first sole =
      sym (all_by 0 new.view.seen sole)
      ∙ (ap (λ (n : ℕ). calls_by n new.view.seen) (sym first) ∙ h.knows.mine)

-- it is a later caller
pub is_later : (old new : CallerValue) (asked : Asked) (answer : Result Reply Stop)
    → HasCalled SuitsKey old new asked answer → IsLater old new
is_later old new asked (Ok reply) h =
    let long : length new.view.mine ≡ length old.view.mine + 1 =
    ap length h.answered.mine ∙ length-append old.view.mine (entry_of old.number asked reply ∷ []) in
    record {
      table = h.table;
      number = h.number;
      splits = h.splits;
      limit = h.knows.limit;
      seen = h.knows.seen;
      faults = h.knows.faults;
      entries = omega (arith, long);
    }
is_later old new asked (Err stop) h =
    let long : length new.view.mine ≡ length old.view.mine = ap length h.answered.mine in
    record {
      table = h.table;
      number = h.number;
      splits = h.splits;
      limit = h.knows.limit;
      seen = h.knows.seen;
      faults = h.knows.faults;
      entries = omega (arith, long);
    }

pub stays_later : (old new : CallerValue) → new ≡ old → IsLater old new
stays_later old new e = subst (λ (v : CallerValue). IsLater old v) (sym e) (record {
  table = refl;
  number = refl;
  splits = refl;
  limit = refl;
  seen = ([], sym (append-nil old.view.seen));
  faults = omega arith;
  entries = omega arith;
})

-- a call that got its reply
module _ (old new : CallerValue) (asked : Asked) (reply : Reply)
    (h : HasCalled SuitsKey old new asked (Ok reply)) (first : old.number ≡ 0)
    (sole : AreBy 0 new.view.seen) where
  abbrev entry : Record
  entry = entry_of old.number asked reply

  before_is : old.view.seen ++ h.answered.between ≡ old.view.mine
  before_is =
      before_same (old.view.seen ++ h.answered.between) old.view.mine entry
      (sym h.answered.ends ∙ (all_own old new asked (Ok reply) h first sole ∙ h.answered.mine))

  -- its reply is that of the store of one thread after the caller's own entries
  pub replied_own : IsReplied old.view.mine entry
  replied_own = subst (λ (l : List Record). IsReplied l entry) before_is h.answered.replied

  -- and so its own entries keep the files of the store of one thread
  pub tied_after : (files : Files) (call : FileCall) → AreSame old.view.blobs old.view.mine files
      → entry.key ≡ key_asked call
      → HasSame new.view.blobs entry.key (left_by (kept old.view.mine entry.key) reply)
      (file_left (files entry.key) call)
      → IsTied new (files_after files call)
  tied_after files call same key own = record {
    first = h.number ∙ first;
    same = subst (λ (l : List Record). AreSame new.view.blobs l (files_after files call))
        (sym h.answered.mine)
        (same_after new.view.blobs old.view.mine entry files
        (still_same old new asked (Ok reply) h files same) call key own);
  }
