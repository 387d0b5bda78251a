-- A call keeps what ties a store to what its callers know.
use Rattle.std.proofs.Common.{◌≡◌, ◌≢◌, ℕ, zero, suc, ◌+◌, ◌<◌, ◌≤◌, Bool, true, false, List, [], ◌∷◌, ◌++◌, length, set, Option, Some, None, sym, ap, ◌∙◌, subst, refl, ⊎_elim, append_assoc, append-nil, length-append, length-set, arith}
use Rattle.std.specs.Prelude.{slice_get, if◌then◌else◌, ◌==◌}
use Rattle.std.specs.List.{AllByRecursion}
use Rattle.std.specs.declared.result.Result.{Result}
use Rattle.std.specs.declared.result.Result.TheVariants.{Ok, Err}
use mathlib.Core.Option.{some}
use lib.ListN.{get_elem?}
use Rattle.atomic_table.proofs.Lists.{at_set}
use Rattle.blob_store.specs.declared.record.Reply.{Reply}
use Rattle.blob_store.specs.declared.record.Reply.TheVariants.{Stored, Held, Found, Missing, Removed}
use Rattle.blob_store.specs.declared.record.Record.{Record}
use Rattle.blob_store.specs.declared.record.Stop.{Stop}
use Rattle.blob_store.specs.declared.view.View.{View}
use Rattle.blob_store.specs.Journals.{StartsWith, IsReplied, IsLegal, calls_by, kept, stored_in, stores, reply_to}
use Rattle.blob_store.specs.States.{StoreState, Asked, Puts, Finds, Removes, IsSound, NamesBlob, StoredWell, call_of, key_of, entry_of}
use Rattle.blob_store.specs.CallSteps.{Calls, Enters, Stays, added_by}
use Rattle.blob_store.specs.StoreRule.{Fits, FitsCaller, entries_by, blobs_by}
use Rattle.blob_store.proofs.JournalLaws.{legal_adds, stored_more, calls_more}

-- a prefix of a list is a prefix of a longer one
pub longer : {A : Type 0} (xs begin more : List A) → StartsWith xs begin → StartsWith (xs ++ more) begin
longer xs begin more s =
    (s.0 ++ more, ap (λ l. l ++ more) s.1 ∙ append_assoc begin s.0 more)

itself : {A : Type 0} (xs ys : List A) → xs ≡ ys → StartsWith xs ys
itself xs ys e = ([], e ∙ sym (append-nil ys))

-- a blob keeps its number
get_more : {A : Type 0} (xs ys : List A) (n : ℕ) (x : A) → slice_get xs n ≡ Some x
    → slice_get (xs ++ ys) n ≡ Some x
get_more [] ys n x e = absurd (cc)
get_more (y ∷ xs) ys zero x e = e
get_more (y ∷ xs) ys (suc n) x e = get_more xs ys n x e

pub eqb_refl : (n : ℕ) → (n == n) ≡ true
eqb_refl n = grind arith

eqb_other : (n m : ℕ) → n ≢ m → (n == m) ≡ false
eqb_other n m d = grind (arith, d)

module _ (suits : List ℕ → List ℕ → Type 0) where
  -- a put's blob suits its key
  abbrev pub SuitsAsked : Asked → Type 0
  SuitsAsked (Puts key blob) = suits key blob
  SuitsAsked (Finds key) = Unit {0}
  SuitsAsked (Removes key) = Unit {0}

  well_more : (blobs more : List (List ℕ)) (key : List ℕ) (reply : Reply)
      → StoredWell suits blobs key reply → StoredWell suits (blobs ++ more) key reply
  well_more blobs more key (Stored n) w = (w.0, get_more blobs more n w.0 w.1, w.2)
  well_more blobs more key (Held n) w = w
  well_more blobs more key (Found n) w = w
  well_more blobs more key Missing w = w
  well_more blobs more key Removed w = w

  all_well_more : (blobs more : List (List ℕ)) (rs : List Record)
      → AllByRecursion (λ (r : Record). StoredWell suits blobs r.key r.reply) rs
      → AllByRecursion (λ (r : Record). StoredWell suits (blobs ++ more) r.key r.reply) rs
  all_well_more blobs more [] w = w
  all_well_more blobs more (r ∷ rs) w =
      (well_more blobs more r.key r.reply w.0, all_well_more blobs more rs w.1)

  all_and : (P : Record → Type 0) (rs : List Record) (r : Record) → AllByRecursion P rs → P r
      → AllByRecursion P (rs ++ r ∷ [])
  all_and P [] r a p = (p, tt)
  all_and P (x ∷ rs) r a p = (a.0, all_and P rs r a.1 p)

  well_replied : (blobs : List (List ℕ)) (now : Option ℕ) (asked : Asked) (number : ℕ)
      → SuitsAsked asked → NamesBlob blobs asked (reply_to now (call_of asked) number)
      → StoredWell suits blobs (key_of asked) (reply_to now (call_of asked) number)
  well_replied blobs None (Puts key blob) number fit names = (blob, names, fit)
  well_replied blobs None (Finds key) number fit names = tt
  well_replied blobs None (Removes key) number fit names = tt
  well_replied blobs (Some k) (Puts key blob) number fit names = tt
  well_replied blobs (Some k) (Finds key) number fit names = tt
  well_replied blobs (Some k) (Removes key) number fit names = tt

added_replied : (now : Option ℕ) (asked : Asked) (number : ℕ)
    → length (added_by asked (reply_to now (call_of asked) number)) ≡ stores (reply_to now (call_of asked) number)
added_replied None (Puts key blob) number = refl
added_replied None (Finds key) number = refl
added_replied None (Removes key) number = refl
added_replied (Some k) (Puts key blob) number = refl
added_replied (Some k) (Finds key) number = refl
added_replied (Some k) (Removes key) number = refl

module _ (suits : List ℕ → List ℕ → Type 0) (s t : StoreState) (h : IsSound suits s) where
  module _ (caller : ℕ) (asked : Asked) (reply : Reply) (e : Enters s t caller asked reply) where
    pub entered_reply : IsReplied s.journal (entry_of caller asked reply)
    entered_reply =
        e.reply_is ∙ ap (λ (n : ℕ). reply_to (kept s.journal (key_of asked)) (call_of asked) n) h.named

    entered_named : length t.blobs ≡ stored_in t.journal
    entered_named =
        let r : Record = entry_of caller asked reply in
        let now = kept s.journal (key_of asked) in
        let blobs : length t.blobs ≡ length s.blobs + length (added_by asked reply) =
        ap (λ (bs : List (List ℕ)). length bs) e.blobs ∙ length-append s.blobs (added_by asked reply) in
        let added : length (added_by asked reply) ≡ stores reply =
        subst (λ (p : Reply). length (added_by asked p) ≡ stores p) (sym e.reply_is)
        (added_replied now asked (length s.blobs)) in
        let more : stored_in t.journal ≡ stored_in s.journal + stores reply =
        ap stored_in e.journal ∙ stored_more s.journal r in
        let named = h.named in
        omega (arith, blobs, added, more, named)

    entered_well : SuitsAsked suits asked
        → AllByRecursion (λ (r : Record). StoredWell suits t.blobs r.key r.reply) t.journal
    entered_well fit =
        let r : Record = entry_of caller asked reply in
        let now = kept s.journal (key_of asked) in
        let P : Record → Type 0 = λ r. StoredWell suits t.blobs r.key r.reply in
        let before : AllByRecursion P s.journal =
        subst (λ (bs : List (List ℕ)). AllByRecursion (λ (r : Record). StoredWell suits bs r.key r.reply) s.journal)
        (sym e.blobs) (all_well_more suits s.blobs (added_by asked reply) s.journal h.well) in
        let names : NamesBlob t.blobs asked (reply_to now (call_of asked) (length s.blobs)) =
        subst (λ (p : Reply). NamesBlob t.blobs asked p) e.reply_is e.names in
        let last : P r =
        subst (λ (p : Reply). StoredWell suits t.blobs (key_of asked) p) (sym e.reply_is)
        (well_replied suits t.blobs now asked (length s.blobs) fit names) in
        subst (λ (l : List Record). AllByRecursion P l) (sym e.journal) (all_and suits P s.journal r before last)

    entered_sound : SuitsAsked suits asked → IsSound suits t
    entered_sound fit =
        let r : Record = entry_of caller asked reply in
        let long : length t.journal ≡ length s.journal + 1 =
        ap (λ (l : List Record). length l) e.journal ∙ length-append s.journal (r ∷ []) in
        let room = e.room in
        let limit = e.limit in
        record {
          legal = subst IsLegal (sym e.journal) (legal_adds s.journal r h.legal entered_reply);
          within = omega (arith, long, room, limit);
          named = entered_named;
          well = entered_well fit;
        }

  stays_sound : (asked : Asked) (stop : Stop) → Stays s t asked stop → IsSound suits t
  stays_sound asked stop e =
      let within = h.within in
      let limit = e.limit in
      let long : length t.journal ≡ length s.journal = ap (λ (l : List Record). length l) e.journal in
      record {
        legal = subst IsLegal (sym e.journal) h.legal;
        within = omega (arith, within, limit, long);
        named = ap (λ (bs : List (List ℕ)). length bs) e.blobs ∙ (h.named ∙ sym (ap stored_in e.journal));
        well = subst (λ (l : List Record). AllByRecursion (λ (r : Record). StoredWell suits t.blobs r.key r.reply) l) (sym e.journal)
            (subst (λ (bs : List (List ℕ)). AllByRecursion (λ (r : Record). StoredWell suits bs r.key r.reply) s.journal)
            (sym e.blobs) h.well);
      }

-- the view after a call that found the store s and left the store t
abbrev pub after_call : View → StoreState → StoreState → ℕ → Asked → Result Reply Stop → View
after_call v s t caller asked answer = record v {
  seen = s.journal ++ entries_by caller asked answer;
  mine = v.mine ++ entries_by caller asked answer;
  blobs = s.blobs ++ blobs_by asked answer;
  faults = t.faults;
}

below_length : {A : Type 0} (l : List A) (i : ℕ) (a : A) → get_elem? l i ≡ some a → i < length l
below_length [] i a e = absurd (cc)
below_length (x ∷ xs) zero a e = omega arith
below_length (x ∷ xs) (suc i) a e = let h = below_length xs i a e in omega arith

by_other : (caller by : ℕ) (asked : Asked) (answer : Result Reply Stop) (journal : List Record)
    → caller ≢ by → calls_by by (journal ++ entries_by caller asked answer) ≡ calls_by by journal
by_other caller by asked (Ok reply) journal other =
    calls_more by journal (entry_of caller asked reply)
    ∙ (ap (λ (b : Bool). calls_by by journal ++ (if b then entry_of caller asked reply ∷ [] else []))
    (eqb_other caller by other) ∙ append-nil (calls_by by journal))
by_other caller by asked (Err stop) journal other = ap (calls_by by) (append-nil journal)

pub by_own : (caller : ℕ) (asked : Asked) (answer : Result Reply Stop) (journal : List Record)
    → calls_by caller (journal ++ entries_by caller asked answer)
    ≡ calls_by caller journal ++ entries_by caller asked answer
by_own caller asked (Ok reply) journal =
    calls_more caller journal (entry_of caller asked reply)
    ∙ ap (λ (b : Bool). calls_by caller journal ++ (if b then entry_of caller asked reply ∷ [] else []))
    (eqb_refl caller)
by_own caller asked (Err stop) journal =
    ap (calls_by caller) (append-nil journal) ∙ sym (append-nil (calls_by caller journal))

-- what a call makes of the store, whatever it answers
pub record Moves (s t : StoreState) (caller : ℕ) (asked : Asked) (answer : Result Reply Stop) : Type 0 where
  pub journal : t.journal ≡ s.journal ++ entries_by caller asked answer
  pub blobs : t.blobs ≡ s.blobs ++ blobs_by asked answer
  pub faults : s.faults ≤ t.faults
  pub limit : t.limit ≡ s.limit

pub moves : (s t : StoreState) (caller : ℕ) (asked : Asked) (answer : Result Reply Stop)
    → Calls s t caller asked answer → Moves s t caller asked answer
moves s t caller asked (Ok reply) e =
    record { journal = e.journal; blobs = e.blobs; faults = e.faults; limit = e.limit }
moves s t caller asked (Err stop) e = record {
  journal = e.journal ∙ sym (append-nil s.journal);
  blobs = e.blobs ∙ sym (append-nil s.blobs);
  faults = e.faults;
  limit = e.limit;
}

module _ (suits : List ℕ → List ℕ → Type 0) where
  pub sound_after : (s t : StoreState) (caller : ℕ) (asked : Asked) (answer : Result Reply Stop)
      → IsSound suits s → Calls s t caller asked answer → SuitsAsked suits asked → IsSound suits t
  sound_after s t caller asked (Ok reply) h e fit = entered_sound suits s t h caller asked reply e fit
  sound_after s t caller asked (Err stop) h e fit = stays_sound suits s t h asked stop e

  module _ (s t : StoreState) (views : List View) (id : ℕ) (v : View) (h : Fits suits s views)
      (at : get_elem? views id ≡ some v) (asked : Asked) (answer : Result Reply Stop)
      (e : Calls s t id asked answer) (fit : SuitsAsked suits asked) where
    m : Moves s t id asked answer
    m = moves s t id asked answer e

    f : FitsCaller s id v
    f = h.each id v at

    own_fits : FitsCaller t id (after_call v s t id asked answer)
    own_fits = record {
      seen = itself t.journal _ m.journal;
      mine = ap (calls_by id) m.journal ∙ (by_own id asked answer s.journal
          ∙ ap (λ (l : List Record). l ++ entries_by id asked answer) f.mine);
      own = by_own id asked answer s.journal
          ∙ ap (λ (l : List Record). l ++ entries_by id asked answer) f.mine;
      blobs = itself t.blobs _ m.blobs;
      counted = ap (λ (bs : List (List ℕ)). length bs) (sym m.blobs)
          ∙ ((sound_after s t id asked answer h.sound e fit).named ∙ ap stored_in m.journal);
      faults = omega arith;
      limit = m.limit ∙ f.limit;
    }

    other_fits : (j : ℕ) (u : View) → j ≢ id → FitsCaller s j u → FitsCaller t j u
    other_fits j u other g = record {
      seen = subst (λ (l : List Record). StartsWith l u.seen) (sym m.journal)
          (longer s.journal u.seen (entries_by id asked answer) g.seen);
      mine = ap (calls_by j) m.journal ∙ (by_other id j asked answer s.journal (λ k. other (sym k)) ∙ g.mine);
      own = g.own;
      blobs = subst (λ (l : List (List ℕ)). StartsWith l u.blobs) (sym m.blobs)
          (longer s.blobs u.blobs (blobs_by asked answer) g.blobs);
      counted = g.counted;
      faults = let a = m.faults in let b = g.faults in omega (arith, a, b);
      limit = m.limit ∙ g.limit;
    }

    -- the store that a call leaves fits the views, with the caller's as it is after the call
    pub call_keeps : Fits suits t (set views id (after_call v s t id asked answer))
    call_keeps =
        let w = after_call v s t id asked answer in record {
          sound = sound_after s t id asked answer h.sound e fit;
          each = λ j u o.
              ⊎_elim
              (λ (k : (j ≡ id) × (w ≡ u)).
              subst (λ (x : View). FitsCaller t j x) k.1
              (subst (λ (n : ℕ). FitsCaller t n w) (sym k.0) own_fits))
              (λ (k : (j ≢ id) × (get_elem? views j ≡ some u)). other_fits j u k.0 (h.each j u k.1))
              (at_set views id j w u o);
          others = λ j l.
              let long = length-set views id w in
              let few = below_length views id v at in
              let l' : length views ≤ j = omega (arith, long, l) in
              ap (calls_by j) m.journal
              ∙ (by_other id j asked answer s.journal (λ k. absurd (omega (arith, k, l', few))) ∙ h.others j l');
        }
