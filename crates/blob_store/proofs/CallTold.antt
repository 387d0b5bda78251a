-- What a caller knows after a call.
use Rattle.std.proofs.Common.{◌≡◌, ℕ, ◌+◌, ◌<◌, List, [], ◌∷◌, ◌++◌, length, set, Some, sym, ap, ◌∙◌, subst, refl, append-nil, arith}
use Rattle.std.specs.Prelude.{slice_get}
use Rattle.std.specs.declared.result.Result.{Result}
use Rattle.std.specs.declared.result.Result.TheVariants.{Ok, Err}
use Rattle.seat_lock.specs.TurnRule.{FitsAmong, FitsAgain}
use Rattle.blob_store.specs.declared.record.Reply.{Reply}
use Rattle.blob_store.specs.declared.record.Record.{Record}
use Rattle.blob_store.specs.declared.record.Stop.{Stop}
use Rattle.blob_store.specs.declared.record.Stop.TheVariants.{Full, Clash, KeeperFault, NoMemory}
use Rattle.blob_store.specs.declared.view.View.{View}
use Rattle.blob_store.specs.declared.note.Note.{Note}
use Rattle.blob_store.specs.Journals.{IsReplied, kept}
use Rattle.blob_store.specs.States.{StoreState, Asked, Puts, Finds, Removes, HasRisen, AsksKeeper, IsSound, IsClash, NamesBlob, entry_of}
use Rattle.blob_store.specs.CallSteps.{Calls, HasCause}
use Rattle.blob_store.specs.StoreRule.{Fits, FitsCaller, asked_by, entries_by, blobs_by, after}
use Rattle.blob_store.specs.Callers.{CallerValue, HasCalled, KnowsMore, Answered, CauseSeen, FaultTold, store_seen}
use Rattle.blob_store.proofs.Risen.{risen_wider}
use Rattle.blob_store.proofs.StoreKept.{SuitsAsked, moves, after_call, by_own, longer, sound_after, call_keeps, entered_reply}

clash_moves : (s u : StoreState) → u.journal ≡ s.journal → u.blobs ≡ s.blobs → (asked : Asked)
    → IsClash s asked → IsClash u asked
clash_moves s u journal blobs (Puts key blob) c = (
  c.0,
  c.1,
  ap (λ (l : List Record). kept l key) journal ∙ c.2,
  ap (λ (bs : List (List ℕ)). slice_get bs c.0) blobs ∙ c.3,
  c.4,
)
clash_moves s u journal blobs (Finds key) c = absurd c
clash_moves s u journal blobs (Removes key) c = absurd c

module _ (suits : List ℕ → List ℕ → Type 0) (s t : StoreState) (id : ℕ) (v : View)
    (k : FitsAmong (Fits suits) s id v) (asked : Asked) where
  f : FitsCaller s id v
  f = k.fitted.each id v k.at

  pub knows_more : (answer : Result Reply Stop) → Calls s t id asked answer → SuitsAsked suits asked
      → KnowsMore suits id v (after_call v s t id asked answer)
  knows_more answer e fit =
      let m = moves s t id asked answer e in
      let w = after_call v s t id asked answer in
      let same : t ≡ store_seen w =
      (λ i. record { journal = m.journal i; blobs = m.blobs i; faults = t.faults; limit = (m.limit ∙ f.limit) i }) in
      let below = f.faults in
      let rises = m.faults in
      record {
        seen = longer s.journal v.seen (entries_by id asked answer) f.seen;
        blobs = longer s.blobs v.blobs (blobs_by asked answer) f.blobs;
        faults = omega (arith, below, rises);
        limit = refl;
        sound = subst (IsSound suits) same (sound_after suits s t id asked answer k.fitted.sound e fit);
        mine = by_own id asked answer s.journal
            ∙ ap (λ (l : List Record). l ++ entries_by id asked answer) f.mine;
      }

  few_seen : (stop : Stop) → length s.journal < s.limit
      → length (after_call v s t id asked (Err stop)).seen < v.limit
  few_seen stop l =
      let long : length (s.journal ++ []) ≡ length s.journal = ap (λ (l : List Record). length l) (append-nil s.journal) in
      let limit = f.limit in
      omega (arith, long, limit, l)

  asks_seen : AsksKeeper s.journal asked → AsksKeeper (s.journal ++ []) asked
  asks_seen a = subst (λ (l : List Record). AsksKeeper l asked) (sym (append-nil s.journal)) a

  cause_seen : (stop : Stop) → HasCause s t asked stop
      → CauseSeen v (after_call v s t id asked (Err stop)) asked stop
  cause_seen Full c = ap (λ (l : List Record). length l) (append-nil s.journal) ∙ (c ∙ f.limit)
  cause_seen Clash c = (
    few_seen Clash c.0,
    clash_moves s (store_seen (after_call v s t id asked (Err Clash))) (append-nil s.journal) (append-nil s.blobs) asked c.1,
  )
  cause_seen KeeperFault c = (
    few_seen KeeperFault c.0,
    risen_wider v.faults s.faults t.faults t.faults f.faults c.1 (omega arith),
    asks_seen c.2,
  )
  cause_seen (NoMemory short) c = (few_seen (NoMemory short) c.0, asks_seen c.1)

  pub answered : (answer : Result Reply Stop) → Calls s t id asked answer
      → Answered id v (after_call v s t id asked answer) asked answer
  answered (Ok reply) e = record {
    between = f.seen.0;
    ends = ap (λ (l : List Record). l ++ entry_of id asked reply ∷ []) f.seen.1;
    mine = refl;
    replied = subst (λ (l : List Record). IsReplied l (entry_of id asked reply)) f.seen.1
        (entered_reply suits s t k.fitted.sound id asked reply e);
    names = subst (λ (bs : List (List ℕ)). NamesBlob bs asked reply) e.blobs e.names;
  }
  answered (Err stop) e = record { mine = append-nil v.mine; cause = cause_seen stop e.cause }

-- the view after a release that records a call is the one after the call
pub told_view : (v : View) (s t : StoreState) (id : ℕ) (asked : Asked) (answer : Result Reply Stop)
    (note : Note) → note.caller ≡ id → asked_by note.ask ≡ asked → note.answer ≡ answer
    → note.left.faults ≡ t.faults → after v 0 0 note s ≡ after_call v s t id asked answer
told_view v s t id asked answer note caller ask answer_is faults = λ i. record v {
  seen = s.journal ++ entries_by (caller i) (ask i) (answer_is i);
  mine = v.mine ++ entries_by (caller i) (ask i) (answer_is i);
  blobs = s.blobs ++ blobs_by (ask i) (answer_is i);
  faults = faults i;
}

-- a release that records a call keeps the rule
pub keeps : (suits : List ℕ → List ℕ → Type 0) (v : View) (s t : StoreState) (id : ℕ) (note : Note)
    → note.caller ≡ id → note.left.faults ≡ t.faults → Calls s t note.caller (asked_by note.ask) note.answer
    → SuitsAsked suits (asked_by note.ask)
    → FitsAgain (Fits suits) id v (after v 0 0 note s) s t
keeps suits v s t id note caller faults e fit views h at =
    let asked = asked_by note.ask in
    let e' : Calls s t id asked note.answer = subst (λ (n : ℕ). Calls s t n asked note.answer) caller e in
    subst (λ (w : View). Fits suits t (set views id w))
    (sym (told_view v s t id asked note.answer note caller refl refl faults))
    (call_keeps suits s t views id v h at asked note.answer e' fit)

module _ (suits : List ℕ → List ℕ → Type 0) (old new : CallerValue) (s t : StoreState) (u : View)
    (note : Note) (k : FitsAmong (Fits suits) s old.number old.view) (same : u ≡ old.view)
    (seen : new.view ≡ after u 0 0 note s) (caller : note.caller ≡ old.number)
    (faults : note.left.faults ≡ t.faults) (counted : note.found.faults ≡ s.faults) (entries : note.left.entries ≡ length t.journal)
    (call : Calls s t note.caller (asked_by note.ask) note.answer) (fit : SuitsAsked suits (asked_by note.ask)) where
  abbrev asked : Asked
  asked = asked_by note.ask

  by_caller : Calls s t old.number asked note.answer
  by_caller = subst (λ (n : ℕ). Calls s t n asked note.answer) caller call

  abbrev w : View
  w = after_call old.view s t old.number asked note.answer

  pub is_after : new.view ≡ w
  is_after =
      seen ∙ (ap (λ (v : View). after v 0 0 note s) same
      ∙ told_view old.view s t old.number asked note.answer note caller refl refl faults)

  -- the journal's length after the call
  pub front_is : note.left.entries ≡ length new.view.seen
  front_is =
      entries ∙ ap (λ (l : List Record). length l) ((moves s t old.number asked note.answer by_caller).journal
      ∙ sym (ap (λ (v : View). v.seen) is_after))

  fault_told : (answer : Result Reply Stop) → Calls s t old.number asked answer → FaultTold note answer
  fault_told (Ok reply) e = tt
  fault_told (Err Full) e = tt
  fault_told (Err Clash) e = tt
  fault_told (Err KeeperFault) e =
      subst (λ (n : ℕ). HasRisen note.found.faults n) (sym faults)
      (subst (λ (n : ℕ). HasRisen n t.faults) (sym counted) e.cause.1)
  fault_told (Err (NoMemory short)) e = tt

  -- one hold that records a call is that call
  pub has_called : new.table ≡ old.table → new.number ≡ old.number → new.holds ≡ old.holds + 1
      → new.splits ≡ old.splits → new.last ≡ Some (0, 0, note) → HasCalled suits old new (asked_by note.ask) note.answer
  has_called table number holds splits last = record {
    table = table;
    number = number;
    holds = holds;
    splits = splits;
    note = note;
    last = last;
    told = (refl, refl, front_is, faults ∙ sym (ap (λ (v : View). v.faults) is_after));
    fault = fault_told note.answer by_caller;
    knows = subst (λ (x : View). KnowsMore suits old.number old.view x) (sym is_after)
        (knows_more suits s t old.number old.view k asked note.answer by_caller fit);
    answered = subst (λ (x : View). Answered old.number old.view x asked note.answer) (sym is_after)
        (answered suits s t old.number old.view k asked note.answer by_caller);
  }
