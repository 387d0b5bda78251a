-- Records answered one after another, and how that ends.
use Rattle.std.proofs.Common.{◌≡◌, ℕ, ◌+◌, ◌<◌, List, [], ◌∷◌, ◌++◌, length, take, flat_map, Option, Some, None, inl, inr, sym, ap, ◌∙◌, subst, refl, length-append, append-nil, append_assoc, arith, ◌⊎◌}
use lib.Seq.{take-append-add}
use Rattle.std.specs.List.{AllByRecursion}
use Rattle.std.proofs.lemmas.List.{take_all}
use Rattle.std.specs.Io.KnownBytes.{Appends, Consumes, IsAtEnd, Keeps}
use Rattle.std.proofs.KnownBytes.{Appends-nil, Appends-trans, Consumes-kept, Consumes-nil, Consumes-trans}
use Rattle.outside_core.specs.Faults.{Rose}
use Rattle.blob_store.specs.declared.record.Record.{Record}
use Rattle.blob_store.specs.Callers.{CallerValue}
use Rattle.blob_store.specs.Journals.{AreBy, StartsWith}
use Rattle.blob_store.specs.States.{HasRisen}
use Rattle.blob_store.proofs.SoleCaller.{first_are_by}
use Rattle.photo_store.specs.FileEntries.{AreSame}
use Rattle.photo_store.specs.FileStores.{Files, FileCall, files_after, no_files}
use Rattle.store_run.specs.Answering.{IsLater, IsTied}
use Rattle.store_run.specs.Kept.{HasKept}
use Rattle.store_run.specs.Records.{FitsRecord, files_by, most_records, record_bytes, replies}
use Rattle.store_run.specs.RunEnds.{RunEnds, HasAnswered, HasAnsweredAll, HasAnsweredSome}
use Rattle.store_run.specs.Turns.{CallTurns, Calls, IsServing, Stops, StopsFirst, Turns, reply_in}
use Rattle.store_run.specs.declared.ending.Ending.{Ending}
use Rattle.store_run.specs.declared.ending.Ending.TheVariants.{Answered, BadRecord, ReadFailed, WriteFailed, NoMemory, KeeperFailed, Full}

-- ---- one record more

pub bytes_more : (rs : List FileCall) (c : FileCall)
    → flat_map record_bytes (rs ++ c ∷ []) ≡ flat_map record_bytes rs ++ record_bytes c
bytes_more [] c = append-nil (record_bytes c)
bytes_more (r ∷ rs) c =
    ap (λ (l : List ℕ). record_bytes r ++ l) (bytes_more rs c)
    ∙ sym (append_assoc (record_bytes r) (flat_map record_bytes rs) (record_bytes c))

files_more : (files : Files) (rs : List FileCall) (c : FileCall)
    → files_by files (rs ++ c ∷ []) ≡ files_after (files_by files rs) c
files_more files [] c = refl
files_more files (r ∷ rs) c = files_more (files_after files r) rs c

pub replies_more : (files : Files) (rs : List FileCall) (c : FileCall)
    → replies files (rs ++ c ∷ []) ≡ replies files rs ++ reply_in (files_by files rs) c
replies_more files [] c = append-nil (reply_in files c)
replies_more files (r ∷ rs) c =
    ap (λ (l : List ℕ). reply_in files r ++ l) (replies_more (files_after files r) rs c)
    ∙ sym (append_assoc (reply_in files r) (replies (files_after files r) rs) (reply_in (files_by files (r ∷ rs)) c))

all_more : (rs : List FileCall) (c : FileCall) → AllByRecursion FitsRecord rs → FitsRecord c
    → AllByRecursion FitsRecord (rs ++ c ∷ [])
all_more [] c all whole = (whole, tt)
all_more (r ∷ rs) c all whole = (all.0, all_more rs c all.1 whole)

-- if a later journal has no other caller's entries, an earlier one has none
pub sole_before : (before after : CallerValue) → StartsWith after.view.seen before.view.seen
    → AreBy 0 after.view.seen → AreBy 0 before.view.seen
sole_before before after s sole = first_are_by before.view.seen s.0 (subst (AreBy 0) s.1 sole)

module _ {Source Sink : Type 0} (left : Source → Option (List ℕ)) (held : Sink → Option (List ℕ))
    (source_faults : Source → ℕ) (source_full : Source → Type 0) (sink_faults : Sink → ℕ)
    (sink_full : Sink → Type 0) where
  abbrev Serving : Source → Source → Sink → Sink → CallerValue → ℕ → Type 0
  Serving = IsServing left held source_faults source_full sink_faults sink_full

  -- before the first record
  pub serving_none : (source : Source) (sink : Sink) (caller : CallerValue) → caller.number ≡ 0
      → caller.view.mine ≡ [] → caller.view.limit ≡ most_records
      → Serving source source sink sink caller 0
  serving_none source sink caller first mine limit =
      let long : length caller.view.mine ≡ 0 = ap length mine in
      record {
        records = [];
        whole = tt;
        long = refl;
        read = Consumes-nil (left source);
        wrote = Appends-nil (held sink);
        tied = record {
          first = first;
          same = subst (λ (l : List Record). AreSame caller.view.blobs l no_files) (sym mine) (λ key. tt);
        };
        few = omega (arith, long);
        limit = limit;
        source_worked = refl;
        sink_worked = refl;
      }

  module _ (old now new : Source) (from mid to : Sink) (before after : CallerValue) (count : ℕ)
      (s : Serving old now from mid before count) where
    -- after one record more
    pub serving_more : Calls left held source_faults source_full sink_faults sink_full now new mid to before after None
        → IsLater before after → AreBy 0 after.view.seen → Serving old new from to after (count + 1)
    serving_more c later sole =
        let files = files_by no_files s.records in
        let t = c.turns.1 files sole s.tied in
        let long = s.long in
        let more = length-append s.records (c.call ∷ []) in
        let few = s.few in
        let entries = later.entries in
        record {
          records = s.records ++ c.call ∷ [];
          whole = all_more s.records c.call s.whole c.whole;
          long = omega (arith, long, more);
          read = subst (Consumes (left old) (left new)) (sym (bytes_more s.records c.call))
              (Consumes-trans (left old) (left now) (left new) _ _ s.read c.read);
          wrote = subst (Appends (held from) (held to)) (sym (replies_more no_files s.records c.call))
              (Appends-trans (held from) (held mid) (held to) _ _ s.wrote t.0);
          tied = subst (λ (f : Files). IsTied after f) (sym (files_more no_files s.records c.call)) t.1;
          few = omega (arith, few, entries);
          limit = later.limit ∙ s.limit;
          source_worked = c.worked ∙ s.source_worked;
          sink_worked = c.turns.0 ∙ s.sink_worked;
        }

    -- all replies so far, and these bytes after the records
    all_so_far : (bytes : List ℕ) → Consumes (left now) (left new) bytes → to ≡ mid
        → HasAnsweredAll left held old new from to s.records bytes
    all_so_far bytes read still = record {
      whole = s.whole;
      read = Consumes-trans (left old) (left now) (left new) _ bytes s.read read;
      wrote = subst (λ (k : Sink). Appends (held from) (held k) (replies no_files s.records)) (sym still) s.wrote;
    }

    some_so_far : (bytes : List ℕ) → Consumes (left now) (left new) bytes → to ≡ mid
        → HasAnsweredSome left held old new from to
    some_so_far bytes read still =
        let all = all_so_far bytes read still in
        let text = replies no_files s.records in
        record {
          records = s.records;
          rest = bytes;
          written = length text;
          so_far = record {
            whole = all.whole;
            read = all.read;
            wrote = subst (Appends (held from) (held to)) (sym (take_all (length text) text (omega arith))) all.wrote;
          };
        }

    sink_still : to ≡ mid → sink_faults to ≡ sink_faults from
    sink_still still = ap sink_faults still ∙ s.sink_worked

    rose_later : Rose source_faults source_full now new → Rose source_faults source_full old new
    rose_later rose = subst (λ (k : ℕ). (k < source_faults new) ⊎ source_full new) s.source_worked rose

    abbrev End : Type 0 → Ending → Type 0
    End = RunEnds left held source_faults source_full sink_faults sink_full old new from to

    by_stop : (rose : Type 0) (ending : Ending) → count < most_records → to ≡ mid
        → Stops left held source_faults source_full sink_faults sink_full now new ending
        → End rose ending
    by_stop rose Answered room still h =
        let long = s.long in (
          s.records,
          all_so_far [] h.0 still,
          h.1,
          omega (arith, long, room),
          h.2 ∙ s.source_worked,
          sink_still still,
        )
    by_stop rose BadRecord room still h =
        let long = s.long in (
          s.records,
          h.0,
          all_so_far h.0 h.1 still,
          h.2,
          omega (arith, long, room),
          h.3 ∙ s.source_worked,
          sink_still still,
        )
    by_stop rose ReadFailed room still h =
        (s.records, h.0, all_so_far h.0 h.1 still, h.2, rose_later h.3, sink_still still)
    by_stop rose (NoMemory short) room still h =
        (s.records, h.0, all_so_far h.0 h.1 still, inl h.2, h.3 ∙ s.source_worked, sink_still still)
    by_stop rose WriteFailed room still h = absurd h
    by_stop rose KeeperFailed room still h = absurd h
    by_stop rose Full room still h = absurd h

    -- no record more
    pub stopped_ends : (rose : Type 0) (ending : Ending) → count < most_records
        → StopsFirst left held source_faults source_full sink_faults sink_full now new mid to before after (Some ending)
        → End rose ending
    stopped_ends rose ending room f =
        let is = f.is in
        let same : f.ending ≡ ending = cc in
        subst (λ (x : Ending). End rose x) same (by_stop rose f.ending room f.sink f.stops)

    -- the replies so far, and a part of one more
    cut_here : (call : FileCall) → FitsRecord call → Consumes (left now) (left new) (record_bytes call)
        → (written : ℕ) → Appends (held mid) (held to) (take written (reply_in (files_by no_files s.records) call))
        → HasAnswered left held old new from to (s.records ++ call ∷ []) [] (length (replies no_files s.records) + written)
    cut_here call whole read written wrote =
        let text = replies no_files s.records in
        let reply = reply_in (files_by no_files s.records) call in
        record {
          whole = all_more s.records call s.whole whole;
          read = subst (Consumes (left old) (left new))
              (sym (append-nil (flat_map record_bytes (s.records ++ call ∷ [])) ∙ bytes_more s.records call))
              (Consumes-trans (left old) (left now) (left new) _ _ s.read read);
          wrote = subst (Appends (held from) (held to))
              (sym (ap (λ (l : List ℕ). take (length text + written) l) (replies_more no_files s.records call)
              ∙ take-append-add text reply written))
              (Appends-trans (held from) (held mid) (held to) text (take written reply) s.wrote wrote);
        }

    cut_so_far : (call : FileCall) → FitsRecord call → Consumes (left now) (left new) (record_bytes call)
        → (written : ℕ) → Appends (held mid) (held to) (take written (reply_in (files_by no_files s.records) call))
        → HasAnsweredSome left held old new from to
    cut_so_far call whole read written wrote = record {
      records = s.records ++ call ∷ [];
      rest = [];
      written = length (replies no_files s.records) + written;
      so_far = cut_here call whole read written wrote;
    }

    by_call : (rose : Type 0) (ending : Ending) → count < most_records → AreBy 0 after.view.seen
        → (HasRisen before.view.faults after.view.faults → rose)
        → (call : FileCall) → FitsRecord call → Consumes (left now) (left new) (record_bytes call)
        → source_faults new ≡ source_faults now
        → CallTurns held sink_faults sink_full mid to before after call (Some ending)
        → End rose ending
    by_call rose Answered room sole rises call whole read worked h = absurd h
    by_call rose BadRecord room sole rises call whole read worked h = absurd h
    by_call rose ReadFailed room sole rises call whole read worked h = absurd h
    by_call rose WriteFailed room sole rises call whole read worked h =
        let w = h.1 (files_by no_files s.records) sole s.tied in (
          cut_so_far call whole read w.0 w.2,
          subst (λ (k : ℕ). (k < sink_faults to) ⊎ sink_full to) s.sink_worked h.0,
          worked ∙ s.source_worked,
        )
    by_call rose (NoMemory short) room sole rises call whole read worked h =
        (s.records, record_bytes call, all_so_far (record_bytes call) read h.0, inr (call, whole, refl), worked ∙ s.source_worked, sink_still h.0)
    by_call rose KeeperFailed room sole rises call whole read worked h = (
      s.records,
      call,
      whole,
      all_so_far (record_bytes call) read h.0,
      rises h.1,
      worked ∙ s.source_worked,
      sink_still h.0,
    )
    by_call rose Full room sole rises call whole read worked h =
        let full = h sole s.tied.first in
        let limit = s.limit in
        let few = s.few in
        absurd (omega (arith, full, limit, few, room))

    -- a call after which the run ends
    pub called_ends : (rose : Type 0) (ending : Ending) → count < most_records → AreBy 0 after.view.seen
        → (HasRisen before.view.faults after.view.faults → rose)
        → Calls left held source_faults source_full sink_faults sink_full now new mid to before after (Some ending)
        → End rose ending
    called_ends rose ending room sole rises c =
        by_call rose ending room sole rises c.call c.whole c.read c.worked c.turns

    -- a record after which the run ends
    pub turn_ends : (rose : Type 0) (ending : Ending) → count < most_records → AreBy 0 after.view.seen
        → (HasRisen before.view.faults after.view.faults → rose)
        → Turns left held source_faults source_full sink_faults sink_full now new mid to before after (Some ending)
        → End rose ending
    turn_ends rose ending room sole rises (inl c) = called_ends rose ending room sole rises c
    turn_ends rose ending room sole rises (inr f) = stopped_ends rose ending room f

    -- what the keeper has then, as the caller knows it
    abbrev Holds : Ending → Type 0
    Holds =
        HasKept left held old new from to
        (λ (records : List FileCall). AreSame after.view.blobs after.view.mine (files_by no_files records))

    -- no record more was read
    kept_before : after ≡ before
        → AreSame after.view.blobs after.view.mine (files_by no_files s.records)
    kept_before same =
        subst (λ (c : CallerValue). AreSame c.view.blobs c.view.mine (files_by no_files s.records))
        (sym same) s.tied.same

    keeps_stop : (ending : Ending) → to ≡ mid → after ≡ before
        → Stops left held source_faults source_full sink_faults sink_full now new ending → Holds ending
    keeps_stop Answered still same h = (s.records, [], all_so_far [] h.0 still, kept_before same)
    keeps_stop BadRecord still same h = (s.records, h.0, all_so_far h.0 h.1 still, kept_before same)
    keeps_stop ReadFailed still same h = (s.records, h.0, all_so_far h.0 h.1 still, kept_before same)
    keeps_stop (NoMemory short) still same h = (s.records, h.0, all_so_far h.0 h.1 still, kept_before same)
    keeps_stop WriteFailed still same h = absurd h
    keeps_stop KeeperFailed still same h = absurd h
    keeps_stop Full still same h = absurd h

    keeps_call : (ending : Ending) → count < most_records → AreBy 0 after.view.seen
        → (call : FileCall) → FitsRecord call → Consumes (left now) (left new) (record_bytes call)
        → CallTurns held sink_faults sink_full mid to before after call (Some ending) → Holds ending
    keeps_call Answered room sole call whole read h = absurd h
    keeps_call BadRecord room sole call whole read h = absurd h
    keeps_call ReadFailed room sole call whole read h = absurd h
    keeps_call WriteFailed room sole call whole read h =
        let files = files_by no_files s.records in
        let w = h.1 files sole s.tied in
        let reply = reply_in files call in
        let text = replies no_files s.records in
        let long : length (replies no_files (s.records ++ call ∷ [])) ≡ length text + length reply =
        ap (λ (l : List ℕ). length l) (replies_more no_files s.records call) ∙ length-append text reply in
        let below = w.1 in (
          s.records ++ call ∷ [],
          [],
          length text + w.0,
          cut_here call whole read w.0 w.2,
          omega (arith, long, below),
          subst (AreSame after.view.blobs after.view.mine) (sym (files_more no_files s.records call)) w.3.same,
        )
    keeps_call (NoMemory short) room sole call whole read h = (
      s.records,
      record_bytes call,
      all_so_far (record_bytes call) read h.0,
      (h.1 (files_by no_files s.records) sole s.tied).same,
    )
    keeps_call KeeperFailed room sole call whole read h = (
      s.records,
      record_bytes call,
      all_so_far (record_bytes call) read h.0,
      (h.2 (files_by no_files s.records) sole s.tied).same,
    )
    keeps_call Full room sole call whole read h =
        let full = h sole s.tied.first in
        let limit = s.limit in
        let few = s.few in
        absurd (omega (arith, full, limit, few, room))

    -- after a record after which the run ends
    pub turn_keeps : (ending : Ending) → count < most_records → AreBy 0 after.view.seen
        → Turns left held source_faults source_full sink_faults sink_full now new mid to before after (Some ending)
        → Holds ending
    turn_keeps ending room sole (inl c) = keeps_call ending room sole c.call c.whole c.read c.turns
    turn_keeps ending room sole (inr f) =
        let is = f.is in
        let same : f.ending ≡ ending = cc in
        subst Holds same (keeps_stop f.ending f.sink f.caller f.stops)

    -- and one after which it doesn't
    pub turn_serves : IsLater before after → AreBy 0 after.view.seen
        → Turns left held source_faults source_full sink_faults sink_full now new mid to before after None
        → Serving old new from to after (count + 1)
    turn_serves later sole (inl c) = serving_more c later sole
    turn_serves later sole (inr f) = let is = f.is in absurd (cc)

  -- after the last record that is answered
  module _ (old now new : Source) (from to : Sink) (caller : CallerValue)
      (s : Serving old now from to caller most_records) where
    abbrev EndHere : Type 0 → Ending → Type 0
    EndHere = RunEnds left held source_faults source_full sink_faults sink_full old new from to

    pub last_answered : (rose : Type 0) → Consumes (left now) (left new) [] → IsAtEnd (left new)
        → source_faults new ≡ source_faults now → EndHere rose Answered
    last_answered rose read end worked =
        let long = s.long in (
          s.records,
          all_so_far old now new from to to caller caller most_records s [] read refl,
          end,
          omega (arith, long),
          worked ∙ s.source_worked,
          s.sink_worked,
        )

    pub last_full : (rose : Type 0) (byte : ℕ) → Consumes (left now) (left new) (byte ∷ [])
        → source_faults new ≡ source_faults now → EndHere rose Full
    last_full rose byte read worked = (
      s.records,
      byte,
      all_so_far old now new from to to caller caller most_records s (byte ∷ []) read refl,
      s.long,
      worked ∙ s.source_worked,
      s.sink_worked,
    )

    pub last_failed : (rose : Type 0) → Keeps (left now) (left new)
        → Rose source_faults source_full now new → EndHere rose ReadFailed
    last_failed rose kept failed = (
      s.records,
      [],
      all_so_far old now new from to to caller caller most_records s []
          (Consumes-kept (left now) (left now) (left new) [] (Consumes-nil (left now)) kept) refl,
      inl refl,
      rose_later old now new from to to caller caller most_records s failed,
      s.sink_worked,
    )

    -- what the keeper has then, as the caller knows it, with `rest` after the records
    last_kept : (rest : List ℕ) → Consumes (left now) (left new) rest
        → (records : List FileCall) × (more : List ℕ) × HasAnsweredAll left held old new from to records more
        × AreSame caller.view.blobs caller.view.mine (files_by no_files records)
    last_kept rest read =
        (s.records, rest, all_so_far old now new from to to caller caller most_records s rest read refl, s.tied.same)

    abbrev HoldsHere : Ending → Type 0
    HoldsHere =
        HasKept left held old new from to
        (λ (records : List FileCall). AreSame caller.view.blobs caller.view.mine (files_by no_files records))

    pub last_keeps_answered : Consumes (left now) (left new) [] → HoldsHere Answered
    last_keeps_answered read = last_kept [] read

    pub last_keeps_full : (byte : ℕ) → Consumes (left now) (left new) (byte ∷ []) → HoldsHere Full
    last_keeps_full byte read = last_kept (byte ∷ []) read

    pub last_keeps_failed : Keeps (left now) (left new) → HoldsHere ReadFailed
    last_keeps_failed kept =
        last_kept []
        (Consumes-kept (left now) (left now) (left new) [] (Consumes-nil (left now)) kept)
