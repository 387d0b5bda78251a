-- What the calls of a store's sole caller are answered.
use Rattle.std.proofs.Common.{◌≡◌, ◌≢◌, ℕ, Bool, true, false, List, [], ◌∷◌, ◌++◌, length, Option, Some, None, inl, inr, sym, ap, ◌∙◌, subst, refl, arith}
use Rattle.std.specs.Prelude.{slice_get, if◌then◌else◌, bytes_eq}
use Rattle.std.specs.Global.{Vec}
use Rattle.std.specs.declared.result.Result.{Result}
use Rattle.std.specs.declared.result.Result.TheVariants.{Ok, Err}
use Rattle.std.proofs.lemmas.Slice.Eq.{bytes_eq-Decides}
use Rattle.sha2.specs.Sha256.{sha256}
use Rattle.allocation.specs.declared.no_memory.NoMemory.{NoMemory as OutOfMemory}
use Rattle.byteorder.specs.Endian.{big_bytes}
use Rattle.blob_store.specs.declared.record.Call.TheVariants.{Put, Find, Remove}
use Rattle.blob_store.specs.declared.record.Record.{Record}
use Rattle.blob_store.specs.declared.record.Reply.TheVariants.{Stored, Held, Found, Missing, Removed}
use Rattle.blob_store.specs.declared.record.Stop.{Stop}
use Rattle.blob_store.specs.declared.record.Stop.TheVariants.{Full, Clash, KeeperFault, NoMemory}
use Rattle.blob_store.specs.Journals.{AreBy, kept, reply_to}
use Rattle.blob_store.specs.States.{Asked, Puts, Finds, HasRisen, Removes}
use Rattle.blob_store.specs.Callers.{CallerValue, HasCalled}
use Rattle.photo_blob.specs.Blobs.{IsBlobOf}
use Rattle.photo_blob.proofs.BlobFiles.{one_blob, one_file}
use Rattle.photo_store.specs.FileEntries.{AreSame, IsFileAt, HasSame}
use Rattle.photo_store.specs.FileStores.{Files, PutFile, FindFile, RemoveFile, FileHeld, FileClash, file_reply, file_left, files_after, no_files}
use Rattle.photo_store.specs.Photos.{SuitsKey, PutGives, FindGives, RemoveGives}
use Rattle.photo_store.specs.declared.answers.Put.TheVariants.{Stored as PutStored, Held as PutHeld}
use Rattle.photo_store.specs.declared.answers.Find.TheVariants.{Found as FindFound, Missing as FindMissing}
use Rattle.photo_store.specs.declared.answers.Remove.TheVariants.{Removed as RemoveRemoved, Missing as RemoveMissing}
use Rattle.photo_store.specs.declared.answers.Put.{Put as PutAnswer}
use Rattle.photo_store.specs.declared.answers.Remove.{Remove as RemoveAnswer}
use Rattle.photo_store.proofs.FileRuns.{bytes_same}
use Rattle.store_run.specs.Answering.{Gives, HasAnswered, IsTied, KeepsFiles, put_answer, remove_answer}
use Rattle.store_run.specs.Records.{clash_mark, found_mark, held_mark, not_found_mark, reply_bytes, stored_mark}
use Rattle.store_run.specs.declared.answers.Answer.TheVariants.{Keyed, File, Mark}
use Rattle.store_run.proofs.SoleCalls.{all_own, is_later, replied_own, stays_later, still_same, tied_after}

same_in : (o : Option (List ℕ)) (a b : List ℕ) → o ≡ Some a → o ≡ Some b → a ≡ b
same_in o a b e f = cc

-- ---- what a key had, by the reply

stored_had : (blobs : List (List ℕ)) (key : List ℕ) (now : Option ℕ) (held : Option (List ℕ)) (n m : ℕ)
    → Stored n ≡ reply_to now Put m → HasSame blobs key now held → held ≡ None
stored_had blobs key None None n m e h = refl
stored_had blobs key None (Some file) n m e h = absurd h
stored_had blobs key (Some k) held n m e h = absurd (cc)

missing_had : (blobs : List (List ℕ)) (key : List ℕ) (now : Option ℕ) (held : Option (List ℕ)) (m : ℕ)
    → Missing ≡ reply_to now Find m → HasSame blobs key now held → held ≡ None
missing_had blobs key None None m e h = refl
missing_had blobs key None (Some file) m e h = absurd h
missing_had blobs key (Some k) held m e h = absurd (cc)

gone_had : (blobs : List (List ℕ)) (key : List ℕ) (now : Option ℕ) (held : Option (List ℕ)) (m : ℕ)
    → Missing ≡ reply_to now Remove m → HasSame blobs key now held → (now ≡ None) × (held ≡ None)
gone_had blobs key None None m e h = (refl, refl)
gone_had blobs key None (Some file) m e h = absurd h
gone_had blobs key (Some k) held m e h = absurd (cc)

-- a file that a key had
record Had (blobs : List (List ℕ)) (held : Option (List ℕ)) (n : ℕ) : Type 0 where
  file : List ℕ
  is : held ≡ Some file
  at : IsFileAt blobs n file

had_some : (blobs : List (List ℕ)) (key : List ℕ) (now : Option ℕ) (held : Option (List ℕ)) (n : ℕ)
    → now ≡ Some n → HasSame blobs key now held → Had blobs held n
had_some blobs key None held n e h = absurd (cc)
had_some blobs key (Some k) None n e h = absurd h
had_some blobs key (Some k) (Some file) n e h =
    let same : k ≡ n = cc in
    record { file = file; is = refl; at = subst (λ (i : ℕ). IsFileAt blobs i file) same h.1 }

held_now : (now : Option ℕ) (n m : ℕ) → Held n ≡ reply_to now Put m → now ≡ Some n
held_now None n m e = absurd (cc)
held_now (Some k) n m e = let same : n ≡ k = cc in ap Some (sym same)

found_now : (now : Option ℕ) (n m : ℕ) → Found n ≡ reply_to now Find m → now ≡ Some n
found_now None n m e = absurd (cc)
found_now (Some k) n m e = let same : n ≡ k = cc in ap Some (sym same)

removed_had : (blobs : List (List ℕ)) (key : List ℕ) (now : Option ℕ) (held : Option (List ℕ)) (m : ℕ)
    → Removed ≡ reply_to now Remove m → HasSame blobs key now held → (file : List ℕ) × (held ≡ Some file)
removed_had blobs key None held m e h = absurd (cc)
removed_had blobs key (Some k) None m e h = absurd h
removed_had blobs key (Some k) (Some file) m e h = (file, refl)

-- the file at a number is that of the blob there
file_there : (blobs : List (List ℕ)) (n : ℕ) (blob file : List ℕ) → slice_get blobs n ≡ Some blob
    → IsFileAt blobs n file → IsBlobOf blob file
file_there blobs n blob file at h =
    subst (λ (b : List ℕ). IsBlobOf b file) (same_in (slice_get blobs n) h.0 blob h.1 at) h.2

-- ---- stops

full_gives : (old new : CallerValue) (asked : Asked) → HasCalled SuitsKey old new asked (Err Full)
    → AreBy 0 new.view.seen → old.number ≡ 0 → length old.view.mine ≡ old.view.limit
full_gives old new asked h sole first =
    let mine : new.view.seen ≡ old.view.mine = all_own old new asked (Err Full) h first sole ∙ h.answered.mine in
    ap length (sym mine) ∙ (h.answered.cause ∙ h.knows.limit)

-- without a reply the files stay
stop_keeps : (old new : CallerValue) (asked : Asked) (stop : Stop) → HasCalled SuitsKey old new asked (Err stop)
    → KeepsFiles old new
stop_keeps old new asked stop h files sole tied = record {
  first = h.number ∙ tied.first;
  same = subst (λ (l : List Record). AreSame new.view.blobs l files) (sym h.answered.mine)
      (still_same old new asked (Err stop) h files tied.same);
}

-- and without a call
still_keeps : (old new : CallerValue) → new ≡ old → KeepsFiles old new
still_keeps old new e files sole tied = subst (λ (v : CallerValue). IsTied v files) (sym e) tied

fault_gives : (old new : CallerValue) (asked : Asked) → HasCalled SuitsKey old new asked (Err KeeperFault)
    → HasRisen old.view.faults new.view.faults × KeepsFiles old new
fault_gives old new asked h = (h.answered.cause.1, stop_keeps old new asked KeeperFault h)

-- ---- puts

clash_left : (files : Files) (file held key : List ℕ) (b : Bool) → (b ≡ true → sha256 file ≡ key)
    → files (sha256 file) ≡ Some held
    → (if b then file_left (files key) (PutFile file) else files key) ≡ files key
clash_left files file held key true is has =
    let at : files key ≡ Some held = ap files (sym (is refl)) ∙ has in
    ap (λ (o : Option (List ℕ)). file_left o (PutFile file)) at ∙ sym at
clash_left files file held key false is has = refl

not_true : (b : Bool) → (b ≡ true → ⊥) → b ≡ false
not_true true no_ = absurd (no_ refl)
not_true false no_ = refl

by_test : (file held : List ℕ) (b : Bool) → bytes_eq held file ≡ b
    → file_reply (Some held) (PutFile file) ≡ (if b then FileHeld else FileClash)
by_test file held b e = ap (λ (x : Bool). if x then FileHeld else FileClash) e

module _ (old new : CallerValue) (file blob : List ℕ) (is : IsBlobOf blob file) where
  abbrev key : List ℕ
  key = sha256 file

  pub stored_gives : (number : ℕ) (k : List ℕ) → k ≡ sha256 file
      → HasCalled SuitsKey old new (Puts (sha256 file) blob) (Ok (Stored number))
      → Gives old new (PutFile file) (Ok (Keyed stored_mark k))
  stored_gives number k k_is h = (
    tt,
    λ files sole tied.
        let asked = Puts (sha256 file) blob in
        let has = still_same old new asked (Ok (Stored number)) h files tied.same (sha256 file) in
        let replied = replied_own old new asked (Stored number) h tied.first sole in
        let none = stored_had new.view.blobs (sha256 file) (kept old.view.mine (sha256 file)) (files (sha256 file)) number _ replied has in
        let own : HasSame new.view.blobs (sha256 file) (Some number) (file_left (files (sha256 file)) (PutFile file)) =
        subst (λ (o : Option (List ℕ)). HasSame new.view.blobs (sha256 file) (Some number) (file_left o (PutFile file)))
        (sym none) (refl, (blob, h.answered.names, is)) in (
          ap (λ (l : List ℕ). stored_mark ∷ l) k_is
              ∙ ap (λ (o : Option (List ℕ)). reply_bytes (PutFile file) (file_reply o (PutFile file))) (sym none),
          tied_after old new asked (Stored number) h tied.first sole files (PutFile file) tied.same refl own,
        ),
  )

  pub held_gives : (number : ℕ) (k : List ℕ) → k ≡ sha256 file
      → HasCalled SuitsKey old new (Puts (sha256 file) blob) (Ok (Held number))
      → Gives old new (PutFile file) (Ok (Keyed held_mark k))
  held_gives number k k_is h = (
    tt,
    λ files sole tied.
        let asked = Puts (sha256 file) blob in
        let has = still_same old new asked (Ok (Held number)) h files tied.same (sha256 file) in
        let replied = replied_own old new asked (Held number) h tied.first sole in
        let now = kept old.view.mine (sha256 file) in
        let had = had_some new.view.blobs (sha256 file) now (files (sha256 file)) number (held_now now number _ replied) has in
        let same : had.file ≡ file =
        one_file blob had.file file (file_there new.view.blobs number blob had.file h.answered.names had.at) is in
        let held : files (sha256 file) ≡ Some file = had.is ∙ ap Some same in
        let own : HasSame new.view.blobs (sha256 file) now (file_left (files (sha256 file)) (PutFile file)) =
        subst (λ (o : Option (List ℕ)). HasSame new.view.blobs (sha256 file) now (file_left o (PutFile file))) (sym held)
        (subst (λ (o : Option (List ℕ)). HasSame new.view.blobs (sha256 file) now o) held has) in
        let reply : FileHeld ≡ file_reply (files (sha256 file)) (PutFile file) =
        sym (by_test file file true (bytes_same file)) ∙ ap (λ (o : Option (List ℕ)). file_reply o (PutFile file)) (sym held) in (
          ap (λ (l : List ℕ). held_mark ∷ l) k_is ∙ ap (reply_bytes (PutFile file)) reply,
          tied_after old new asked (Held number) h tied.first sole files (PutFile file) tied.same refl own,
        ),
  )

  pub clash_gives : HasCalled SuitsKey old new (Puts (sha256 file) blob) (Err Clash)
      → Gives old new (PutFile file) (Ok (Keyed clash_mark (sha256 file)))
  clash_gives h = (
    tt,
    λ files sole tied.
        let asked = Puts (sha256 file) blob in
        let same = still_same old new asked (Err Clash) h files tied.same in
        let mine : new.view.seen ≡ old.view.mine = all_own old new asked (Err Clash) h tied.first sole ∙ h.answered.mine in
        let c = h.answered.cause.1 in
        let now : kept old.view.mine (sha256 file) ≡ Some c.0 =
        ap (λ (l : List Record). kept l (sha256 file)) (sym mine) ∙ c.2 in
        let had = had_some new.view.blobs (sha256 file) (kept old.view.mine (sha256 file)) (files (sha256 file)) c.0 now (same (sha256 file)) in
        let other : had.file ≢ file = λ e.
        c.4 (one_blob c.1 blob file
        (subst (λ (f : List ℕ). IsBlobOf c.1 f) e (file_there new.view.blobs c.0 c.1 had.file c.3 had.at)) is) in
        let test : bytes_eq had.file file ≡ false =
        not_true (bytes_eq had.file file) (λ e. other ((bytes_eq-Decides had.file file).0 e)) in
        let reply : FileClash ≡ file_reply (files (sha256 file)) (PutFile file) =
        sym (by_test file had.file false test) ∙ ap (λ (o : Option (List ℕ)). file_reply o (PutFile file)) (sym had.is) in (
          ap (reply_bytes (PutFile file)) reply,
          record {
            first = h.number ∙ tied.first;
            same = λ k.
                subst (λ (l : List Record). HasSame new.view.blobs k (kept l k) (files_after files (PutFile file) k)) (sym h.answered.mine)
                (subst (λ (o : Option (List ℕ)). HasSame new.view.blobs k (kept old.view.mine k) o)
                (sym (clash_left files file had.file k (bytes_eq (sha256 file) k) (bytes_eq-Decides (sha256 file) k).0 had.is))
                (same k));
          },
        ),
  )

-- ---- a store of files that would give a reply

-- each key has this file
abbrev all_have : List ℕ → Files
all_have file asked = Some file

held_reply : (file : List ℕ) → FileHeld ≡ file_reply (Some file) (PutFile file)
held_reply file = sym (by_test file file true (bytes_same file))

longer_differs : (file : List ℕ) → 0 ∷ file ≢ file
longer_differs file e =
    let long : length (0 ∷ file) ≡ length file = ap (λ (l : List ℕ). length l) e in
    absurd (omega (arith, long))

clash_reply : (file : List ℕ) → FileClash ≡ file_reply (Some (0 ∷ file)) (PutFile file)
clash_reply file =
    sym (by_test file (0 ∷ file) false
    (not_true (bytes_eq (0 ∷ file) file) (λ e. longer_differs file ((bytes_eq-Decides (0 ∷ file) file).0 e))))

pub put_answered : (old new : CallerValue) (file : List ℕ) (put : Result PutAnswer Stop)
    → PutGives old new file put → HasAnswered old new (PutFile file) (put_answer file put)
put_answered old new file (Ok (PutStored key front)) g = record {
  later = is_later old new _ _ g.4.0;
  reply = (no_files, ap (λ (l : List ℕ). stored_mark ∷ l) g.3);
  gives = stored_gives old new file g.0 g.2 g.1 key g.3 g.4.0;
}
put_answered old new file (Ok (PutHeld key front)) g = record {
  later = is_later old new _ _ g.4.0;
  reply = (all_have file, ap (λ (l : List ℕ). held_mark ∷ l) g.3 ∙ ap (reply_bytes (PutFile file)) (held_reply file));
  gives = held_gives old new file g.0 g.2 g.1 key g.3 g.4.0;
}
put_answered old new file (Err Clash) (inl g) = let e = g.1 in absurd (cc)
put_answered old new file (Err Clash) (inr g) = record {
  later = is_later old new _ _ g.2;
  gives = clash_gives old new file g.0 g.1 g.2;
  reply = (all_have (0 ∷ file), ap (reply_bytes (PutFile file)) (clash_reply file));
}
put_answered old new file (Err Full) (inl g) = let e = g.1 in absurd (cc)
put_answered old new file (Err Full) (inr g) =
    record { later = is_later old new _ _ g.2; gives = full_gives old new _ g.2; reply = tt }
put_answered old new file (Err KeeperFault) (inl g) = let e = g.1 in absurd (cc)
put_answered old new file (Err KeeperFault) (inr g) =
    record { later = is_later old new _ _ g.2; gives = fault_gives old new _ g.2; reply = tt }
put_answered old new file (Err (NoMemory short)) (inl g) =
    record { later = stays_later old new g.2; gives = still_keeps old new g.2; reply = tt }
put_answered old new file (Err (NoMemory short)) (inr g) =
    record { later = is_later old new _ _ g.2; gives = stop_keeps old new _ _ g.2; reply = tt }

-- ---- finds

-- a find leaves the files
find_left : (files : Files) (sought other : List ℕ) (b : Bool)
    → (if b then file_left (files other) (FindFile sought) else files other) ≡ files other
find_left files sought other true = refl
find_left files sought other false = refl

module _ (old new : CallerValue) (key : List ℕ) where
  pub missing_answered : (front : ℕ) → FindGives old new key (Ok (FindMissing front))
      → HasAnswered old new (FindFile key) (Ok (Mark not_found_mark))
  missing_answered front g =
      let h = g.0 in
      record {
        later = is_later old new (Finds key) (Ok Missing) h;
        reply = (no_files, refl);
        gives = (
          tt,
          λ files sole tied.
              let has = still_same old new (Finds key) (Ok Missing) h files tied.same key in
              let replied = replied_own old new (Finds key) Missing h tied.first sole in
              let none = missing_had new.view.blobs key (kept old.view.mine key) (files key) _ replied has in (
                ap (λ (o : Option (List ℕ)). reply_bytes (FindFile key) (file_reply o (FindFile key))) (sym none),
                tied_after old new (Finds key) Missing h tied.first sole files (FindFile key) tied.same refl has,
              ),
        );
      }

  pub found_answered : (ticket : List ℕ) (front : ℕ) (shown : Vec ℕ)
      → FindGives old new key (Ok (FindFound ticket front))
      → ((file : List ℕ) → IsBlobOf ticket file → shown.items ≡ file)
      → HasAnswered old new (FindFile key) (Ok (File shown))
  found_answered ticket front shown g shows =
      let h = g.1.0 in
      let suits = g.3 in
      let long : length shown.items ≡ length suits.file = ap length (shows suits.file suits.blob_is) in
      let short = suits.short in
      record {
        later = is_later old new (Finds key) (Ok (Found g.0)) h;
        reply = (all_have shown.items, refl);
        gives = (
          omega (arith, long, short),
          λ files sole tied.
              let has = still_same old new (Finds key) (Ok (Found g.0)) h files tied.same key in
              let replied = replied_own old new (Finds key) (Found g.0) h tied.first sole in
              let now = kept old.view.mine key in
              let had = had_some new.view.blobs key now (files key) g.0 (found_now now g.0 _ replied) has in
              let is : shown.items ≡ had.file = shows had.file (file_there new.view.blobs g.0 ticket had.file g.2 had.at) in (
                ap (λ (l : List ℕ). found_mark ∷ (big_bytes 4 (length l) ++ l)) is
                    ∙ ap (λ (o : Option (List ℕ)). reply_bytes (FindFile key) (file_reply o (FindFile key))) (sym had.is),
                tied_after old new (Finds key) (Found g.0) h tied.first sole files (FindFile key) tied.same refl has,
              ),
        );
      }

  -- a find whose file memory is out for
  pub unshown_answered : (ticket : List ℕ) (front : ℕ) (short : OutOfMemory)
      → FindGives old new key (Ok (FindFound ticket front))
      → HasAnswered old new (FindFile key) (Err (NoMemory short))
  unshown_answered ticket front short g =
      let h = g.1.0 in
      record {
        later = is_later old new (Finds key) (Ok (Found g.0)) h;
        reply = tt;
        gives = λ files sole tied.
            let has = still_same old new (Finds key) (Ok (Found g.0)) h files tied.same key in
            let after = tied_after old new (Finds key) (Found g.0) h tied.first sole files (FindFile key) tied.same refl has in
            record {
              first = after.first;
              same = λ other.
                  subst (λ (o : Option (List ℕ)). HasSame new.view.blobs other (kept new.view.mine other) o)
                  (find_left files key other (bytes_eq key other)) (after.same other);
            };
      }

  -- a find that stops
  pub find_stopped : (stop : Stop) → FindGives old new key (Err stop)
      → HasAnswered old new (FindFile key) (Err stop)
  find_stopped Full h = record { later = is_later old new _ _ h; gives = full_gives old new _ h; reply = tt }
  find_stopped Clash h = absurd h.answered.cause.1
  find_stopped KeeperFault h = record { later = is_later old new _ _ h; gives = fault_gives old new _ h; reply = tt }
  find_stopped (NoMemory short) h = record { later = is_later old new _ _ h; gives = stop_keeps old new _ _ h; reply = tt }

-- ---- removals

pub remove_answered : (old new : CallerValue) (key : List ℕ) (removal : Result RemoveAnswer Stop)
    → RemoveGives old new key removal → HasAnswered old new (RemoveFile key) (remove_answer removal)
remove_answered old new key (Ok (RemoveRemoved front)) g =
    let h = g.0 in
    record {
      later = is_later old new (Removes key) (Ok Removed) h;
      reply = (all_have [], refl);
      gives = (
        tt,
        λ files sole tied.
            let has = still_same old new (Removes key) (Ok Removed) h files tied.same key in
            let replied = replied_own old new (Removes key) Removed h tied.first sole in
            let some = removed_had new.view.blobs key (kept old.view.mine key) (files key) _ replied has in (
              ap (λ (o : Option (List ℕ)). reply_bytes (RemoveFile key) (file_reply o (RemoveFile key))) (sym some.1),
              tied_after old new (Removes key) Removed h tied.first sole files (RemoveFile key) tied.same refl tt,
            ),
      );
    }
remove_answered old new key (Ok (RemoveMissing front)) g =
    let h = g.0 in
    record {
      later = is_later old new (Removes key) (Ok Missing) h;
      reply = (no_files, refl);
      gives = (
        tt,
        λ files sole tied.
            let has = still_same old new (Removes key) (Ok Missing) h files tied.same key in
            let replied = replied_own old new (Removes key) Missing h tied.first sole in
            let none = gone_had new.view.blobs key (kept old.view.mine key) (files key) _ replied has in
            let own : HasSame new.view.blobs key (kept old.view.mine key) None =
            subst (λ (o : Option ℕ). HasSame new.view.blobs key o None) (sym none.0) tt in (
              ap (λ (o : Option (List ℕ)). reply_bytes (RemoveFile key) (file_reply o (RemoveFile key))) (sym none.1),
              tied_after old new (Removes key) Missing h tied.first sole files (RemoveFile key) tied.same refl own,
            ),
      );
    }
remove_answered old new key (Err Full) h = record { later = is_later old new _ _ h; gives = full_gives old new _ h; reply = tt }
remove_answered old new key (Err Clash) h = absurd h.answered.cause.1
remove_answered old new key (Err KeeperFault) h = record { later = is_later old new _ _ h; gives = fault_gives old new _ h; reply = tt }
remove_answered old new key (Err (NoMemory short)) h =
    record { later = is_later old new _ _ h; gives = stop_keeps old new _ _ h; reply = tt }
