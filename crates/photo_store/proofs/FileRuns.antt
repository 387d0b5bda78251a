-- A journal is a run of a map from keys to files.
use Rattle.std.proofs.Common.{◌≡◌, ℕ, Bool, true, false, List, [], ◌∷◌, ◌++◌, Option, Some, None, sym, ap, ◌∙◌, subst, refl}
use Rattle.std.specs.Prelude.{if◌then◌else◌, bytes_eq}
use Rattle.std.specs.List.{AllByRecursion}
use Rattle.std.proofs.lemmas.Slice.Eq.{bytes_eq-Decides}
use Rattle.blob_store.specs.declared.record.Call.{Call}
use Rattle.blob_store.specs.declared.record.Call.TheVariants.{Put, Find, Remove}
use Rattle.blob_store.specs.declared.record.Reply.{Reply}
use Rattle.blob_store.specs.declared.record.Reply.TheVariants.{Stored, Held, Found, Missing, Removed}
use Rattle.blob_store.specs.declared.record.Record.{Record}
use Rattle.blob_store.specs.Journals.{kept, kept_by, left_by, reply_to, stored_in, LegalAfter}
use Rattle.blob_store.specs.States.{StoredWell}
use Rattle.blob_store.proofs.JournalLaws.{kept_more}
use Rattle.photo_store.specs.FileEntries.{IsFileAt, IsEntry, AreEntries, AreSame, HasSame}
use Rattle.photo_store.specs.FileLaws.{JournalIsARun}
use Rattle.photo_store.specs.FileStores.{Files, FileCall, PutFile, FindFile, RemoveFile, FileReply, FileStored, FileHeld, FileFound, FileMissing, FileRemoved, IsRun, key_asked, file_reply, file_left, files_after, no_files}
use Rattle.photo_store.specs.Photos.{SuitsKey}

-- a list equals itself, byte by byte
pub bytes_same : (xs : List ℕ) → bytes_eq xs xs ≡ true
bytes_same xs = (bytes_eq-Decides xs xs).1 refl

module _ (blobs : List (List ℕ)) (before : List Record) (r : Record) (files : Files)
    (same : AreSame blobs before files) where
  by_key : (call : FileCall)
      → HasSame blobs r.key (left_by (kept before r.key) r.reply) (file_left (files r.key) call)
      → (key : List ℕ) (b : Bool) → (b ≡ true → r.key ≡ key)
      → HasSame blobs key (if b then left_by (kept before key) r.reply else kept before key)
      (if b then file_left (files key) call else files key)
  by_key call own key true is =
      subst (λ (k : List ℕ). HasSame blobs k (left_by (kept before k) r.reply)
      (file_left (files k) call)) (is refl) own
  by_key call own key false is = same key

  -- and after one entry more, if that is so for the entry's key
  pub same_after : (call : FileCall) → r.key ≡ key_asked call
      → HasSame blobs r.key (left_by (kept before r.key) r.reply) (file_left (files r.key) call)
      → AreSame blobs (before ++ r ∷ []) (files_after files call)
  same_after call key_is own key =
      subst (λ (now : Option ℕ). HasSame blobs key now (files_after files call key))
      (sym (kept_more before r key))
      (subst (λ (k : List ℕ). HasSame blobs key (kept_by key (kept before key) r)
      (if bytes_eq k key then file_left (files key) call else files key)) key_is
      (by_key call own key (bytes_eq r.key key) (bytes_eq-Decides r.key key).0))

-- an entry as a call with its reply
record Step (blobs : List (List ℕ)) (before : List Record) (r : Record) (files : Files) : Type 0 where
  call : FileCall
  reply : FileReply
  entry : IsEntry blobs r call reply
  key_is : r.key ≡ key_asked call
  replied : reply ≡ file_reply (files r.key) call
  own : HasSame blobs r.key (left_by (kept before r.key) r.reply) (file_left (files r.key) call)

module _ (blobs : List (List ℕ)) (before : List Record) (r : Record) (files : Files) where
  -- what a key has after a reply
  own_by : (now : Option ℕ) (held : Option (List ℕ)) (reply : Reply) (call : FileCall)
      → kept before r.key ≡ now → files r.key ≡ held → r.reply ≡ reply
      → HasSame blobs r.key (left_by now reply) (file_left held call)
      → HasSame blobs r.key (left_by (kept before r.key) r.reply) (file_left (files r.key) call)
  own_by now held reply call a b c h =
      subst (λ (x : Option ℕ). HasSame blobs r.key (left_by x r.reply) (file_left (files r.key) call)) (sym a)
      (subst (λ (x : Option (List ℕ)). HasSame blobs r.key (left_by now r.reply) (file_left x call)) (sym b)
      (subst (λ (x : Reply). HasSame blobs r.key (left_by now x) (file_left held call)) (sym c) h))

  step : (call : Call) (now : Option ℕ) (held : Option (List ℕ)) → r.call ≡ call
      → kept before r.key ≡ now → files r.key ≡ held
      → r.reply ≡ reply_to now call (stored_in before)
      → StoredWell SuitsKey blobs r.key r.reply → HasSame blobs r.key now held
      → Step blobs before r files
  step Put None None call now held reply well has =
      let stored = subst (λ (x : Reply). StoredWell SuitsKey blobs r.key x) reply well in
      let suits = stored.2 in
      let at : IsFileAt blobs (stored_in before) suits.file = (stored.0, stored.1, suits.blob_is) in
      record {
        call = PutFile suits.file;
        reply = FileStored;
        entry = (call, suits.key_is, (stored_in before, reply, at));
        key_is = suits.key_is;
        replied = ap (λ (x : Option (List ℕ)). file_reply x (PutFile suits.file)) (sym held);
        own = own_by None None (Stored (stored_in before)) (PutFile suits.file) now held reply
            (suits.key_is, at);
      }
  step Put (Some n) (Some file) call now held reply well has = record {
    call = PutFile file;
    reply = FileHeld;
    entry = (call, has.0, (n, reply, has.1));
    key_is = has.0;
    replied =
        ap (λ (b : Bool). if b then FileHeld else Rattle.photo_store.specs.FileStores.FileClash)
        (sym (bytes_same file))
        ∙ ap (λ (x : Option (List ℕ)). file_reply x (PutFile file)) (sym held);
    own = own_by (Some n) (Some file) (Held n) (PutFile file) now held reply has;
  }
  step Find None None call now held reply well has = record {
    call = FindFile r.key;
    reply = FileMissing;
    entry = (call, refl, reply);
    key_is = refl;
    replied = ap (λ (x : Option (List ℕ)). file_reply x (FindFile r.key)) (sym held);
    own = own_by None None Missing (FindFile r.key) now held reply tt;
  }
  step Find (Some n) (Some file) call now held reply well has = record {
    call = FindFile r.key;
    reply = FileFound file;
    entry = (call, refl, (n, reply, has.1));
    key_is = refl;
    replied = ap (λ (x : Option (List ℕ)). file_reply x (FindFile r.key)) (sym held);
    own = own_by (Some n) (Some file) (Found n) (FindFile r.key) now held reply has;
  }
  step Remove None None call now held reply well has = record {
    call = RemoveFile r.key;
    reply = FileMissing;
    entry = (call, refl, reply);
    key_is = refl;
    replied = ap (λ (x : Option (List ℕ)). file_reply x (RemoveFile r.key)) (sym held);
    own = own_by None None Missing (RemoveFile r.key) now held reply tt;
  }
  step Remove (Some n) (Some file) call now held reply well has = record {
    call = RemoveFile r.key;
    reply = FileRemoved;
    entry = (call, refl, reply);
    key_is = refl;
    replied = ap (λ (x : Option (List ℕ)). file_reply x (RemoveFile r.key)) (sym held);
    own = own_by (Some n) (Some file) Removed (RemoveFile r.key) now held reply tt;
  }
  step call None (Some file) is now held reply well has = absurd has
  step call (Some n) None is now held reply well has = absurd has

-- entries after others are a run from the map of these
run_from : (blobs : List (List ℕ)) (before rs : List Record) (files : Files) → LegalAfter before rs
    → AllByRecursion (λ (r : Record). StoredWell SuitsKey blobs r.key r.reply) rs
    → AreSame blobs before files
    → (calls : List (FileCall × FileReply)) × AreEntries blobs rs calls × IsRun files calls
run_from blobs before [] files legal well same = ([], tt, tt)
run_from blobs before (r ∷ rs) files legal well same =
    let s = step blobs before r files r.call (kept before r.key) (files r.key) refl refl refl
    legal.0 well.0 (same r.key) in
    let next = same_after blobs before r files same s.call s.key_is s.own in
    let rest = run_from blobs (before ++ r ∷ []) rs (files_after files s.call) legal.1 well.1 next in
    let replied = subst (λ (k : List ℕ). s.reply ≡ file_reply (files k) s.call) s.key_is s.replied in
    ((s.call, s.reply) ∷ rest.0, (s.entry, rest.1), (replied, rest.2))

pub journal_is_a_run : JournalIsARun
journal_is_a_run store sound =
    run_from store.blobs [] store.journal no_files sound.legal sound.well (λ key. tt)
