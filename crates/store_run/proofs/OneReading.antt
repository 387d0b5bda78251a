-- An input has one reading.
use Rattle.std.proofs.Common.{◌≡◌, ◌≢◌, ◌⊎◌, inl, inr, ℕ, suc, ◌+◌, ◌<◌, ◌≤◌, ◌^◌, Bool, true, false, List, [], ◌∷◌, ◌++◌, length, take, drop, flat_map, Some, sym, ap, ap₂, ◌∙◌, subst, refl, append_assoc, append-nil, length-append, arith}
use Rattle.std.specs.Prelude.{if◌then◌else◌, nat_lt, ◌==◌}
use Rattle.std.specs.List.{AllByRecursion}
use Rattle.std.proofs.lemmas.Bool.{lt-ltb, le-ltb, ne_eqb, true≢false}
use Rattle.std.proofs.lemmas.List.{take_at, drop_at, append_cancel_left}
use Rattle.byteorder.specs.Endian.{big_bytes, big_number}
use Rattle.byteorder.specs.Numbers.{big_number-reads_back, length-bytes_high_first}
use Rattle.container_spec.specs.Limits.{most_of_a_file}
use Rattle.photo_store.specs.FileStores.{FileCall, PutFile, FindFile, RemoveFile}
use Rattle.store_run.specs.Records.{IsBad, IsCut, IsForeign, FitsRecord, find_mark, key_length, most_records, put_mark, record_bytes, remove_mark}
use Rattle.store_run.specs.RecordLaws.{EndsBy, OneReading}
use Rattle.store_run.specs.declared.ending.Ending.{Ending}
use Rattle.store_run.specs.declared.ending.Ending.TheVariants.{Answered, BadRecord, ReadFailed, WriteFailed, NoMemory, KeeperFailed, Full}

-- how bytes begin: with a record, and what is after it; or with a bad one
data Front : Type 0 where
  Begins : FileCall → List ℕ → Front
  Breaks : List ℕ → Front

-- what is read after a put's first byte, by its length
front_file : ℕ → List ℕ → Front
front_file long bytes =
    if nat_lt most_of_a_file long then Breaks (put_mark ∷ take 4 bytes)
    else if nat_lt (length (drop 4 bytes)) long then Breaks (put_mark ∷ bytes)
    else Begins (PutFile (take long (drop 4 bytes))) (drop long (drop 4 bytes))

front_put : List ℕ → Front
front_put bytes =
    if nat_lt (length bytes) 4 then Breaks (put_mark ∷ bytes)
    else front_file (big_number 4 bytes) bytes

front_key : (List ℕ → FileCall) → ℕ → List ℕ → Front
front_key call mark bytes =
    if nat_lt (length bytes) key_length then Breaks (mark ∷ bytes)
    else Begins (call (take key_length bytes)) (drop key_length bytes)

front : List ℕ → Front
front [] = Breaks []
front (mark ∷ bytes) =
    if mark == put_mark then front_put bytes
    else if mark == find_mark then front_key FindFile mark bytes
    else if mark == remove_mark then front_key RemoveFile mark bytes
    else Breaks (mark ∷ [])

-- ---- with a whole record

field_long : (n : ℕ) → length (big_bytes 4 n) ≡ 4
field_long n = length-bytes_high_first 4 n

put_front : (file tail : List ℕ) → length file ≤ most_of_a_file
    → front_put ((big_bytes 4 (length file) ++ file) ++ tail) ≡ Begins (PutFile file) tail
unfolding front_put front_file
put_front file tail few =
    let field = big_bytes 4 (length file) in
    let apart = append_assoc field file tail in
    let long = length-append field (file ++ tail) in
    let more = length-append file tail in
    let first = field_long (length file) in
    let number = big_number-reads_back 4 (length file) (file ++ tail) (omega arith) in
    let after = drop_at field (file ++ tail) 4 first in
    rw (
      apart,
      le-ltb (length (field ++ (file ++ tail))) 4 (omega (arith, long, first)),
      number,
      le-ltb most_of_a_file (length file) few,
      after,
      le-ltb (length (file ++ tail)) (length file) (omega (arith, more)),
      take_at file tail (length file) refl,
      drop_at file tail (length file) refl,
    ) refl

key_front : (call : List ℕ → FileCall) (mark : ℕ) (key tail : List ℕ) → length key ≡ key_length
    → front_key call mark (key ++ tail) ≡ Begins (call key) tail
unfolding front_key
key_front call mark key tail is =
    rw (
      le-ltb (length (key ++ tail)) key_length (omega (arith, length-append key tail, is)),
      take_at key tail key_length is,
      drop_at key tail key_length is,
    ) refl

record_front : (call : FileCall) (tail : List ℕ) → FitsRecord call
    → front (record_bytes call ++ tail) ≡ Begins call tail
unfolding front
record_front (PutFile file) tail whole = put_front file tail whole
record_front (FindFile key) tail whole = key_front FindFile find_mark key tail whole
record_front (RemoveFile key) tail whole = key_front RemoveFile remove_mark key tail whole

-- ---- with a bad one

foreign_mark : (mark : ℕ) (after : List ℕ) → mark ≢ put_mark → mark ≢ find_mark
    → mark ≢ remove_mark → front (mark ∷ after) ≡ Breaks (mark ∷ [])
unfolding front
foreign_mark mark after a b c =
    rw (ne_eqb mark put_mark a, ne_eqb mark find_mark b, ne_eqb mark remove_mark c) refl

foreign_length : (long : ℕ) (after : List ℕ) → most_of_a_file < long → long < 2 ^ 32
    → front_put (big_bytes 4 long ++ after) ≡ Breaks (put_mark ∷ big_bytes 4 long)
unfolding front_put front_file
foreign_length long after more fits =
    let field = big_bytes 4 long in
    let first = field_long long in
    rw (
      le-ltb (length (field ++ after)) 4 (omega (arith, length-append field after, first)),
      big_number-reads_back 4 long after fits,
      lt-ltb most_of_a_file long more,
      take_at field after 4 first,
    ) refl

cut_length : (part : List ℕ) → length part < 4 → front_put part ≡ Breaks (put_mark ∷ part)
unfolding front_put
cut_length part short = rw (lt-ltb (length part) 4 short) refl

cut_file : (full : ℕ) (part : List ℕ) → full ≤ most_of_a_file → length part < full
    → front_put (big_bytes 4 full ++ part) ≡ Breaks (put_mark ∷ (big_bytes 4 full ++ part))
unfolding front_put front_file
cut_file full part few short =
    let field = big_bytes 4 full in
    let first = field_long full in
    rw (
      le-ltb (length (field ++ part)) 4 (omega (arith, length-append field part, first)),
      big_number-reads_back 4 full part (omega arith),
      le-ltb most_of_a_file full few,
      drop_at field part 4 first,
      lt-ltb (length part) full short,
    ) refl

cut_key : (call : List ℕ → FileCall) (mark : ℕ) (part : List ℕ) → length part < key_length
    → front_key call mark part ≡ Breaks (mark ∷ part)
unfolding front_key
cut_key call mark part short = rw (lt-ltb (length part) key_length short) refl

cut_front : (bytes : List ℕ) → IsCut bytes → front bytes ≡ Breaks bytes
unfolding front
cut_front bytes (inl (part, is, short)) = rw is (cut_length part short)
cut_front bytes (inr (inl (full, part, is, few, short))) = rw is (cut_file full part few short)
cut_front bytes (inr (inr (mark, part, is, inl find, short))) =
    rw (is, find) (cut_key FindFile find_mark part short)
cut_front bytes (inr (inr (mark, part, is, inr remove, short))) =
    rw (is, remove) (cut_key RemoveFile remove_mark part short)

foreign_front : (bytes after : List ℕ) → IsForeign bytes → front (bytes ++ after) ≡ Breaks bytes
unfolding front
foreign_front bytes after (inl (mark, is, a, b, c)) = rw is (foreign_mark mark after a b c)
foreign_front bytes after (inr (long, is, more, fits)) = rw is (foreign_length long after more fits)

bad_front : (bytes after : List ℕ) → IsBad bytes (Some after)
    → front (bytes ++ after) ≡ Breaks bytes
bad_front bytes after (inl foreign) = foreign_front bytes after foreign
bad_front bytes after (inr (cut, end)) =
    rw (end, append-nil) (cut_front bytes cut)

-- ---- so records are read one way

call_in : FileCall → Front → FileCall
call_in call (Begins c tail) = c
call_in call (Breaks bytes) = call

tail_in : List ℕ → Front → List ℕ
tail_in other (Begins c tail) = tail
tail_in other (Breaks bytes) = other

bytes_in : List ℕ → Front → List ℕ
bytes_in other (Begins c tail) = other
bytes_in other (Breaks bytes) = bytes

begins : Front → Bool
begins (Begins c tail) = true
begins (Breaks bytes) = false

-- no record begins there, or there were the most
IsStuck : ℕ → List ℕ → Type 0
IsStuck count bytes = (begins (front bytes) ≡ false) ⊎ (count ≡ most_records)

none_there : (call : FileCall) (calls : List FileCall) (bytes tail : List ℕ) (count : ℕ)
    → FitsRecord call → bytes ≡ flat_map record_bytes (call ∷ calls) ++ tail
    → IsStuck count bytes → count < most_records → ⊥
unfolding IsStuck begins
none_there call calls bytes tail count whole is (inr most) few = omega (arith, most, few)
none_there call calls bytes tail count whole is (inl none) few =
    let split = is ∙ append_assoc (record_bytes call) (flat_map record_bytes calls) tail in
    let there = ap front split ∙ record_front call (flat_map record_bytes calls ++ tail) whole in
    absurd (true≢false (sym (ap begins there) ∙ none))

same_records : (records others : List FileCall) (tail end : List ℕ) (count : ℕ)
    → AllByRecursion FitsRecord records → AllByRecursion FitsRecord others
    → flat_map record_bytes records ++ tail ≡ flat_map record_bytes others ++ end
    → IsStuck (count + length records) tail → IsStuck (count + length others) end
    → count + length records ≤ most_records → count + length others ≤ most_records
    → (records ≡ others) × (tail ≡ end)
unfolding tail_in call_in
same_records [] [] tail end count a b is p q few less = (refl, is)
same_records [] (c ∷ cs) tail end count a b is p q few less =
    absurd (none_there c cs tail end (count + 0) b.0 is p (omega (arith, less)))
same_records (c ∷ cs) [] tail end count a b is p q few less =
    absurd (none_there c cs end tail (count + 0) a.0 (sym is) q (omega (arith, few)))
same_records (c ∷ cs) (d ∷ ds) tail end count a b is p q few less =
    let first = record_front c (flat_map record_bytes cs ++ tail) a.0 in
    let second = record_front d (flat_map record_bytes ds ++ end) b.0 in
    let split = sym (append_assoc (record_bytes c) (flat_map record_bytes cs) tail) ∙ is
    ∙ append_assoc (record_bytes d) (flat_map record_bytes ds) end in
    let same = sym first ∙ ap front split ∙ second in
    let more : count + suc (length cs) ≡ suc count + length cs = omega arith in
    let others : count + suc (length ds) ≡ suc count + length ds = omega arith in
    let rest = same_records cs ds tail end (suc count) a.1 b.1 (ap (tail_in []) same)
    (subst (λ (n : ℕ). IsStuck n tail) more p) (subst (λ (n : ℕ). IsStuck n end) others q)
    (omega (arith, few)) (omega (arith, less)) in
    (ap₂ (λ (x : FileCall) (xs : List FileCall). x ∷ xs) (ap (call_in c) same) rest.0, rest.1)

-- ---- and end one way

few_read : (count : ℕ) (rest after : List ℕ) (ending : Ending) → EndsBy count rest after ending
    → count ≤ most_records
few_read count rest after Answered e = e.2
few_read count rest after BadRecord e = omega (arith, e.1)
few_read count rest after Full e = omega (arith, e.1)
few_read count rest after ReadFailed e = absurd e
few_read count rest after WriteFailed e = absurd e
few_read count rest after (NoMemory short) e = absurd e
few_read count rest after KeeperFailed e = absurd e

stuck_there : (count : ℕ) (rest after : List ℕ) (ending : Ending)
    → EndsBy count rest after ending → IsStuck count (rest ++ after)
unfolding IsStuck front begins
stuck_there count rest after Answered e = inl (rw (e.0, e.1) refl)
stuck_there count rest after BadRecord e = inl (ap begins (bad_front rest after e.0))
stuck_there count rest after Full e = inr e.1
stuck_there count rest after ReadFailed e = absurd e
stuck_there count rest after WriteFailed e = absurd e
stuck_there count rest after (NoMemory short) e = absurd e
stuck_there count rest after KeeperFailed e = absurd e

-- a bad record has a byte
bad_long : (bytes after : List ℕ) → IsBad bytes (Some after) → 0 < length bytes
bad_long bytes after (inl (inl (mark, is, a, b, c))) = rw is (omega arith)
bad_long bytes after (inl (inr (long, is, a, b))) = rw is (omega arith)
bad_long bytes after (inr (inl (part, is, p), end)) = rw is (omega arith)
bad_long bytes after (inr (inr (inl (full, part, is, a, b)), end)) = rw is (omega arith)
bad_long bytes after (inr (inr (inr (mark, part, is, a, b)), end)) = rw is (omega arith)

module _ (count : ℕ) (rest end after left : List ℕ)
    (same : rest ++ after ≡ end ++ left) where
  long : length rest + length after ≡ length end + length left
  long = sym (length-append rest after) ∙ ap length same ∙ length-append end left

  Agree : Ending → Ending → Type 0
  Agree ending other = (rest ≡ end) × (after ≡ left) × (ending ≡ other)

  when_rest : (ending other : Ending) → rest ≡ end → ending ≡ other → Agree ending other
  unfolding Agree
  when_rest ending other is e =
      (is, append_cancel_left end after left (ap (λ (l : List ℕ). l ++ after) (sym is) ∙ same), e)

  same_ending : (ending other : Ending) → EndsBy count rest after ending
      → EndsBy count end left other → Agree ending other
  unfolding bytes_in
  same_ending Answered Answered a b = when_rest Answered Answered (a.0 ∙ sym b.0) refl
  same_ending Answered BadRecord a b =
      absurd (omega (arith, long, ap length a.0, ap length a.1, bad_long end left b.0))
  same_ending Answered Full a b =
      absurd (omega (arith, long, ap length a.0, ap length a.1, ap length b.0.1))
  same_ending BadRecord Answered a b =
      absurd (omega (arith, long, ap length b.0, ap length b.1, bad_long rest after a.0))
  same_ending BadRecord BadRecord a b =
      let e = sym (bad_front rest after a.0) ∙ ap front same ∙ bad_front end left b.0 in
      when_rest BadRecord BadRecord (ap (bytes_in []) e) refl
  same_ending BadRecord Full a b = absurd (omega (arith, a.1, b.1))
  same_ending Full Answered a b =
      absurd (omega (arith, long, ap length b.0, ap length b.1, ap length a.0.1))
  same_ending Full BadRecord a b = absurd (omega (arith, a.1, b.1))
  same_ending Full Full a b =
      let split = ap (λ (l : List ℕ). l ++ after) (sym a.0.1) ∙ same
      ∙ ap (λ (l : List ℕ). l ++ left) b.0.1 in
      when_rest Full Full
      (a.0.1 ∙ ap (take 1) split ∙ sym b.0.1) refl
  same_ending Full ReadFailed a b = absurd b
  same_ending Full WriteFailed a b = absurd b
  same_ending Full (NoMemory short) a b = absurd b
  same_ending Full KeeperFailed a b = absurd b
  same_ending Answered ReadFailed a b = absurd b
  same_ending Answered WriteFailed a b = absurd b
  same_ending Answered (NoMemory short) a b = absurd b
  same_ending Answered KeeperFailed a b = absurd b
  same_ending BadRecord ReadFailed a b = absurd b
  same_ending BadRecord WriteFailed a b = absurd b
  same_ending BadRecord (NoMemory short) a b = absurd b
  same_ending BadRecord KeeperFailed a b = absurd b
  same_ending ReadFailed other a b = absurd a
  same_ending WriteFailed other a b = absurd a
  same_ending (NoMemory short) other a b = absurd a
  same_ending KeeperFailed other a b = absurd a

pub one_reading : OneReading
unfolding Agree
one_reading input records others rest end after left ending other p q =
    let few = few_read (length records) rest after ending p.ends in
    let less = few_read (length others) end left other q.ends in
    let first : length records ≡ 0 + length records = omega arith in
    let second : length others ≡ 0 + length others = omega arith in
    let same = same_records records others (rest ++ after) (end ++ left) 0 p.whole q.whole
    (sym p.is ∙ q.is)
    (subst (λ (n : ℕ). IsStuck n (rest ++ after)) first
    (stuck_there (length records) rest after ending p.ends))
    (subst (λ (n : ℕ). IsStuck n (end ++ left)) second
    (stuck_there (length others) end left other q.ends))
    (omega (arith, few)) (omega (arith, less)) in
    let count = ap (λ (l : List FileCall). length l) same.0 in
    let ends = same_ending (length records) rest end after left same.1 ending other p.ends
    (subst (λ (n : ℕ). EndsBy n end left other) (sym count) q.ends) in
    (same.0, ends.0, ends.1, ends.2)
