-- MCUs read after others are read with them.
use Rattle.std.proofs.Common.{◌≡◌, ℕ, zero, suc, ◌+◌, ◌-◌, ◌≤◌, Bool, true, false, ◌==◌, if◌then◌else◌, List, [], ◌∷◌, ◌++◌, refl, ap, ◌∙◌, sym, subst, arith}
use Rattle.std.specs.Prelude.{ℤ, Option, None, Result, Ok, Err}
use Rattle.bit_list.specs.Units.{Cursor, starting}
use Rattle.scan_spec.specs.Slots.{Shape}
use Rattle.scan_spec.specs.Scans.{no_dcs}
use Rattle.scan_spec.specs.Spots.{is_closed, interval_number}
use Rattle.scan_spec.specs.ScanCalls.{ScanReader, McuIsRead, McuIsReadOn}
use Rattle.scan_spec.specs.ScanReading.{Standing, BlocksRead, and_then, after_mcu, after_pads, pads_at, mcu_at, mcus_at}
use Rattle.scan_spec.specs.ScanSymbols.{restart_at}
use Rattle.scan_spec.specs.declared.refusal.ScanRefusal.{ScanRefusal}
use Rattle.scan_spec.proofs.BitsTaken.{then_fine, is_fine, both_fine}
use Rattle.scan_spec.proofs.ScanTaken.{mcu_fine, mcus_fine, no_mcus}
use Rattle.segment_code.specs.CodedMcus.{McusRead, AreReadOn, next_of}

-- an MCU more is counted
closed_count : (shape : Shape) (bytes : List ℕ) (count : ℕ) (padded : Option Bool × Cursor)
    (next : Standing) → after_pads shape bytes count padded ≡ Ok next → next.count ≡ count + 1
closed_count shape bytes count padded next e =
    elim (count + 1 == shape.mcus) as (λ t. (if t then Ok
    (record { cursor = padded.1; before = no_dcs; count = count + 1; pad = padded.0 })
    else and_then (restart_at bytes (interval_number shape count) padded.1.next)
    (λ place. Ok (record {
      cursor = starting place 0;
      before = no_dcs;
      count = count + 1;
      pad =
          padded.0;
    }))) ≡ Ok next → next.count ≡ count + 1) [
      | true ↦ λ h. sym (ap (λ (s : Standing). s.count) (is_fine _ next h))
      | false ↦ λ h. let p = then_fine (restart_at bytes (interval_number shape count)
          padded.1.next) _ next h in sym (ap (λ (s : Standing). s.count) (is_fine _ next p.2))
    ] e

count_after : (shape : Shape) (bytes : List ℕ) (at next : Standing) (read : BlocksRead)
    → after_mcu shape bytes at read ≡ Ok next → next.count ≡ at.count + 1
count_after shape bytes at next read e = elim (is_closed shape (at.count + 1)) as
    (λ t. (if t then and_then (pads_at read.cursor) (after_pads shape bytes at.count)
    else Ok (record {
      cursor = read.cursor;
      before = read.before;
      count = at.count + 1;
      pad = None;
    }))
    ≡ Ok next → next.count ≡ at.count + 1) [
      | true ↦ λ h. let p = then_fine (pads_at read.cursor) (after_pads shape bytes at.count)
          next h in closed_count shape bytes at.count p.0 next p.2
      | false ↦ λ h. sym (ap (λ (s : Standing). s.count) (is_fine _ next h))
    ] e

pub one_counted : (shape : Shape) (bytes : List ℕ) (at next : Standing) (blocks : List (List ℤ))
    → mcu_at shape bytes at ≡ Ok (blocks, next) → next.count ≡ at.count + 1
one_counted shape bytes at next blocks e = let f = mcu_fine shape bytes at (blocks, next) e in
    count_after shape bytes at next f.read f.after

-- and so are several
pub all_counted : (n : ℕ) (shape : Shape) (bytes : List ℕ) (at end : Standing)
    (mcus : List (List (List ℤ))) → mcus_at n shape bytes at ≡ Ok (mcus, end)
    → end.count ≡ at.count + n
all_counted zero shape bytes at end mcus e =
    let same = both_fine ([], at) (mcus, end) (sym (no_mcus shape bytes at) ∙ e) in
    let count = ap (λ (s : Standing). s.count) same.1 in
    omega (arith, count)
all_counted (suc n) shape bytes at end mcus e =
    let f = mcus_fine n shape bytes at (mcus, end) e in
    let one = one_counted shape bytes at f.next f.first f.one in
    let more = all_counted n shape bytes f.next end f.more f.others in
    omega (arith, one, more)

-- with others before them
abbrev pub after_others : List (List (List ℤ)) → McusRead → McusRead
after_others others rest = and_then rest (λ more. Ok (others ++ more.0, more.1))

none_before : (rest : McusRead) → rest ≡ after_others [] rest
none_before (Ok more) = refl
none_before (Err refusal) = refl

one_before : (first : List (List ℤ)) (others : List (List (List ℤ))) (rest : McusRead)
    → and_then (after_others others rest) (λ more. Ok (first ∷ more.0, more.1))
    ≡ after_others (first ∷ others) rest
one_before first others (Ok more) = refl
one_before first others (Err refusal) = refl

first_of : (n : ℕ) (shape : Shape) (bytes : List ℕ) (at next : Standing) (first : List (List ℤ))
    → mcu_at shape bytes at ≡ Ok (first, next)
    → mcus_at (suc n) shape bytes at ≡ and_then (mcus_at n shape bytes next)
    (λ more. Ok (first ∷ more.0, more.1))
unfolding mcus_at
first_of n shape bytes at next first e = rw e refl

-- MCUs after others come to what they come to alone
pub joined : (n k : ℕ) (shape : Shape) (bytes : List ℕ) (at mid : Standing)
    (others : List (List (List ℤ))) → mcus_at n shape bytes at ≡ Ok (others, mid)
    → mcus_at (n + k) shape bytes at ≡ after_others others (mcus_at k shape bytes mid)
joined zero k shape bytes at mid others e =
    let same = both_fine ([], at) (others, mid) (sym (no_mcus shape bytes at) ∙ e) in
    let sum : 0 + k ≡ k = omega arith in
    ap (λ (m : ℕ). mcus_at m shape bytes at) sum ∙ none_before (mcus_at k shape bytes at)
    ∙ ap (λ (s : Standing). after_others [] (mcus_at k shape bytes s)) same.1
    ∙ ap (λ (xs : List (List (List ℤ))). after_others xs (mcus_at k shape bytes mid)) same.0
joined (suc n) k shape bytes at mid others e =
    let f = mcus_fine n shape bytes at (others, mid) e in
    let sum : suc n + k ≡ suc (n + k) = omega arith in
    ap (λ (m : ℕ). mcus_at m shape bytes at) sum
    ∙ first_of (n + k) shape bytes at f.next f.first f.one
    ∙ ap (λ (r : McusRead). and_then r (λ more. Ok (f.first ∷ more.0, more.1)))
    (joined n k shape bytes f.next mid f.more f.others)
    ∙ one_before f.first f.more (mcus_at k shape bytes mid)
    ∙ ap (λ (xs : List (List (List ℤ))). after_others xs (mcus_at k shape bytes mid))
    (sym f.same)

-- one MCU, or its refusal, as a list
one_read : (shape : Shape) (bytes : List ℕ) (at next : Standing) (first : List (List ℤ))
    → mcu_at shape bytes at ≡ Ok (first, next) → mcus_at 1 shape bytes at ≡ Ok (first ∷ [], next)
one_read shape bytes at next first e = first_of 0 shape bytes at next first e
    ∙ ap (λ (r : McusRead). and_then r (λ more. Ok (first ∷ more.0, more.1)))
    (no_mcus shape bytes next)

-- a refusal stays, however many come after it
then_refused : {A B C : Type 0} (r : Result A ScanRefusal) (f : A → Result B ScanRefusal)
    (g : A → Result C ScanRefusal) (e : ScanRefusal) → ((x : A) → f x ≡ Err e → g x ≡ Err e)
    → and_then r f ≡ Err e → and_then r g ≡ Err e
then_refused (Ok x) f g e each is = each x is
then_refused (Err refusal) f g e each is = let same : refusal ≡ e = cc in ap (λ r. Err r) same

rest_refused : {A B : Type 0} (r : Result A ScanRefusal) (f : A → B) (e : ScanRefusal)
    → and_then {B = B} r (λ x. Ok (f x)) ≡ Err e → r ≡ Err e
rest_refused (Ok x) f e is = cc
rest_refused (Err refusal) f e is = let same : refusal ≡ e = cc in ap (λ r. Err r) same

refused_longer : (n more : ℕ) (shape : Shape) (bytes : List ℕ) (at : Standing) (e : ScanRefusal)
    → mcus_at n shape bytes at ≡ Err e → mcus_at (n + more) shape bytes at ≡ Err e
unfolding mcus_at
refused_longer zero more shape bytes at e is = cc
refused_longer (suc n) more shape bytes at e is =
    let sum : suc n + more ≡ suc (n + more) = omega arith in
    ap (λ (m : ℕ). mcus_at m shape bytes at) sum
    ∙ then_refused (mcu_at shape bytes at) (λ first. and_then {B = List (List (List ℤ)) × Standing}
    (mcus_at n shape bytes first.1) (λ rest. Ok (first.0 ∷ rest.0, rest.1)))
    (λ first. and_then {B = List (List (List ℤ)) × Standing}
    (mcus_at (n + more) shape bytes first.1) (λ rest. Ok (first.0 ∷ rest.0, rest.1))) e
    (λ first h. ap (λ (r : McusRead). and_then r (λ rest. Ok (first.0 ∷ rest.0, rest.1)))
    (refused_longer n more shape bytes first.1 e
    (rest_refused (mcus_at n shape bytes first.1) (λ rest. (first.0 ∷ rest.0, rest.1)) e h))) is

one_refused : (shape : Shape) (bytes : List ℕ) (at : Standing) (refusal : ScanRefusal)
    → mcu_at shape bytes at ≡ Err refusal → mcus_at 1 shape bytes at ≡ Err refusal
unfolding mcus_at
one_refused shape bytes at refusal e = rw e refl

-- a reader has read none yet
pub none_read : (reader : ScanReader) → AreReadOn 0 reader reader []
none_read reader = record { read = no_mcus reader.shape reader.bytes reader.at; same = refl }

-- what a reader keeps
pub record Keeps (old new : ScanReader) : Type 0 where
  pub shape : new.shape ≡ old.shape
  pub bytes : new.bytes ≡ old.bytes
  pub stop : new.stop ≡ old.stop

pub keeps : (old new : ScanReader) → new ≡ record old { at = new.at } → Keeps old new
keeps old new e = record {
  shape = ap (λ (r : ScanReader). r.shape) e;
  bytes =
      ap (λ (r : ScanReader). r.bytes) e;
  stop = ap (λ (r : ScanReader). r.stop) e;
}

-- one that came to no refusal reads on
pub reads_on : {A : Type 0} (reader next : ScanReader) (result : Result A ScanRefusal)
    (out : List (List ℤ)) → reader.stop ≡ None → McuIsRead reader.stop reader result next out
    → McuIsReadOn reader result next out
reads_on reader next result out none is = subst
    (λ (stop : Option ScanRefusal). McuIsRead stop reader result next out) none is

same_on : (a b c : ScanReader) → b ≡ record a { at = b.at } → c ≡ record b { at = c.at }
    → c ≡ record a { at = c.at }
same_on a b c e f = f ∙ ap (λ (r : ScanReader). record r { at = c.at }) e

-- what comes of MCUs after a reader's last one
pub after_read : (n k : ℕ) (old reader : ScanReader) (others : List (List (List ℤ)))
    → AreReadOn n old reader others → next_of (n + k) old ≡ after_others others (next_of k reader)
after_read n k old reader others so =
    let kept = keeps old reader so.same in
    joined n k old.shape old.bytes old.at reader.at others so.read
    ∙ ap (λ (r : McusRead). after_others others r) (rw (sym kept.shape, sym kept.bytes) refl)

pub read_more : (n k : ℕ) (old reader next : ScanReader) (others more : List (List (List ℤ)))
    → AreReadOn n old reader others → AreReadOn k reader next more
    → AreReadOn (n + k) old next (others ++ more)
read_more n k old reader next others more so on =
    record {
      read = after_read n k old reader others so
          ∙ ap (λ (r : McusRead). after_others others r) on.read;
      same =
          same_on old reader next so.same on.same;
    }

-- an MCU more
pub one_more : (n : ℕ) (old reader next : ScanReader) (others : List (List (List ℤ)))
    (first : List (List ℤ)) → AreReadOn n old reader others
    → mcu_at reader.shape reader.bytes reader.at ≡ Ok (first, next.at)
    → next ≡ record reader { at = next.at } → AreReadOn (n + 1) old next (others ++ first ∷ [])
one_more n old reader next others first so read same =
    read_more n 1 old reader next others (first ∷ []) so
    (record {
      read = one_read reader.shape reader.bytes reader.at next.at first read;
      same =
          same;
    })

-- a refusal after others is that of as many as reach it
pub refused_in : (n k count : ℕ) (old reader : ScanReader) (others : List (List (List ℤ)))
    (refusal : ScanRefusal) → AreReadOn n old reader others → n + k ≤ count
    → next_of k reader ≡ Err refusal → next_of count old ≡ Err refusal
refused_in n k count old reader others refusal so most is =
    let more = count - (n + k) in
    let sum : count ≡ n + k + more = omega (arith, most) in
    ap (λ (m : ℕ). next_of m old) sum
    ∙ refused_longer (n + k) more old.shape old.bytes old.at refusal
    (after_read n k old reader others so ∙ ap (λ (r : McusRead). after_others others r) is)

pub refused_on : (n count : ℕ) (old reader : ScanReader) (others : List (List (List ℤ)))
    (refusal : ScanRefusal) → AreReadOn n old reader others → n + 1 ≤ count
    → mcu_at reader.shape reader.bytes reader.at ≡ Err refusal
    → next_of count old ≡ Err refusal
refused_on n count old reader others refusal so most is =
    refused_in n 1 count old reader others refusal so most
    (one_refused reader.shape reader.bytes reader.at refusal is)

-- as many are counted
pub count_on : (n : ℕ) (old reader : ScanReader) (mcus : List (List (List ℤ)))
    → AreReadOn n old reader mcus → reader.at.count ≡ old.at.count + n
count_on n old reader mcus so = all_counted n old.shape old.bytes old.at reader.at mcus so.read
