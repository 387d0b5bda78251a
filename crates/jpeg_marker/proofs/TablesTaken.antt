-- The tables of segments that passed their checks.
use Rattle.std.proofs.Common.{◌≡◌, ℕ, zero, suc, ◌+◌, ◌<◌, ◌≤◌, Bool, true, false, List, [], ◌∷◌, ◌++◌, length, get_or, take, drop, sum, filter, map, flat_map, Option, Some, None, IfSome, refl, arith, subst, cond, eqb, replicate, ◌*◌}
use Rattle.std.specs.List.{AllByRecursion}
use Rattle.std.proofs.lemmas.List.{length-take-le, length-drop}
use Rattle.std.proofs.lemmas.Bool.{leb-true, eqb-true}
use Rattle.std.proofs.lemmas.Bool.Decides.{nat_tests}
use Rattle.jpeg_marker.specs.MarkerSegments.{Segment, two_bytes, segment_text, last_of}
use Rattle.jpeg_marker.specs.HuffmanTables.{Table, TableFields, fields_at, tables_after, tables_in, tables_of, is_of, distinct, code_space}
use Rattle.jpeg_marker.specs.HeldTables.{table_in}
use Rattle.jpeg_marker.specs.Walks.{Walk}
use Rattle.jpeg_marker.specs.declared.definitions.Definitions.{Definitions}
use Rattle.jpeg_marker.specs.declared.scans.Scans.{Scans}
use Rattle.jpeg_marker.specs.TableFaults.{is_table, table_fault, tables_fault}
use Rattle.jpeg_marker.specs.GoodSegments.{IsGood, AreGoodAfter, length_place, body_fault, known_after}
use Rattle.jpeg_marker.specs.KnownBefore.{AreBytes, IsSound}
use Rattle.jpeg_marker.proofs.Repeats.{both_hold, IsDistinct-from_distinct}
use Rattle.jpeg_marker.proofs.FramesTaken.{no_fault}
use Rattle.jpeg_marker.proofs.Choices.{some_is_one}

-- parts of lists
pub bytes_first : (xs ys : List ℕ) → AreBytes (xs ++ ys) → AreBytes xs
bytes_first [] ys all = tt
bytes_first (x ∷ xs) ys all = (all.0, bytes_first xs ys all.1)

pub bytes_last : (xs ys : List ℕ) → AreBytes (xs ++ ys) → AreBytes ys
bytes_last [] ys all = all
bytes_last (x ∷ xs) ys all = bytes_last xs ys all.1

pub bytes_take : (n : ℕ) (xs : List ℕ) → AreBytes xs → AreBytes (take n xs)
bytes_take zero xs all = tt
bytes_take (suc n) [] all = tt
bytes_take (suc n) (x ∷ xs) all = (all.0, bytes_take n xs all.1)

bytes_drop : (n : ℕ) (xs : List ℕ) → AreBytes xs → AreBytes (drop n xs)
bytes_drop zero xs all = all
bytes_drop (suc n) [] all = tt
bytes_drop (suc n) (x ∷ xs) all = bytes_drop n xs all.1

-- a list of bytes, index by index
pub bytes_each : (xs : List ℕ) → ((i : ℕ) → get_or xs i 0 < 256) → AreBytes xs
bytes_each [] each = tt
bytes_each (x ∷ xs) each = (each 0, bytes_each xs (λ i. each (suc i)))

all-append : (P : Table → Type 0) (xs ys : List Table) → AllByRecursion P xs → AllByRecursion P ys → AllByRecursion P (xs ++ ys)
all-append P [] ys p q = q
all-append P (x ∷ xs) ys p q = (p.0, all-append P xs ys p.1 q)

-- what passed the checks of a table
record IsPassed (bytes : List ℕ) : Type 0 where
  long : 16 + sum (take 16 bytes) ≤ length bytes
  table : is_table (fields_at bytes) ≡ true

passed : (at place byte : ℕ) (bytes : List ℕ) → table_fault at place byte bytes ≡ None → IsPassed bytes
passed at place byte bytes none = record { long = grind (arith, nat_tests); table = grind (arith, nat_tests) }

sound_passed : (bytes : List ℕ) → AreBytes bytes → IsPassed bytes → IsSound (fields_at bytes)
sound_passed bytes all is =
    let parts = both_hold (distinct (fields_at bytes).values) _ is.table in
    let long = is.long in
    record {
      table = record {
        lengths = length-take-le 16 bytes (omega arith);
        whole = length-take-le (sum (take 16 bytes)) (drop 16 bytes) (omega (arith, length-drop 16 bytes));
        distinct_values = IsDistinct-from_distinct (fields_at bytes).values parts.0;
        space = leb-true (code_space (take 16 bytes)) 65536 parts.1;
      };
      bytes = bytes_take (sum (take 16 bytes)) (drop 16 bytes) (bytes_drop 16 bytes all);
    }

-- the tables of a segment
sound_after : (at place skipped : ℕ) (bytes : List ℕ) → AreBytes bytes → tables_fault at place skipped bytes ≡ None → AllByRecursion (λ (t : Table). IsSound t.fields) (tables_after skipped bytes)
sound_after at place skipped [] all none = tt
sound_after at place (suc skipped) (byte ∷ bytes) all none = sound_after at (place + 1) skipped bytes all.1 none
sound_after at place zero (byte ∷ bytes) all none =
    let parts = no_fault (table_fault at place byte bytes) _ none in
    (sound_passed bytes all.1 (passed at place byte bytes parts.0), sound_after at (place + 1) (16 + sum (take 16 bytes)) bytes all.1 parts.1)

-- what follows the length of each segment is bytes
abbrev pub BodiesAreBytes : List Segment → Type 0
BodiesAreBytes segments = AllByRecursion (λ (s : Segment). AreBytes s.body) segments

pub body_bytes : (s : Segment) → AreBytes (segment_text s) → AreBytes s.body
body_bytes s all = bytes_last (replicate (s.fill + 1) 255 ++ s.code ∷ two_bytes (length s.body + 2)) s.body all

pub bodies_are_bytes : (segments : List Segment) → AreBytes (flat_map segment_text segments) → BodiesAreBytes segments
bodies_are_bytes [] all = tt
bodies_are_bytes (s ∷ segments) all =
    (body_bytes s (bytes_first (segment_text s) (flat_map segment_text segments) all), bodies_are_bytes segments (bytes_last (segment_text s) (flat_map segment_text segments) all))

where_so : (P : Table → Type 0) (b : Bool) (xs : List Table) → (b ≡ true → AllByRecursion P xs) → AllByRecursion P (cond b xs [])
where_so P true xs h = h refl
where_so P false xs h = tt

put_where : (b : Bool) (t : Table) (tables : List Table) → IsSound t.fields → AllByRecursion (λ (u : Table). IsSound u.fields) tables → AllByRecursion (λ (u : Table). IsSound u.fields) (cond b (t ∷ tables) tables)
put_where true t tables one all = (one, all)
put_where false t tables one all = all

tables_checked : (scans : Scans) (known : Definitions) (at code : ℕ) (body : List ℕ) → code ≡ 196 → body_fault scans known at code body ≡ None → tables_fault at (at + 2) 0 body ≡ None
tables_checked scans known at code body is none = subst (λ (n : ℕ). body_fault scans known at n body ≡ None) is none

sound_in : (w : Walk) (before : List Segment) (s : Segment) → AreBytes s.body → IsGood w before s → AllByRecursion (λ (t : Table). IsSound t.fields) (tables_in s)
sound_in w before s all good =
    where_so (λ (t : Table). IsSound t.fields) (eqb s.code 196) (tables_after 0 s.body) (λ is. sound_after _ _ 0 s.body all (tables_checked w.scans (known_after w.known before) (length_place w before s) s.code s.body (eqb-true s.code 196 is) good.checked))

sound_of : (w : Walk) (before segments : List Segment) → AreGoodAfter w before segments → BodiesAreBytes segments → AllByRecursion (λ (t : Table). IsSound t.fields) (tables_of segments)
sound_of w before [] good all = tt
sound_of w before (s ∷ segments) good all =
    all-append (λ (t : Table). IsSound t.fields) (tables_in s) (tables_of segments) (sound_in w before s all.0 good.0) (sound_of w (before ++ s ∷ []) segments good.1 all.1)

-- what is kept of sound tables is sound
kept_sound : (keep : Table → Bool) (tables : List Table) → AllByRecursion (λ (t : Table). IsSound t.fields) tables → AllByRecursion (λ (t : Table). IsSound t.fields) (filter keep tables)
kept_sound keep [] all = tt
kept_sound keep (t ∷ tables) all = put_where (keep t) t (filter keep tables) all.0 (kept_sound keep tables all.1)

-- and so is the last one, or the one before
last_sound : (tables : List Table) (found : Option TableFields) → AllByRecursion (λ (u : Table). IsSound u.fields) tables → IfSome found IsSound → IfSome (last_of found (map (λ (u : Table). u.fields) tables)) IsSound
last_sound [] found all here = here
last_sound (u ∷ tables) found all here = last_sound tables (Some u.fields) all.1 all.0

-- a table that is kept
each_sound : (tables : List (Option TableFields)) (i : ℕ) → AllByRecursion (λ t. IfSome t IsSound) tables → IfSome (get_or tables i None) IsSound
each_sound [] i all = tt
each_sound (t ∷ tables) zero all = all.0
each_sound (t ∷ tables) (suc i) all = each_sound tables i all.1

if_some : {A : Type 0} (P : A → Type 0) (o : Option A) (x : A) → IfSome o P → o ≡ Some x → P x
if_some P None x all e = cc
if_some P (Some y) x all e = subst P (some_is_one y x e) all

pub table_sound : (tables : List (Option TableFields)) (class number : ℕ) (t : TableFields) → AllByRecursion (λ t. IfSome t IsSound) tables → table_in tables class number ≡ Some t → IsSound t
table_sound tables class number t all is = if_some IsSound (table_in tables class number) t (each_sound tables (4 * class + number) all) is

-- the tables that are known
pub known_sound : (w : Walk) (segments : List Segment) → AreGoodAfter w [] segments → BodiesAreBytes segments → AllByRecursion (λ t. IfSome t IsSound) w.known.tables → AllByRecursion (λ t. IfSome t IsSound) (known_after w.known segments).tables
known_sound w segments good all known =
    let one = λ (class number : ℕ). last_sound (filter (is_of class number) (tables_of segments)) (table_in w.known.tables class number) (kept_sound (is_of class number) (tables_of segments) (sound_of w [] segments good all)) (each_sound w.known.tables (4 * class + number) known) in
    (one 0 0, (one 0 1, (one 0 2, (one 0 3, (one 1 0, (one 1 1, (one 1 2, (one 1 3, tt))))))))
