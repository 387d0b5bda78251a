-- Tables that come one after the other, in a segment and over segments.
use Rattle.std.proofs.Common.{◌≡◌, ℕ, zero, suc, ◌+◌, ◌*◌, ◌/◌, ◌%◌, ◌<◌, ◌≤◌, Bool, true, false, List, [], ◌∷◌, ◌++◌, length, take, drop, set, sum, filter, map, Option, Some, None, refl, ap, sym, ◌∙◌, arith, append_assoc, cond}
use Rattle.std.specs.Option.{option_or}
use Rattle.std.proofs.lemmas.List.{get_or-set_other, length-set, append-nil, map-append}
use Rattle.std.proofs.lemmas.List.Elements.{filter-append}
use Rattle.std.proofs.lemmas.Bool.Decides.{nat_tests}
use Rattle.std.proofs.lemmas.Grind.{get_or-set_at, fold-append}
use Rattle.jpeg_marker.specs.MarkerSegments.{last_of}
use Rattle.jpeg_marker.specs.HuffmanTables.{Table, TableFields, fields_at, tables_after, is_of, latest}
use Rattle.jpeg_marker.specs.TableFaults.{table_fault, tables_fault}
use Rattle.jpeg_marker.specs.HeldTables.{table_in, eight_tables, tables_kept}

-- bytes that are skipped first
tables_after-drop : (skipped : ℕ) (bytes : List ℕ) → tables_after skipped bytes ≡ tables_after 0 (drop skipped bytes)
tables_after-drop zero bytes = refl
tables_after-drop (suc skipped) [] = refl
tables_after-drop (suc skipped) (byte ∷ bytes) = tables_after-drop skipped bytes

tables_fault-drop : (at place skipped : ℕ) (bytes : List ℕ) → skipped ≤ length bytes → tables_fault at place skipped bytes ≡ tables_fault at (place + skipped) 0 (drop skipped bytes)
tables_fault-drop at place zero bytes h = ap (λ p. tables_fault at p 0 bytes) (omega arith)
tables_fault-drop at place (suc skipped) [] h = absurd (omega arith)
tables_fault-drop at place (suc skipped) (byte ∷ bytes) h = tables_fault-drop at (place + 1) skipped bytes (omega arith) ∙ ap (λ p. tables_fault at p 0 (drop skipped bytes)) (omega arith)

-- one table, and those after it
pub tables_fault-more : (at place byte n : ℕ) (bytes : List ℕ) → table_fault at place byte bytes ≡ None → n ≡ 16 + sum (take 16 bytes) → n ≤ length bytes → tables_fault at (place + (1 + n)) 0 (drop n bytes) ≡ tables_fault at place 0 (byte ∷ bytes)
tables_fault-more at place byte n bytes passed is within =
    ap (λ p. tables_fault at p 0 (drop n bytes)) (omega arith)
    ∙ sym (tables_fault-drop at (place + 1) n bytes within)
    ∙ ap (λ k. tables_fault at (place + 1) k bytes) is
    ∙ sym (ap (λ first. option_or first (tables_fault at (place + 1) (16 + sum (take 16 bytes)) bytes)) passed)

pub tables_after-more : (byte n : ℕ) (bytes : List ℕ) → n ≡ 16 + sum (take 16 bytes) → tables_after 0 (byte ∷ bytes) ≡ record { class = byte / 16; number = byte % 16; fields = fields_at bytes } ∷ tables_after 0 (drop n bytes)
tables_after-more byte n bytes is =
    ap (λ others. record { class = byte / 16; number = byte % 16; fields = fields_at bytes } ∷ others) (ap (λ k. tables_after k bytes) (sym is) ∙ tables_after-drop n bytes)

-- the last of a list that one more is put to
pub last_of-push : {A : Type 0} (before : Option A) (xs : List A) (y : A) → last_of before (xs ++ y ∷ []) ≡ Some y
last_of-push before xs y = fold-append (λ _ x. Some x) before xs (y ∷ [])

last_case : (before : Option TableFields) (b : Bool) (xs : List Table) (t : Table) → last_of before (map (λ u. u.fields) (xs ++ cond b (t ∷ []) [])) ≡ cond b (Some t.fields) (last_of before (map (λ u. u.fields) xs))
last_case before true xs t = ap (last_of before) (map-append (λ (u : Table). u.fields) xs (t ∷ [])) ∙ last_of-push before (map (λ (u : Table). u.fields) xs) t.fields
last_case before false xs t = ap (λ found. last_of before (map (λ (u : Table). u.fields) found)) (append-nil xs)

-- the latest of a class and number, where one more table comes
latest-push : (before : Option TableFields) (class number : ℕ) (tables : List Table) (t : Table) → latest before class number (tables ++ t ∷ []) ≡ cond (is_of class number t) (Some t.fields) (latest before class number tables)
latest-push before class number tables t = ap (λ found. last_of before (map (λ (u : Table). u.fields) found)) (filter-append (is_of class number) tables (t ∷ [])) ∙ last_case before (is_of class number t) (filter (is_of class number) tables) t

-- the latest of some tables and then of others
latest-append : (before : Option TableFields) (class number : ℕ) (tables more : List Table) → latest (latest before class number tables) class number more ≡ latest before class number (tables ++ more)
latest-append before class number tables more =
    sym (ap (λ found. last_of before (map (λ (u : Table). u.fields) found)) (filter-append (is_of class number) tables more)
    ∙ ap (last_of before) (map-append (λ (u : Table). u.fields) (filter (is_of class number) tables) (filter (is_of class number) more))
    ∙ fold-append (λ _ x. Some x) before (map (λ (u : Table). u.fields) (filter (is_of class number) tables)) (map (λ (u : Table). u.fields) (filter (is_of class number) more)))

eight_same : (f g : ℕ → ℕ → Option TableFields) → ((class number : ℕ) → f class number ≡ g class number) → eight_tables f ≡ eight_tables g
eight_same f g same = rw (same 0 0, same 0 1, same 0 2, same 0 3, same 1 0, same 1 1, same 1 2, same 1 3) refl

-- the tables kept after some and then after others
pub tables_kept-append : (before : List (Option TableFields)) (tables more : List Table) → tables_kept (tables_kept before tables) more ≡ tables_kept before (tables ++ more)
tables_kept-append before tables more = eight_same _ _ (λ class number. latest-append (table_in before class number) class number tables more)

-- eight tables are those of each class and number
pub eight_of : (kept : List (Option TableFields)) → length kept ≡ 8 → kept ≡ eight_tables (table_in kept)
eight_of [] e = absurd (omega arith)
eight_of (a ∷ []) e = absurd (omega arith)
eight_of (a ∷ b ∷ []) e = absurd (omega arith)
eight_of (a ∷ b ∷ c ∷ []) e = absurd (omega arith)
eight_of (a ∷ b ∷ c ∷ d ∷ []) e = absurd (omega arith)
eight_of (a ∷ b ∷ c ∷ d ∷ f ∷ []) e = absurd (omega arith)
eight_of (a ∷ b ∷ c ∷ d ∷ f ∷ g ∷ []) e = absurd (omega arith)
eight_of (a ∷ b ∷ c ∷ d ∷ f ∷ g ∷ h ∷ []) e = absurd (omega arith)
eight_of (a ∷ b ∷ c ∷ d ∷ f ∷ g ∷ h ∷ i ∷ []) e = refl
eight_of (a ∷ b ∷ c ∷ d ∷ f ∷ g ∷ h ∷ i ∷ j ∷ kept) e = absurd (omega arith)

-- of each class and number the last table is kept
pub record Holds (before kept : List (Option TableFields)) (tables : List Table) : Type 0 where
  pub size : length kept ≡ 8
  pub each : (class number : ℕ) → class < 2 → number < 4 → table_in kept class number ≡ latest (table_in before class number) class number tables

-- so the tables kept are these
pub kept_is : (before kept : List (Option TableFields)) (tables : List Table) → Holds before kept tables → kept ≡ tables_kept before tables
kept_is before kept tables holds =
    let each = λ (class number : ℕ) (c : class < 2) (n : number < 4). holds.each class number c n in
    eight_of kept holds.size ∙ rw (each 0 0 (omega arith) (omega arith), each 0 1 (omega arith) (omega arith), each 0 2 (omega arith) (omega arith), each 0 3 (omega arith) (omega arith), each 1 0 (omega arith) (omega arith), each 1 1 (omega arith) (omega arith), each 1 2 (omega arith) (omega arith), each 1 3 (omega arith) (omega arith)) refl

place_push : (kept : List (Option TableFields)) (t : Table) (old : Option TableFields) (c n : ℕ) → t.class < 2 → t.number < 4 → c < 2 → n < 4 → length kept ≡ 8 → table_in kept c n ≡ old → table_in (set kept (4 * t.class + t.number) (Some t.fields)) c n ≡ cond (is_of c n t) (Some t.fields) old
place_push kept t old c n class number cs ns size same = grind (arith, nat_tests, get_or-set_at, get_or-set_other)

-- a table put at its place is the latest there
pub Holds-push : (before kept : List (Option TableFields)) (tables : List Table) (t : Table) → t.class < 2 → t.number < 4 → Holds before kept tables → Holds before (set kept (4 * t.class + t.number) (Some t.fields)) (tables ++ t ∷ [])
Holds-push before kept tables t class number holds = record {
  size = length-set kept (4 * t.class + t.number) (Some t.fields) ∙ holds.size;
  each = λ c n cs ns. place_push kept t (latest (table_in before c n) c n tables) c n class number cs ns holds.size (holds.each c n cs ns) ∙ sym (latest-push (table_in before c n) c n tables t);
}

-- Tables that were kept, from the prefix of a segment up to a rest.
pub record Held (first kept : List (Option TableFields)) (body rest : List ℕ) : Type 0 where
  pub done : List Table
  pub come : tables_after 0 body ≡ done ++ tables_after 0 rest
  pub holds : Holds first kept done

pub Held-start : (first : List (Option TableFields)) (body : List ℕ) → length first ≡ 8 → Held first first body body
Held-start first body size = record { done = []; come = refl; holds = record { size = size; each = λ c n cs ns. refl } }

pub Held-more : (first kept : List (Option TableFields)) (body rest bytes after : List ℕ) (byte n class number : ℕ) (fields : TableFields) → rest ≡ byte ∷ bytes → after ≡ drop n bytes → n ≡ 16 + sum (take 16 bytes) → class ≡ byte / 16 → class < 2 → number ≡ byte % 16 → number < 4 → fields ≡ fields_at bytes → Held first kept body rest → Held first (set kept (4 * class + number) (Some fields)) body after
Held-more first kept body rest bytes after byte n class number fields prefix back size of_class two of_number four table held =
    let t : Table = record { class = class; number = number; fields = fields } in
    let same : t ≡ record { class = byte / 16; number = byte % 16; fields = fields_at bytes } = rw (of_class, of_number, table) refl in
    let split : tables_after 0 rest ≡ t ∷ tables_after 0 after =
    ap (tables_after 0) prefix ∙ tables_after-more byte n bytes size ∙ ap (λ u. u ∷ tables_after 0 (drop n bytes)) (sym same) ∙ ap (λ b. t ∷ tables_after 0 b) (sym back) in
    record {
      done = held.done ++ t ∷ [];
      come = held.come ∙ ap (λ others. held.done ++ others) split ∙ sym (append_assoc held.done (t ∷ []) (tables_after 0 after));
      holds = Holds-push first kept held.done t two four held.holds;
    }

pub Held-all : (first kept : List (Option TableFields)) (body rest : List ℕ) → length rest < 1 → Held first kept body rest → kept ≡ tables_kept first (tables_after 0 body)
Held-all first kept body [] none held = kept_is first kept held.done held.holds ∙ ap (tables_kept first) (sym (held.come ∙ append-nil held.done))
Held-all first kept body (byte ∷ rest) none held = absurd (omega arith)
