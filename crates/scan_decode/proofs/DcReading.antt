-- A DC by its parts.
use Rattle.std.proofs.Common.{◌≡◌, ℕ, ◌<◌, ◌≤◌, Bool, true, false, if◌then◌else◌, List, ℤ, ◌+ℤ◌, unsigned_abs, Result, Ok, Err, sym, ap, ◌∙◌, arith}
use Rattle.std.specs.Prelude.{nat_le}
use Rattle.std.proofs.lemmas.Bool.Decides.{nat_tests}
use Rattle.bit_list.specs.Units.{Cursor}
use Rattle.jpeg_marker.specs.HuffmanTables.{TableFields}
use Rattle.scan_spec.specs.ScanReading.{and_then, symbol_at, extended_at, difference_at, within_dc, dc_at}
use Rattle.scan_spec.specs.declared.refusal.ScanRefusal.{ScanRefusal}
use Rattle.scan_spec.specs.declared.refusal.ScanRefusal.TheVariants as refusals

abbrev pub Dc : Type 0
Dc = Result (ℤ × Cursor) ScanRefusal

abbrev pub after_size : ℤ → List ℕ → ℕ × Cursor → Dc
after_size before bytes size = and_then (difference_at bytes size) (λ more. within_dc (before +ℤ more.0) more.1)

pub no_size : (table : TableFields) (before : ℤ) (bytes : List ℕ) (cursor : Cursor) (refusal : ScanRefusal) → Err refusal ≡ symbol_at table bytes cursor → Err refusal ≡ dc_at table before bytes cursor
unfolding dc_at
no_size table before bytes cursor refusal e = ap (λ (r : Result (ℕ × Cursor) ScanRefusal). and_then r (after_size before bytes)) e

size_there : (table : TableFields) (before : ℤ) (bytes : List ℕ) (cursor to : Cursor) (size : ℕ) → Ok (size, to) ≡ symbol_at table bytes cursor → after_size before bytes (size, to) ≡ dc_at table before bytes cursor
unfolding dc_at
size_there table before bytes cursor to size e = ap (λ (r : Result (ℕ × Cursor) ScanRefusal). and_then r (after_size before bytes)) e

pub large_size : (table : TableFields) (before : ℤ) (bytes : List ℕ) (cursor to : Cursor) (size : ℕ) → Ok (size, to) ≡ symbol_at table bytes cursor → 11 < size
    → Err (refusals.SymbolBad to.last) ≡ dc_at table before bytes cursor
large_size table before bytes cursor to size e large =
    let test : nat_le size 11 ≡ false = grind (arith, nat_tests) in
    sym (ap (λ (t : Bool). and_then (if t then extended_at size bytes to else Err (refusals.SymbolBad to.last)) (λ more. within_dc (before +ℤ more.0) more.1)) test)
    ∙ size_there table before bytes cursor to size e

fitting : (table : TableFields) (before : ℤ) (bytes : List ℕ) (cursor to : Cursor) (size : ℕ) → Ok (size, to) ≡ symbol_at table bytes cursor → size ≤ 11
    → and_then (extended_at size bytes to) (λ more. within_dc (before +ℤ more.0) more.1) ≡ dc_at table before bytes cursor
fitting table before bytes cursor to size e few =
    let test : nat_le size 11 ≡ true = grind (arith, nat_tests) in
    sym (ap (λ (t : Bool). and_then (if t then extended_at size bytes to else Err (refusals.SymbolBad to.last)) (λ more. within_dc (before +ℤ more.0) more.1)) test)
    ∙ size_there table before bytes cursor to size e

pub no_difference : (table : TableFields) (before : ℤ) (bytes : List ℕ) (cursor to : Cursor) (size : ℕ) (refusal : ScanRefusal) → Ok (size, to) ≡ symbol_at table bytes cursor → size ≤ 11
    → Err refusal ≡ extended_at size bytes to → Err refusal ≡ dc_at table before bytes cursor
no_difference table before bytes cursor to size refusal e few there =
    ap (λ (r : Dc). and_then r (λ more. within_dc (before +ℤ more.0) more.1)) there ∙ fitting table before bytes cursor to size e few

difference : (table : TableFields) (before : ℤ) (bytes : List ℕ) (cursor to last : Cursor) (size : ℕ) (v : ℤ) → Ok (size, to) ≡ symbol_at table bytes cursor → size ≤ 11
    → Ok (v, last) ≡ extended_at size bytes to → within_dc (before +ℤ v) last ≡ dc_at table before bytes cursor
difference table before bytes cursor to last size v e few there =
    ap (λ (r : Dc). and_then r (λ more. within_dc (before +ℤ more.0) more.1)) there ∙ fitting table before bytes cursor to size e few

pub large_dc : (table : TableFields) (before : ℤ) (bytes : List ℕ) (cursor to last : Cursor) (size : ℕ) (v : ℤ) → Ok (size, to) ≡ symbol_at table bytes cursor → size ≤ 11
    → Ok (v, last) ≡ extended_at size bytes to → 32767 < unsigned_abs (before +ℤ v) → Err (refusals.DcRange last.last) ≡ dc_at table before bytes cursor
large_dc table before bytes cursor to last size v e few there large =
    let test : nat_le (unsigned_abs (before +ℤ v)) 32767 ≡ false = grind (arith, nat_tests) in
    sym (ap (λ (t : Bool). if t then Ok (before +ℤ v, last) else Err (refusals.DcRange last.last)) test) ∙ difference table before bytes cursor to last size v e few there

pub dc_there : (table : TableFields) (before : ℤ) (bytes : List ℕ) (cursor to last : Cursor) (size : ℕ) (v : ℤ) → Ok (size, to) ≡ symbol_at table bytes cursor → size ≤ 11
    → Ok (v, last) ≡ extended_at size bytes to → unsigned_abs (before +ℤ v) ≤ 32767 → Ok (before +ℤ v, last) ≡ dc_at table before bytes cursor
dc_there table before bytes cursor to last size v e few there small =
    let test : nat_le (unsigned_abs (before +ℤ v)) 32767 ≡ true = grind (arith, nat_tests) in
    sym (ap (λ (t : Bool). if t then Ok (before +ℤ v, last) else Err (refusals.DcRange last.last)) test) ∙ difference table before bytes cursor to last size v e few there
