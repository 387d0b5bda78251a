-- The text of AC coefficients is read again.
use Rattle.std.proofs.Common.{◌≡◌, ℕ, zero, suc, ◌+◌, ◌-◌, ◌*◌, ◌/◌, ◌%◌, ◌<◌, ◌≤◌, Bool, true, false, ◌==◌, if◌then◌else◌, List, [], ◌∷◌, ◌++◌, length, replicate, ℤ, pos, negsuc, unsigned_abs, Option, Some, None, Result, Ok, Err, refl, sym, ap, ap₂, ◌∙◌, subst, arith, inl, inr, append_assoc, append-nil}
use Rattle.std.specs.Prelude.{nat_lt, nat_le}
use Rattle.std.specs.List.{AllByRecursion}
use Rattle.std.proofs.lemmas.Bool.{eqb-true, false_from_ne_true, cases_eq}
use Rattle.std.proofs.lemmas.Bool.Decides.{nat_tests}
use Rattle.std.proofs.lemmas.List.{replicate-append-replicate}
use Rattle.bit_list.specs.Units.{Cursor, bits_at}
use Rattle.jpeg_marker.specs.HuffmanTables.{TableFields, IsTable}
use Rattle.huff_table.specs.CodeWords.{word_of}
use Rattle.huff_table.proofs.WordReading.{word_is_read}
use Rattle.coef_block.specs.Categories.{category as size}
use Rattle.scan_spec.specs.ValueBits.{mag, extend}
use Rattle.scan_spec.specs.BlockBits.{Text, then_text, coded_word, word_text, value_text, zeros_text, coefficient_text, ac_text}
use Rattle.scan_spec.specs.ScanReading.{and_then, refused_as, symbol_at, extended_at, prefixed_values, by_symbol, acs_at}
use Rattle.scan_spec.specs.ScanSymbols.{code_refusal, bits_refusal, Symbol, Value, Sixteen, End, Past, Unknown, symbol_of, symbol_of_none}
use Rattle.scan_spec.specs.declared.refusal.ScanRefusal.{ScanRefusal}
use Rattle.scan_spec.specs.declared.stop.WriteStop.{WriteStop}
use Rattle.scan_spec.specs.declared.stop.WriteStop.TheVariants.{NoCode}
use Rattle.scan_spec.proofs.ValueLemmas.{value_again, length-mag, small_size, size_some}
use Rattle.scan_spec.proofs.Words.{value_parts, zeros_none, ac_zero, ac_value, ac_full, ac_end}
use Rattle.scan_spec.proofs.BitsTaken.{Takes, takes_none, takes_split, is_both, fine}
use Rattle.scan_spec.proofs.AcsRead.{IsAc}

-- ---- texts in parts

abbrev pub text_is : List Bool → Text
text_is bits = Ok bits

abbrev no_text : WriteStop → Text
no_text stop = Err stop

pub stopped : (stop : WriteStop) (bits : List Bool) → no_text stop ≡ text_is bits → ⊥
stopped stop bits e = cc

pub same_text : (a b : List Bool) → text_is a ≡ text_is b → a ≡ b
same_text a b e = cc

abbrev pub InParts : Text → Text → List Bool → Type 0
InParts a b bits = (x : List Bool) × (y : List Bool) × (a ≡ Ok x) × (b ≡ Ok y) × (bits ≡ x ++ y)

pub text_parts : (a b : Text) (bits : List Bool) → then_text a b ≡ Ok bits → InParts a b bits
text_parts (Ok x) (Ok y) bits e = (x, y, refl, refl, sym (same_text (x ++ y) bits e))
text_parts (Ok x) (Err stop) bits e = absurd (stopped stop bits e)
text_parts (Err stop) b bits e = absurd (stopped stop bits e)

coded : (o : Option (List Bool)) (word : List Bool) → coded_word o ≡ Ok word → o ≡ Some word
coded None word e = absurd (stopped NoCode word e)
coded (Some w) word e = ap Some (same_text w word e)

pub word_there : (table : TableFields) (symbol : ℕ) (word : List Bool) → word_text table symbol ≡ Ok word → word_of table symbol ≡ Some word
unfolding word_text
word_there table symbol word e = coded (word_of table symbol) word e

pub value_there : (table : TableFields) (symbol : ℕ) (value : ℤ) (bits : List Bool) → value_text table symbol value ≡ Ok bits → (word : List Bool) × (word_of table symbol ≡ Some word) × (bits ≡ word ++ mag value)
value_there table symbol value bits e =
    let p = text_parts (word_text table symbol) (Ok (mag value)) bits (sym (value_parts table symbol value) ∙ e) in
    (p.0, word_there table symbol p.0 p.2, p.4 ∙ ap (λ (l : List Bool). p.0 ++ l) (sym (same_text (mag value) p.1 p.3)))

-- ---- what is read

pub symbol_read : (table : TableFields) (bytes : List ℕ) (from to : Cursor) (symbol : ℕ) (word : List Bool) → IsTable table → word_of table symbol ≡ Some word → Takes bytes from word to
    → symbol_at table bytes from ≡ Ok (symbol, to)
symbol_read table bytes from to symbol word is e t = ap (refused_as code_refusal) (word_is_read table bytes from to symbol word is e t)

pub extended_read : (n : ℕ) (bytes : List ℕ) (from to : Cursor) (value : ℤ) → size (unsigned_abs value) ≡ n → Takes bytes from (mag value) to → extended_at n bytes from ≡ Ok (value, to)
extended_read n bytes from to value is t =
    let e : bits_at n bytes from ≡ Ok (mag value, to) = ap (λ (k : ℕ). bits_at k bytes from) (sym is ∙ sym (length-mag value)) ∙ t in
    ap (λ r. and_then {A = List Bool × Cursor} {B = ℤ × Cursor} (refused_as bits_refusal r) (λ bits. Ok (extend bits.0, bits.1))) e ∙ ap (λ (z : ℤ). fine (z, to)) (value_again value)

pub kind_value : (left prefix n : ℕ) (loose : Bool) → prefix < left → prefix < 16 → 1 ≤ n → n ≤ 10 → symbol_of left loose (16 * prefix + n) ≡ Value prefix n
kind_value left prefix n loose within few some most =
    let s = 16 * prefix + n in
    let low : s % 16 ≡ n = omega arith in
    let high : s / 16 ≡ prefix = omega arith in
    let a : (s % 16 == 0) ≡ false = false_from_ne_true (s % 16 == 0) (λ z. let h = eqb-true (s % 16) 0 z in omega (arith, h, low, some)) in
    let b : nat_lt 10 (s % 16) ≡ false = grind (arith, nat_tests, low, most) in
    let c : nat_le left (s / 16) ≡ false = grind (arith, nat_tests, high, within) in
    ap (λ (t : Bool). if t then symbol_of_none left loose (s / 16) else if nat_lt 10 (s % 16) then Unknown else if nat_le left (s / 16) then Past else Value (s / 16) (s % 16)) a
    ∙ ap (λ (t : Bool). if t then Unknown else if nat_le left (s / 16) then Past else Value (s / 16) (s % 16)) b
    ∙ ap (λ (t : Bool). if t then Past else Value (s / 16) (s % 16)) c
    ∙ ap₂ (λ (x y : ℕ). Value x y) high low

pub kind_sixteen : (left : ℕ) (loose : Bool) → 16 < left → symbol_of left loose 240 ≡ Sixteen
kind_sixteen left loose within =
    let c : nat_le left 16 ≡ false = grind (arith, nat_tests) in
    ap (λ (t : Bool). if t then Past else Sixteen) c

abbrev Going : ℕ → TableFields → List ℕ → ℕ → Cursor → Symbol → Result (List ℤ × Cursor) ScanRefusal
Going k table bytes left at kind = by_symbol (λ more last next. acs_at k table more last bytes next) left bytes at kind

-- a symbol first
one_symbol : (k : ℕ) (table : TableFields) (left : ℕ) (loose : Bool) (bytes : List ℕ) (from at : Cursor) (symbol : ℕ) (kind : Symbol) → 0 < left → symbol_at table bytes from ≡ Ok (symbol, at)
    → symbol_of left loose symbol ≡ kind → acs_at (suc k) table left loose bytes from ≡ Going k table bytes left at kind
unfolding acs_at
one_symbol k table left loose bytes from at symbol kind some e is =
    let going : ℕ × Cursor → Result (List ℤ × Cursor) ScanRefusal = λ s. Going k table bytes left s.1 (symbol_of left loose s.0) in
    let no : (left == 0) ≡ false = false_from_ne_true (left == 0) (λ z. let h = eqb-true left 0 z in omega (arith, h, some)) in
    ap (λ (b : Bool). if b then Ok ([], from) else and_then (symbol_at table bytes from) going) no ∙ ap (λ r. and_then r going) e ∙ ap (Going k table bytes left at) is

no_acs : (k : ℕ) (table : TableFields) (loose : Bool) (bytes : List ℕ) (from : Cursor) → acs_at k table 0 loose bytes from ≡ Ok ([], from)
unfolding acs_at
no_acs zero table loose bytes from = refl
no_acs (suc k) table loose bytes from = refl

pub nothing_taken : (bytes : List ℕ) (from to : Cursor) → Takes bytes from [] to → from ≡ to
nothing_taken bytes from to t = (is_both {A = List Bool} {B = Cursor} ([], from) ([], to) (sym (takes_none bytes from) ∙ t)).1

-- coefficients after so many zeros, whose text stands from a cursor to another
abbrev pub Full : ℕ → TableFields → List ℕ → Type 0
Full k table bytes =
    (values : List ℤ) (left before : ℕ) (bits : List Bool) (from to : Cursor) → left ≤ k → left ≡ before + length values → AllByRecursion IsAc values → ac_text table before values ≡ Ok bits
    → Takes bytes from bits to → acs_at k table left false bytes from ≡ Ok (replicate before (pos 0) ++ values, to)

zeros_once : (q : ℕ) (table : TableFields) → zeros_text table (suc q) ≡ then_text (word_text table 240) (zeros_text table q)
unfolding zeros_text
zeros_once q table = refl

-- a coefficient after zeros
sixteens : (q k : ℕ) (table : TableFields) (bytes : List ℕ) (left prefix : ℕ) (loose : Bool) (value : ℤ) (values : List ℤ) (zs word rest : List Bool) (from to : Cursor)
    → IsTable table → left ≡ 16 * q + prefix + 1 + length values → prefix < 16 → left ≤ k → IsAc value → (unsigned_abs value ≡ 0 → ⊥) → AllByRecursion IsAc values
    → zeros_text table q ≡ Ok zs → word_of table (16 * prefix + size (unsigned_abs value)) ≡ Some word → ac_text table 0 values ≡ Ok rest → Takes bytes from (zs ++ (word ++ (mag value ++ rest))) to
    → ((j : ℕ) → j < k → Full j table bytes) → acs_at k table left loose bytes from ≡ Ok (replicate (16 * q + prefix) (pos 0) ++ (value ∷ values), to)
sixteens q zero table bytes left prefix loose value values zs word rest from to is long few within small other all z w r t full = absurd (omega (arith, long, within))
sixteens zero (suc k) table bytes left prefix loose value values zs word rest from to is long few within small other all z w r t full =
    let nothing : [] ≡ zs = same_text [] zs (sym (zeros_none table) ∙ z) in
    let t2 : Takes bytes from (word ++ (mag value ++ rest)) to = subst (λ (l : List Bool). Takes bytes from (l ++ (word ++ (mag value ++ rest))) to) (sym nothing) t in
    let a = takes_split bytes from to word (mag value ++ rest) t2 in
    let b = takes_split bytes a.0 to (mag value) rest a.2 in
    let n = size (unsigned_abs value) in
    let most : n ≤ 10 = small_size 10 (unsigned_abs value) (omega (arith, small)) in
    let some = size_some (unsigned_abs value) (omega (arith, other)) in
    let least : 1 ≤ n = let h = some.1 in omega (arith, h) in
    let left_is : left - (prefix + 1) ≡ 0 + length values = omega (arith, long) in
    let next = full k (omega arith) values (left - (prefix + 1)) 0 rest b.0 to (omega (arith, long, within)) left_is all r b.2 in
    let zero_more : prefix ≡ 16 * 0 + prefix = omega arith in
    let ahead : List ℤ = replicate prefix (pos 0) ++ value ∷ [] in
    one_symbol k table left loose bytes from a.0 (16 * prefix + n) (Value prefix n) (omega (arith, long)) (symbol_read table bytes from a.0 (16 * prefix + n) word is w a.1)
    (kind_value left prefix n loose (omega (arith, long)) few least most)
    ∙ ap (λ r. and_then r (λ (v : ℤ × Cursor). prefixed_values (replicate prefix (pos 0) ++ v.0 ∷ []) (acs_at k table (left - (prefix + 1)) false bytes v.1))) (extended_read n bytes a.0 b.0 value refl b.1)
    ∙ ap (prefixed_values ahead) next
    ∙ ap (λ (l : List ℤ). fine (l, to)) (append_assoc (replicate prefix (pos 0)) (value ∷ []) values)
    ∙ ap (λ (n : ℕ). fine (replicate n (pos 0) ++ (value ∷ values), to)) zero_more
sixteens (suc q) (suc k) table bytes left prefix loose value values zs word rest from to is long few within small other all z w r t full =
    let p = text_parts (word_text table 240) (zeros_text table q) zs (sym (zeros_once q table) ∙ z) in
    let more = word ++ (mag value ++ rest) in
    let t2 : Takes bytes from (p.0 ++ (p.1 ++ more)) to = subst (λ (l : List Bool). Takes bytes from l to) (ap (λ (l : List Bool). l ++ more) p.4 ∙ append_assoc p.0 p.1 more) t in
    let a = takes_split bytes from to p.0 (p.1 ++ more) t2 in
    let next = sixteens q k table bytes (left - 16) prefix true value values p.1 word rest a.0 to is (omega (arith, long)) few (omega (arith, long, within)) small other all p.3 w r a.2 (λ j h. full j (omega (arith, h))) in
    let count : 16 + (16 * q + prefix) ≡ 16 * suc q + prefix = omega arith in
    one_symbol k table left loose bytes from a.0 240 Sixteen (omega (arith, long)) (symbol_read table bytes from a.0 240 p.0 is (word_there table 240 p.0 p.2) a.1) (kind_sixteen left loose (omega (arith, long)))
    ∙ ap (prefixed_values (replicate 16 (pos 0))) next
    ∙ ap (λ (l : List ℤ). fine (l, to)) (sym (append_assoc (replicate 16 (pos 0)) (replicate (16 * q + prefix) (pos 0)) (value ∷ values))
    ∙ ap (λ (l : List ℤ). l ++ (value ∷ values)) (replicate-append-replicate 16 (16 * q + prefix) (pos 0) ∙ ap (λ (n : ℕ). replicate n (pos 0)) count))

zero_value : (z : ℤ) → unsigned_abs z ≡ 0 → z ≡ pos 0
zero_value (pos zero) e = refl
zero_value (pos (suc n)) e = absurd (omega (arith, e))
zero_value (negsuc n) e = absurd (omega (arith, e))

-- nothing but zeros is left
end_again : (k : ℕ) (table : TableFields) (bytes : List ℕ) (before left : ℕ) (bits : List Bool) (from to : Cursor) → IsTable table → before ≤ k → left ≡ before → ac_text table before [] ≡ Ok bits
    → Takes bytes from bits to → acs_at k table left false bytes from ≡ Ok (replicate before (pos 0) ++ [], to)
end_again k table bytes zero left bits from to is few same e t =
    let none : [] ≡ bits = same_text [] bits (sym (ac_full table 0 refl) ∙ e) in
    let at : from ≡ to = nothing_taken bytes from to (subst (λ (l : List Bool). Takes bytes from l to) (sym none) t) in
    ap (λ (n : ℕ). acs_at k table n false bytes from) same ∙ no_acs k table false bytes from ∙ ap (λ (c : Cursor). fine ([], c)) at
end_again zero table bytes (suc before) left bits from to is few same e t = absurd (omega (arith, few))
end_again (suc k) table bytes (suc before) left bits from to is few same e t =
    let w : word_text table 0 ≡ Ok bits = sym (ac_end table (suc before) (λ z. omega (arith, z))) ∙ e in
    one_symbol k table left false bytes from to 0 End (omega (arith, same)) (symbol_read table bytes from to 0 bits is (word_there table 0 bits w) t) refl
    ∙ ap (λ (n : ℕ). fine (replicate n (pos 0), to)) same ∙ ap (λ (l : List ℤ). fine (l, to)) (sym (append-nil (replicate (suc before) (pos 0))))

-- one more coefficient
values_again : (k : ℕ) (table : TableFields) (bytes : List ℕ) → IsTable table → ((j : ℕ) → j < k → Full j table bytes) → Full k table bytes
values_again k table bytes is full [] left before bits from to few long all e t = end_again k table bytes before left bits from to is (omega (arith, few, long)) (omega (arith, long)) e t
values_again k table bytes is full (value ∷ values) left before bits from to few long all e t =
    elim (cases_eq (unsigned_abs value) 0) [
      | inl none ↦
          let z = zero_value value none in
          let one : replicate (before + 1) (pos 0) ++ values ≡ replicate before (pos 0) ++ (value ∷ values) =
          ap (λ (l : List ℤ). l ++ values) (sym (replicate-append-replicate before 1 (pos 0))) ∙ append_assoc (replicate before (pos 0)) (pos 0 ∷ []) values
          ∙ ap (λ (v : ℤ). replicate before (pos 0) ++ (v ∷ values)) (sym z) in
          values_again k table bytes is full values left (before + 1) bits from to few (omega (arith, long)) all.1 (sym (ac_zero table before value values none) ∙ e) t
          ∙ ap (λ (l : List ℤ). fine (l, to)) one
      | inr some ↦
          let q = before / 16 in
          let prefix = before % 16 in
          let p = text_parts (coefficient_text table before value) (ac_text table 0 values) bits (sym (ac_value table before value values some) ∙ e) in
          let c = text_parts (zeros_text table q) (value_text table (16 * prefix + size (unsigned_abs value)) value) p.0 p.2 in
          let v = value_there table (16 * prefix + size (unsigned_abs value)) value c.1 c.3 in
          let whole : bits ≡ c.0 ++ (v.0 ++ (mag value ++ p.1)) =
          p.4 ∙ ap (λ (l : List Bool). l ++ p.1) (c.4 ∙ ap (λ (l : List Bool). c.0 ++ l) v.2) ∙ append_assoc c.0 (v.0 ++ mag value) p.1 ∙ ap (λ (l : List Bool). c.0 ++ l) (append_assoc v.0 (mag value) p.1) in
          let same : 16 * q + prefix ≡ before = omega arith in
          sixteens q k table bytes left prefix false value values c.0 v.0 p.1 from to is (omega (arith, long, same)) (omega arith) few all.0 some all.1 c.2 v.1 p.3
          (subst (λ (l : List Bool). Takes bytes from l to) whole t) full
          ∙ ap (λ (n : ℕ). fine (replicate n (pos 0) ++ (value ∷ values), to)) same
    ]

full_below : (n : ℕ) (table : TableFields) (bytes : List ℕ) → IsTable table → (k : ℕ) → k < n → Full k table bytes
full_below zero table bytes is k h = absurd (omega (arith, h))
full_below (suc n) table bytes is k h = values_again k table bytes is (λ j g. full_below n table bytes is j (omega (arith, g, h)))

pub acs_again : (k : ℕ) (table : TableFields) (bytes : List ℕ) → IsTable table → Full k table bytes
acs_again k table bytes is = full_below (suc k) table bytes is k (omega arith)
