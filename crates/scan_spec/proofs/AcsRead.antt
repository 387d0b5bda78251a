-- The AC coefficients that are read have the text that stands there.
use Rattle.std.proofs.Common.{◌≡◌, ℕ, zero, suc, ◌+◌, ◌-◌, ◌*◌, ◌/◌, ◌%◌, ◌^◌, ◌<◌, ◌≤◌, Bool, true, false, ◌==◌, if◌then◌else◌, List, [], ◌∷◌, ◌++◌, length, replicate, ℤ, pos, unsigned_abs, Some, Result, Ok, refl, sym, ap, ap₂, ◌∙◌, subst, arith, append_assoc, append-nil, length-append}
use Rattle.std.specs.Prelude.{nat_lt, nat_le, Contains}
use Rattle.std.specs.List.{AllByRecursion}
use Rattle.std.proofs.lemmas.Bool.{eqb-true, false_from_ne_true}
use Rattle.std.proofs.lemmas.Bool.Decides.{nat_tests}
use Rattle.std.proofs.lemmas.List.{length-replicate}
use Rattle.std.proofs.Math.Nat.{pow-le-pow_right}
use Rattle.bit_list.specs.Bits.{IsByte}
use Rattle.bit_list.specs.Units.{Cursor, bits_at}
use Rattle.jpeg_marker.specs.HuffmanTables.{TableFields, IsTable}
use Rattle.huff_table.specs.CodeWords.{word_of}
use Rattle.huff_table.specs.Decoding.{value_at}
use Rattle.huff_table.proofs.WordReading.{value_is_read}
use Rattle.huff_table.proofs.Lookup.{value_there}
use Rattle.coef_block.specs.Categories.{category as size}
use Rattle.scan_spec.specs.ValueBits.{mag, extend}
use Rattle.scan_spec.specs.BlockBits.{Text, then_text, word_text, value_text, zeros_text, ac_text}
use Rattle.scan_spec.specs.ScanReading.{and_then, refused_as, symbol_at, extended_at, prefixed_values, by_symbol, acs_at}
use Rattle.scan_spec.specs.ScanSymbols.{code_refusal, bits_refusal, Symbol, Value, Sixteen, End, Past, Loose, Unknown, symbol_of, symbol_of_none}
use Rattle.scan_spec.specs.declared.refusal.ScanRefusal.{ScanRefusal}
use Rattle.scan_spec.specs.declared.refusal.ScanRefusal.TheVariants as refusals
use Rattle.scan_spec.proofs.ValueLemmas.{bits_again_of_value, length-mag, size_below}
use Rattle.scan_spec.proofs.Words.{word_some, value_parts, zeros_none, ac_zero, ac_value, ac_full, ac_end}
use Rattle.scan_spec.proofs.Cuts.{then_twice}
use Rattle.scan_spec.proofs.BitsTaken.{Takes, takes_none, takes_then, takes_of, fine, not_refused, both_fine, then_fine, as_fine}

-- ---- numbers of a symbol

all_contains : (values : List ℕ) (value : ℕ) → AllByRecursion IsByte values → Contains values value → value < 256
all_contains [] value all has = absurd (let h = has.1 in omega (arith, h))
all_contains (x ∷ values) value all (zero, below, is) = let b = all.0 in omega (arith, is, b)
all_contains (x ∷ values) value all (suc k, below, is) = all_contains values value all.1 (k, omega arith, is)

-- a symbol that has a word is a byte
pub symbol_small : (table : TableFields) (symbol : ℕ) (word : List Bool) → IsTable table → AllByRecursion IsByte table.values → word_of table symbol ≡ Some word → symbol < 256
symbol_small table symbol word is all e = all_contains table.values symbol all (value_there table symbol word is e)

-- what a symbol is, by what it says
abbrev pub Means : ℕ → Bool → ℕ → Symbol → Type 0
Means left loose symbol (Value prefix size) = (symbol ≡ 16 * prefix + size) × (1 ≤ size) × (size ≤ 10) × (prefix < left)
Means left loose symbol Sixteen = (symbol ≡ 240) × (16 < left)
Means left loose symbol End = (symbol ≡ 0) × (loose ≡ false)
Means left loose symbol Past = Unit {0}
Means left loose symbol Loose = Unit {0}
Means left loose symbol Unknown = Unit {0}

means_end : (loose given : Bool) (left symbol : ℕ) → loose ≡ given → symbol ≡ 0 → Means left loose symbol (if given then Loose else End)
means_end loose true left symbol e none = tt
means_end loose false left symbol e none = (none, e)

means_sixteen : (t : Bool) (left symbol : ℕ) (loose : Bool) → nat_le left 16 ≡ t → symbol ≡ 240 → Means left loose symbol (if t then Past else Sixteen)
means_sixteen true left symbol loose e is = tt
means_sixteen false left symbol loose e is = (is, grind (arith, nat_tests))

means_fifteen : (t : Bool) (left symbol : ℕ) (loose : Bool) → (symbol / 16 == 15) ≡ t → symbol % 16 ≡ 0
    → Means left loose symbol (if t then (if nat_le left 16 then Past else Sixteen) else Unknown)
means_fifteen true left symbol loose e none = let q : symbol / 16 ≡ 15 = eqb-true (symbol / 16) 15 e in means_sixteen (nat_le left 16) left symbol loose refl (omega (arith, q, none))
means_fifteen false left symbol loose e none = tt

means_none : (t : Bool) (left symbol : ℕ) (loose : Bool) → (symbol / 16 == 0) ≡ t → symbol % 16 ≡ 0
    → Means left loose symbol (if t then (if loose then Loose else End) else if symbol / 16 == 15 then (if nat_le left 16 then Past else Sixteen) else Unknown)
means_none true left symbol loose e none = let q : symbol / 16 ≡ 0 = eqb-true (symbol / 16) 0 e in means_end loose loose left symbol refl (omega (arith, q, none))
means_none false left symbol loose e none = means_fifteen (symbol / 16 == 15) left symbol loose refl none

means_value : (t : Bool) (left symbol : ℕ) (loose : Bool) → nat_le left (symbol / 16) ≡ t → 1 ≤ symbol % 16 → symbol % 16 ≤ 10 → Means left loose symbol (if t then Past else Value (symbol / 16) (symbol % 16))
means_value true left symbol loose e some few = tt
means_value false left symbol loose e some few = (omega arith, some, few, grind (arith, nat_tests))

means_known : (t : Bool) (left symbol : ℕ) (loose : Bool) → nat_lt 10 (symbol % 16) ≡ t → 1 ≤ symbol % 16
    → Means left loose symbol (if t then Unknown else if nat_le left (symbol / 16) then Past else Value (symbol / 16) (symbol % 16))
means_known true left symbol loose e some = tt
means_known false left symbol loose e some = means_value (nat_le left (symbol / 16)) left symbol loose refl some (grind (arith, nat_tests))

means_by : (t : Bool) (left symbol : ℕ) (loose : Bool) → (symbol % 16 == 0) ≡ t
    → Means left loose symbol (if t then symbol_of_none left loose (symbol / 16) else if nat_lt 10 (symbol % 16) then Unknown else if nat_le left (symbol / 16) then Past else Value (symbol / 16) (symbol % 16))
means_by true left symbol loose e = means_none (symbol / 16 == 0) left symbol loose refl (eqb-true (symbol % 16) 0 e)
means_by false left symbol loose e = means_known (nat_lt 10 (symbol % 16)) left symbol loose refl (grind (arith, nat_tests))

pub means : (left symbol : ℕ) (loose : Bool) → Means left loose symbol (symbol_of left loose symbol)
means left symbol loose = means_by (symbol % 16 == 0) left symbol loose refl

-- ---- the text of zeros

-- zeros in prefix of coefficients
pub zeros_prefix : (n : ℕ) (table : TableFields) (before : ℕ) (values : List ℤ) → ac_text table before (replicate n (pos 0) ++ values) ≡ ac_text table (before + n) values
zeros_prefix zero table before values = let e : before ≡ before + 0 = omega arith in ap (λ (k : ℕ). ac_text table k values) e
zeros_prefix (suc n) table before values =
    let e : before + 1 + n ≡ before + suc n = omega arith in
    ac_zero table before (pos 0) (replicate n (pos 0) ++ values) refl ∙ zeros_prefix n table (before + 1) values ∙ ap (λ (k : ℕ). ac_text table k values) e

-- F0 once more, in prefix or after
pub zeros_last : (m : ℕ) (table : TableFields) (word : List Bool) → word_text table 240 ≡ Ok word → zeros_text table (suc m) ≡ then_text (zeros_text table m) (Ok word)
unfolding zeros_text
zeros_last zero table word e = ap (λ (t : Text). then_text t (Ok [])) e ∙ ap (λ (l : List Bool). Ok l) (append-nil word)
zeros_last (suc m) table word e =
    ap (then_text (word_text table 240)) (zeros_last m table word e) ∙ then_twice (word_text table 240) (zeros_text table m) (Ok word)

-- ---- what is read

pub extended_fine : (n : ℕ) (bytes : List ℕ) (at : Cursor) (v : ℤ × Cursor) → extended_at n bytes at ≡ Ok v → (bits : List Bool) × (length bits ≡ n) × Takes bytes at bits v.1 × (v.0 ≡ extend bits)
extended_fine n bytes at v e =
    let b = then_fine (refused_as bits_refusal (bits_at n bytes at)) (λ bits. Ok (extend bits.0, bits.1)) v e in
    let bits = b.0 in
    let p = both_fine (extend bits.0, bits.1) v b.2 in
    let t = takes_of n bytes at bits.1 bits.0 (as_fine bits_refusal (bits_at n bytes at) bits b.1) in
    (bits.0, t.0, subst (λ (c : Cursor). Takes bytes at bits.0 c) p.1 t.1, sym p.0)

pub after_fine : (prefix : List ℤ) (r : Result (List ℤ × Cursor) ScanRefusal) (x : List ℤ × Cursor) → prefixed_values prefix r ≡ Ok x → (more : List ℤ) × (r ≡ Ok (more, x.1)) × (x.0 ≡ prefix ++ more)
after_fine prefix r x e =
    let b = then_fine r (λ more. Ok (prefix ++ more.0, more.1)) x e in
    let p = both_fine (prefix ++ b.0.0, b.0.1) x b.2 in
    (b.0.0, b.1 ∙ ap (λ (c : Cursor). fine (b.0.0, c)) p.1, sym p.0)

pub symbol_fine : (table : TableFields) (bytes : List ℕ) (at : Cursor) (s : ℕ × Cursor) → IsTable table → symbol_at table bytes at ≡ Ok s → (word : List Bool) × (word_of table s.0 ≡ Some word) × Takes bytes at word s.1
symbol_fine table bytes at s is e = value_is_read table bytes at s.1 s.0 is (as_fine code_refusal (value_at table bytes at) s e)

-- the value of bits has their category
pub sized : (bits : List Bool) → size (unsigned_abs (extend bits)) ≡ length bits
sized bits = sym (length-mag (extend bits)) ∙ ap length (bits_again_of_value bits)

pub below_power : (bits : List Bool) (k : ℕ) → length bits ≤ k → unsigned_abs (extend bits) < 2 ^ k
below_power bits k few =
    let a = size_below (unsigned_abs (extend bits)) in
    let s : size (unsigned_abs (extend bits)) ≤ k = omega (arith, sized bits, few) in
    let two : zero < 2 = omega arith in
    let b : 2 ^ size (unsigned_abs (extend bits)) ≤ 2 ^ k = pow-le-pow_right two s in
    omega (arith, a, b)

-- a coefficient that AC symbols can tell
abbrev pub IsAc : ℤ → Type 0
IsAc value = unsigned_abs value ≤ 1023

zeros_small : (n : ℕ) (values : List ℤ) → AllByRecursion IsAc values → AllByRecursion IsAc (replicate n (pos 0) ++ values)
zeros_small zero values all = all
zeros_small (suc n) values all = (omega arith, zeros_small n values all)

-- after so many F0, which are read before
pub record AcsRead (table : TableFields) (m left : ℕ) (bytes : List ℕ) (from : Cursor) (values : List ℤ) (to : Cursor) : Type 0 where
  pub bits : List Bool
  pub takes : Takes bytes from bits to
  pub text : ac_text table (16 * m) values ≡ then_text (zeros_text table m) (Ok bits)
  pub long : length values ≡ left
  pub small : AllByRecursion IsAc values

-- no coefficient is left
none_left : (table : TableFields) (m : ℕ) (bytes : List ℕ) (from : Cursor) → m ≡ 0 → AcsRead table m 0 bytes from [] from
none_left table m bytes from none = record {
  bits = [];
  takes = takes_none bytes from;
  text = ac_full table (16 * m) (omega (arith, none)) ∙ sym (ap (λ (t : Text). then_text t (Ok [])) (ap (zeros_text table) none ∙ zeros_none table));
  long = refl;
  small = tt;
}

no_zeros : (loose : Bool) (m left : ℕ) → (loose ≡ false → m ≡ 0) → (loose ≡ true → 0 < left) → left ≡ 0 → m ≡ 0
no_zeros true m left f t none = absurd (let h = t refl in omega (arith, h, none))
no_zeros false m left f t none = f refl

ends_read : (table : TableFields) (m left : ℕ) (bytes : List ℕ) (from to : Cursor) (loose : Bool) (values : List ℤ) → (loose ≡ false → m ≡ 0) → (loose ≡ true → 0 < left) → left ≡ 0
    → fine {A = List ℤ × Cursor} ([], from) ≡ fine (values, to) → AcsRead table m left bytes from values to
ends_read table m left bytes from to loose values f t none e =
    let p = both_fine {A = List ℤ} {B = Cursor} ([], from) (values, to) e in
    let r = none_left table m bytes from (no_zeros loose m left f t none) in
    subst (λ (l : List ℤ). AcsRead table m left bytes from l to) p.0
    (subst (λ (c : Cursor). AcsRead table m left bytes from [] c) p.1 (subst (λ (n : ℕ). AcsRead table m n bytes from [] from) (sym none) r))

abbrev Later : ℕ → TableFields → List ℕ → Type 0
Later k table bytes =
    (left m : ℕ) (loose : Bool) (from to : Cursor) (values : List ℤ) → left ≤ k → (loose ≡ false → m ≡ 0) → (loose ≡ true → 0 < left) → acs_at k table left loose bytes from ≡ Ok (values, to)
    → AcsRead table m left bytes from values to

-- a word and a value's bits
pub value_whole : (table : TableFields) (a symbol : ℕ) (value : ℤ) (word bits : List Bool) → a ≡ symbol → word_of table symbol ≡ Some word → mag value ≡ bits → value_text table a value ≡ Ok (word ++ bits)
value_whole table a symbol value word bits same is mag_is =
    value_parts table a value ∙ ap₂ (λ (t : Text) (l : List Bool). then_text t (Ok l)) (word_some table a word (ap (word_of table) same ∙ is)) mag_is

-- after a symbol
kind_read : (kind : Symbol) (k : ℕ) (table : TableFields) (left m : ℕ) (loose : Bool) (symbol : ℕ) (word : List Bool) (bytes : List ℕ) (from at to : Cursor) (values : List ℤ)
    → Means left loose symbol kind → word_of table symbol ≡ Some word → symbol < 256 → Takes bytes from word at → left ≤ suc k → 0 < left → (loose ≡ false → m ≡ 0) → Later k table bytes
    → by_symbol (λ more last next. acs_at k table more last bytes next) left bytes at kind ≡ Ok (values, to) → AcsRead table m left bytes from values to
kind_read (Value prefix n) k table left m loose symbol word bytes from at to values says is byte takes few some f later e =
    let v = then_fine (extended_at n bytes at) (λ value. prefixed_values (replicate prefix (pos 0) ++ value.0 ∷ []) (acs_at k table (left - (prefix + 1)) false bytes value.1)) (values, to) e in
    let b = extended_fine n bytes at v.0 v.1 in
    let bits = b.0 in
    let value = v.0.0 in
    let more = after_fine (replicate prefix (pos 0) ++ value ∷ []) (acs_at k table (left - (prefix + 1)) false bytes v.0.1) (values, to) v.2 in
    let s = says.0 in
    let least = says.1 in
    let most = says.2 in
    let within = says.3 in
    let r = later (left - (prefix + 1)) 0 false v.0.1 to more.0 (omega (arith, few)) (λ z. refl) (λ z. absurd (let h : false ≡ true = z in cc)) more.1 in
    let whole : values ≡ replicate prefix (pos 0) ++ (value ∷ more.0) = more.2 ∙ append_assoc (replicate prefix (pos 0)) (value ∷ []) more.0 in
    let n_is : size (unsigned_abs value) ≡ n = ap (λ (z : ℤ). size (unsigned_abs z)) b.3 ∙ sized bits ∙ b.1 in
    let other : unsigned_abs value ≡ 0 → ⊥ = λ none. let z : 0 ≡ n = ap size (sym none) ∙ n_is in omega (arith, z, least) in
    let mag_is : mag value ≡ bits = ap mag b.3 ∙ bits_again_of_value bits in
    let sixteens : (16 * m + prefix) / 16 ≡ m = omega (arith, s, byte) in
    let rest : (16 * m + prefix) % 16 ≡ prefix = omega (arith, s, byte) in
    let symbol_is : 16 * ((16 * m + prefix) % 16) + size (unsigned_abs value) ≡ symbol = omega (arith, rest, n_is, s) in
    let one : value_text table (16 * ((16 * m + prefix) % 16) + size (unsigned_abs value)) value ≡ Ok (word ++ bits) = value_whole table (16 * ((16 * m + prefix) % 16) + size (unsigned_abs value)) symbol value word bits symbol_is is mag_is in
    let first : ac_text table 0 more.0 ≡ Ok r.bits = r.text ∙ ap (λ (t : Text). then_text t (Ok r.bits)) (zeros_none table) in
    record {
      bits = word ++ (bits ++ r.bits);
      takes = takes_then bytes from at to word (bits ++ r.bits) takes (takes_then bytes at v.0.1 to bits r.bits b.2 r.takes);
      text =
          ap (ac_text table (16 * m)) whole ∙ zeros_prefix prefix table (16 * m) (value ∷ more.0) ∙ ac_value table (16 * m + prefix) value more.0 other
          ∙ ap₂ (λ (a : ℕ) (t : Text). then_text (then_text (zeros_text table a) t) (ac_text table 0 more.0)) sixteens one
          ∙ ap (λ (t : Text). then_text (then_text (zeros_text table m) (Ok (word ++ bits))) t) first
          ∙ sym (then_twice (zeros_text table m) (Ok (word ++ bits)) (Ok r.bits))
          ∙ ap (λ (l : List Bool). then_text (zeros_text table m) (Ok l)) (append_assoc word bits r.bits);
      long =
          let a = ap length whole in
          let c = length-append (replicate prefix (pos 0)) (value ∷ more.0) in
          let d = length-replicate prefix (pos 0) in
          omega (arith, a, c, d, r.long, within);
      small = subst (λ (l : List ℤ). AllByRecursion IsAc l) (sym whole) (zeros_small prefix (value ∷ more.0) (
        (let p = below_power bits 10 (omega (arith, b.1, most)) in let q = ap unsigned_abs b.3 in omega (arith, p, q)),
        r.small,
      ));
    }
kind_read Sixteen k table left m loose symbol word bytes from at to values says is byte takes few some f later e =
    let more = after_fine (replicate 16 (pos 0)) (acs_at k table (left - 16) true bytes at) (values, to) e in
    let s = says.0 in
    let within = says.1 in
    let r = later (left - 16) (suc m) true at to more.0 (omega (arith, few)) (λ z. absurd (let h : true ≡ false = z in cc)) (λ z. omega (arith, within)) more.1 in
    let w : word_text table 240 ≡ Ok word = word_some table 240 word (ap (word_of table) (sym s) ∙ is) in
    let next : 16 * m + 16 ≡ 16 * suc m = omega arith in
    record {
      bits = word ++ r.bits;
      takes = takes_then bytes from at to word r.bits takes r.takes;
      text =
          ap (ac_text table (16 * m)) more.2 ∙ zeros_prefix 16 table (16 * m) more.0 ∙ ap (λ (n : ℕ). ac_text table n more.0) next ∙ r.text
          ∙ ap (λ (t : Text). then_text t (Ok r.bits)) (zeros_last m table word w) ∙ sym (then_twice (zeros_text table m) (Ok word) (Ok r.bits));
      long =
          let a = ap length more.2 in
          let c = length-append (replicate 16 (pos 0)) more.0 in
          let d = length-replicate 16 (pos 0) in
          omega (arith, a, c, d, r.long, within);
      small = subst (λ (l : List ℤ). AllByRecursion IsAc l) (sym more.2) (zeros_small 16 more.0 r.small);
    }
kind_read End k table left m loose symbol word bytes from at to values says is byte takes few some f later e =
    let p = both_fine {A = List ℤ} {B = Cursor} (replicate left (pos 0), at) (values, to) e in
    let none : m ≡ 0 = f says.1 in
    let w : word_text table 0 ≡ Ok word = word_some table 0 word (ap (word_of table) (sym says.0) ∙ is) in
    let past : 16 * m + left ≡ 0 → ⊥ = λ z. omega (arith, z, some) in
    let whole : replicate left (pos 0) ++ [] ≡ values = append-nil (replicate left (pos 0)) ∙ p.0 in
    record {
      bits = word;
      takes = subst (λ (c : Cursor). Takes bytes from word c) p.1 takes;
      text =
          ap (ac_text table (16 * m)) (sym whole) ∙ zeros_prefix left table (16 * m) [] ∙ ac_end table (16 * m + left) past ∙ w
          ∙ sym (ap (λ (t : Text). then_text t (Ok word)) (ap (zeros_text table) none ∙ zeros_none table));
      long = let a = ap length p.0 in let d = length-replicate left (pos 0) in omega (arith, a, d);
      small = subst (λ (l : List ℤ). AllByRecursion IsAc l) whole (zeros_small left [] tt);
    }
kind_read Past k table left m loose symbol word bytes from at to values says is byte takes few some f later e = absurd (not_refused (refusals.RunPast at.last) (values, to) e)
kind_read Loose k table left m loose symbol word bytes from at to values says is byte takes few some f later e = absurd (not_refused (refusals.LooseZeros at.last) (values, to) e)
kind_read Unknown k table left m loose symbol word bytes from at to values says is byte takes few some f later e = absurd (not_refused (refusals.SymbolBad at.last) (values, to) e)

-- so many AC coefficients
pub acs_read : (k : ℕ) (table : TableFields) (bytes : List ℕ) → IsTable table → AllByRecursion IsByte table.values → Later k table bytes
unfolding acs_at
acs_read zero table bytes is all left m loose from to values few f t e = ends_read table m left bytes from to loose values f t (omega (arith, few)) e
acs_read (suc k) table bytes is all zero m loose from to values few f t e = ends_read table m zero bytes from to loose values f t refl e
acs_read (suc k) table bytes is all (suc l) m loose from to values few f t e =
    let some : (suc l == 0) ≡ false = false_from_ne_true (suc l == 0) (λ z. omega (arith, eqb-true (suc l) 0 z)) in
    let going : ℕ × Cursor → Result (List ℤ × Cursor) ScanRefusal = λ s. by_symbol (λ more last next. acs_at k table more last bytes next) (suc l) bytes s.1 (symbol_of (suc l) loose s.0) in
    let e2 : and_then (symbol_at table bytes from) going ≡ Ok (values, to) = sym (ap (λ (b : Bool). if b then Ok ([], from) else and_then (symbol_at table bytes from) going) some) ∙ e in
    let s = then_fine (symbol_at table bytes from) going (values, to) e2 in
    let w = symbol_fine table bytes from s.0 is s.1 in
    kind_read (symbol_of (suc l) loose s.0.0) k table (suc l) m loose s.0.0 w.0 bytes from s.0.1 to values (means (suc l) s.0.0 loose) w.1 (symbol_small table s.0.0 w.0 is all w.1) w.2 few (omega arith) f
    (acs_read k table bytes is all) s.2
