-- What one symbol does in the midst of a block.
use Rattle.std.proofs.Common.{◌≡◌, unsigned_abs, ◌==◌, if◌then◌else◌, set, ℕ, zero, suc, ◌+◌, ◌-◌, ◌<◌, ◌≤◌, ◌^◌, Bool, true, false, List, [], ◌∷◌, ◌++◌, length, replicate, get_or, ℤ, pos, Result, Ok, Err, refl, sym, ap, ap₂, ◌∙◌, subst, arith, append_assoc, append-nil, length-append}
use Rattle.std.proofs.lemmas.Bool.Decides.{nat_tests}
use Rattle.std.proofs.Math.Pow.{pow_mono}
use Rattle.std.proofs.lemmas.List.{length-replicate, length-set, replicate-append-replicate, set-append_right}
use Rattle.bit_list.specs.Units.{Cursor}
use Rattle.coef_block.specs.Categories.{category}
use Rattle.coef_block.specs.Zigzag.{zigzag}
use Rattle.jpeg_marker.specs.HuffmanTables.{TableFields}
use Rattle.scan_spec.specs.ScanReading.{and_then, symbol_at, extended_at, prefixed_values, by_symbol, acs_at}
use Rattle.scan_spec.specs.BlockBits.{coefficient_at, ac_values, in_zigzag}
use Rattle.scan_spec.specs.ScanSymbols.{Symbol, Value, Sixteen, End, symbol_of}
use Rattle.scan_spec.specs.declared.refusal.ScanRefusal.{ScanRefusal}
use Rattle.scan_spec.proofs.AcsRead.{Means, means, extended_fine, sized}
use Rattle.scan_spec.proofs.ZigzagLaws.{set_in_zigzag}
use Rattle.std.specs.Int.{w16, w32}
use Rattle.scan_spec.proofs.MachineValues.{kept_word}
use mir.Val.{to_z, of_z}
use Rattle.coef_block.specs.Block.{IsCoefficient, limit}
use Rattle.scan_spec.proofs.SignedValues.{kept_half}
use Rattle.scan_decode.specs.BlockSteps.{Going}

abbrev pub Whole : Type 0
Whole = Result (List ℤ × Cursor) ScanRefusal

pub after_twice : (a b : List ℤ) (r : Whole) → prefixed_values a (prefixed_values b r) ≡ prefixed_values (a ++ b) r
after_twice a b (Err e) = refl
after_twice a b (Ok x) = ap (λ (l : List ℤ). Ok (l, x.1)) (sym (append_assoc a b x.0))

-- what comes after a symbol
abbrev pub on_symbol : ℕ → TableFields → ℕ → Bool → List ℕ → ℕ × Cursor → Whole
on_symbol symbols table left loose bytes symbol =
    by_symbol (λ more last at. acs_at symbols table more last bytes at) left bytes symbol.1 (symbol_of left loose symbol.0)

if_not : (t : Bool) (x y : Whole) → t ≡ false → (if t then x else y) ≡ y
if_not false x y e = refl
if_not true x y e = absurd (let f : true ≡ false = e in cc)

pub one_symbol : (symbols left : ℕ) (table : TableFields) (loose : Bool) (bytes : List ℕ) (cursor : Cursor) → 0 < left → left ≤ symbols
    → (more : ℕ) × (symbols ≡ more + 1) × (acs_at symbols table left loose bytes cursor ≡ and_then (symbol_at table bytes cursor) (on_symbol more table left loose bytes))
unfolding acs_at
one_symbol zero left table loose bytes cursor some few = absurd (omega arith)
one_symbol (suc symbols) left table loose bytes cursor some few =
    let test : (left == 0) ≡ false = grind (arith, nat_tests) in
    (symbols, omega arith, if_not (left == 0) (Ok ([], cursor)) (and_then (symbol_at table bytes cursor) (on_symbol symbols table left loose bytes)) test)

-- before the first symbol
pub starts : (table : TableFields) (bytes : List ℕ) (block : List ℤ) (cursor : Cursor) → length block ≡ 64 → ac_values block ≡ replicate 63 (pos 0)
    → Going (prefixed_values (coefficient_at block 0 ∷ []) (acs_at 63 table 63 false bytes cursor)) table bytes block 1 false cursor
starts table bytes block cursor long zeros = record {
  prefix = coefficient_at block 0 ∷ [];
  symbols = 63;
  enough = omega arith;
  long = long;
  count = refl;
  kept = ap (λ (l : List ℤ). coefficient_at block 0 ∷ l) zeros;
  rest = refl;
}

-- no symbol
pub no_symbol : (whole : Whole) (table : TableFields) (bytes : List ℕ) (block : List ℤ) (index : ℕ) (loose : Bool) (cursor : Cursor) (refusal : ScanRefusal)
    → index < 64 → Err refusal ≡ symbol_at table bytes cursor → Going whole table bytes block index loose cursor → whole ≡ Err refusal
no_symbol whole table bytes block index loose cursor refusal below e g =
    let one = one_symbol g.symbols (64 - index) table loose bytes cursor (omega arith) (let h = g.enough in omega (arith, h)) in
    g.rest ∙ ap (prefixed_values g.prefix) (one.2 ∙ ap (λ (r : Result (ℕ × Cursor) ScanRefusal). and_then r (on_symbol one.0 table (64 - index) loose bytes)) (sym e))

-- what a symbol says
pub record Said (whole : Whole) (table : TableFields) (bytes : List ℕ) (prefix : List ℤ) (index : ℕ) (to : Cursor) (symbol : Symbol) : Type 0 where
  pub more : ℕ
  pub enough : 64 ≤ index + (more + 1)
  pub rest : whole ≡ prefixed_values prefix (by_symbol (λ left last at. acs_at more table left last bytes at) (64 - index) bytes to symbol)

pub said : (whole : Whole) (table : TableFields) (bytes : List ℕ) (block : List ℤ) (index : ℕ) (loose : Bool) (cursor to : Cursor) (value : ℕ) (symbol : Symbol)
    → index < 64 → Ok (value, to) ≡ symbol_at table bytes cursor → symbol ≡ symbol_of (64 - index) loose value → (g : Going whole table bytes block index loose cursor)
    → Said whole table bytes g.prefix index to symbol
said whole table bytes block index loose cursor to value symbol below e is g =
    let one = one_symbol g.symbols (64 - index) table loose bytes cursor (omega arith) (let h = g.enough in omega (arith, h)) in
    record {
      more = one.0;
      enough = let h = g.enough in let n = one.1 in omega (arith, h, n);
      rest =
          g.rest
          ∙ ap (prefixed_values g.prefix) (one.2 ∙ ap (λ (r : Result (ℕ × Cursor) ScanRefusal). and_then r (on_symbol one.0 table (64 - index) loose bytes)) (sym e))
          ∙ ap (λ (s : Symbol). prefixed_values g.prefix (by_symbol (λ left last at. acs_at one.0 table left last bytes at) (64 - index) bytes to s)) (sym is);
    }

-- sixteen zeros
pub sixteen_more : (whole : Whole) (table : TableFields) (bytes : List ℕ) (block : List ℤ) (index : ℕ) (loose : Bool) (cursor to : Cursor) (value : ℕ)
    → index < 64 → Ok (value, to) ≡ symbol_at table bytes cursor → Sixteen ≡ symbol_of (64 - index) loose value → Going whole table bytes block index loose cursor
    → Going whole table bytes block (index + 16) true to
sixteen_more whole table bytes block index loose cursor to value below e is g =
    let s = said whole table bytes block index loose cursor to value Sixteen below e is g in
    let m : Means (64 - index) loose value Sixteen = subst (λ (y : Symbol). Means (64 - index) loose value y) (sym is) (means (64 - index) value loose) in
    let room : 16 < 64 - index = m.1 in
    let left : 64 - index - 16 ≡ 64 - (index + 16) = omega arith in
    let zeros : replicate (64 - index) (pos 0) ≡ replicate 16 (pos 0) ++ replicate (64 - (index + 16)) (pos 0) =
    let n : 64 - index ≡ 16 + (64 - (index + 16)) = omega (arith, room) in
    ap (λ (k : ℕ). replicate k (pos 0)) n ∙ sym (replicate-append-replicate 16 (64 - (index + 16)) (pos 0)) in
    record {
      prefix = g.prefix ++ replicate 16 (pos 0);
      symbols = s.more;
      enough = let h = s.enough in omega (arith, h);
      long = g.long;
      count = length-append g.prefix (replicate 16 (pos 0)) ∙ ap (λ (k : ℕ). k + 16) g.count;
      kept = g.kept ∙ ap (λ (l : List ℤ). g.prefix ++ l) zeros ∙ sym (append_assoc g.prefix (replicate 16 (pos 0)) (replicate (64 - (index + 16)) (pos 0)));
      rest =
          s.rest ∙ after_twice g.prefix (replicate 16 (pos 0)) (acs_at s.more table (64 - index - 16) true bytes to)
          ∙ ap (λ (k : ℕ). prefixed_values (g.prefix ++ replicate 16 (pos 0)) (acs_at s.more table k true bytes to)) left;
    }

pub none_left : (loose : Bool) (table : TableFields) (bytes : List ℕ) (cursor : Cursor) (symbols : ℕ) → acs_at symbols table 0 loose bytes cursor ≡ Ok ([], cursor)
unfolding acs_at
none_left loose table bytes cursor zero = refl
none_left loose table bytes cursor (suc symbols) = refl

-- the end of the block
pub end_comes : (whole : Whole) (table : TableFields) (bytes : List ℕ) (block : List ℤ) (index : ℕ) (loose : Bool) (cursor to : Cursor) (value : ℕ)
    → index < 64 → Ok (value, to) ≡ symbol_at table bytes cursor → End ≡ symbol_of (64 - index) loose value → Going whole table bytes block index loose cursor
    → Going whole table bytes block 64 false to
end_comes whole table bytes block index loose cursor to value below e is g =
    let s = said whole table bytes block index loose cursor to value End below e is g in
    let zeros = replicate (64 - index) (pos 0) in
    let nil = append-nil (g.prefix ++ zeros) in
    record {
      prefix = g.prefix ++ zeros;
      symbols = 0;
      enough = omega arith;
      long = g.long;
      count = length-append g.prefix zeros ∙ ap₂ (λ (a b : ℕ). a + b) g.count (length-replicate (64 - index) (pos 0)) ∙ omega arith;
      kept = g.kept ∙ sym nil;
      rest = s.rest ∙ sym (ap (prefixed_values (g.prefix ++ zeros)) (none_left false table bytes to 0) ∙ ap (λ (l : List ℤ). Ok (l, to)) nil);
    }

set_zeros : (n zeros more : ℕ) (v : ℤ) → n ≡ zeros + more + 1 → set (replicate n (pos 0)) zeros v ≡ (replicate zeros (pos 0) ++ v ∷ []) ++ replicate more (pos 0)
set_zeros zero zeros more v e = absurd (omega (arith, e))
set_zeros (suc n) zero more v e = let same : n ≡ more = omega (arith, e) in ap (λ (k : ℕ). v ∷ replicate k (pos 0)) same
set_zeros (suc n) (suc zeros) more v e = ap (λ (l : List ℤ). pos 0 ∷ l) (set_zeros n zeros more v (omega (arith, e)))

-- a value after zeros
pub value_comes : (whole : Whole) (table : TableFields) (bytes : List ℕ) (block : List ℤ) (index : ℕ) (loose : Bool) (cursor to last : Cursor) (value zeros size : ℕ) (v : ℤ)
    → index < 64 → Ok (value, to) ≡ symbol_at table bytes cursor → Value zeros size ≡ symbol_of (64 - index) loose value → Ok (v, last) ≡ extended_at size bytes to
    → Going whole table bytes block index loose cursor
    → Going whole table bytes (set block (get_or zigzag (index + zeros) 0) v) (index + zeros + 1) false last
value_comes whole table bytes block index loose cursor to last value zeros size v below e is there g =
    let s = said whole table bytes block index loose cursor to value (Value zeros size) below e is g in
    let m : Means (64 - index) loose value (Value zeros size) = subst (λ (y : Symbol). Means (64 - index) loose value y) (sym is) (means (64 - index) value loose) in
    let room : zeros < 64 - index = m.3 in
    let within : index + zeros < 64 = omega (arith, room) in
    let left : 64 - index - (zeros + 1) ≡ 64 - (index + zeros + 1) = omega arith in
    let part = replicate zeros (pos 0) ++ v ∷ [] in
    let others = replicate (64 - (index + zeros + 1)) (pos 0) in
    let from : index + zeros - index ≡ zeros = omega arith in
    let size_of_part : length part ≡ zeros + 1 = length-append (replicate zeros (pos 0)) (v ∷ []) ∙ ap (λ (k : ℕ). k + 1) (length-replicate zeros (pos 0)) in
    record {
      prefix = g.prefix ++ part;
      symbols = s.more;
      enough = let h = s.enough in omega (arith, h);
      long = length-set block (get_or zigzag (index + zeros) 0) v ∙ g.long;
      count = length-append g.prefix part ∙ ap₂ (λ (a b : ℕ). a + b) g.count size_of_part ∙ omega arith;
      kept =
          set_in_zigzag block (index + zeros) v g.long within
          ∙ ap (λ (l : List ℤ). set l (index + zeros) v) g.kept
          ∙ set-append_right g.prefix (replicate (64 - index) (pos 0)) index (index + zeros) v g.count (omega arith)
          ∙ ap (λ (k : ℕ). g.prefix ++ set (replicate (64 - index) (pos 0)) k v) from
          ∙ ap (λ (l : List ℤ). g.prefix ++ l) (set_zeros (64 - index) zeros (64 - (index + zeros + 1)) v (omega (arith, room)))
          ∙ sym (append_assoc g.prefix part others);
      rest =
          s.rest
          ∙ ap (λ (r : Result (ℤ × Cursor) ScanRefusal). prefixed_values g.prefix (and_then r (λ y. prefixed_values (replicate zeros (pos 0) ++ y.0 ∷ []) (acs_at s.more table (64 - index - (zeros + 1)) false bytes y.1)))) (sym there)
          ∙ after_twice g.prefix part (acs_at s.more table (64 - index - (zeros + 1)) false bytes last)
          ∙ ap (λ (k : ℕ). prefixed_values (g.prefix ++ part) (acs_at s.more table k false bytes last)) left;
    }

pub no_value : (whole : Whole) (table : TableFields) (bytes : List ℕ) (block : List ℤ) (index : ℕ) (loose : Bool) (cursor to : Cursor) (value zeros size : ℕ) (refusal : ScanRefusal)
    → index < 64 → Ok (value, to) ≡ symbol_at table bytes cursor → Value zeros size ≡ symbol_of (64 - index) loose value → Err refusal ≡ extended_at size bytes to
    → Going whole table bytes block index loose cursor → whole ≡ Err refusal
no_value whole table bytes block index loose cursor to value zeros size refusal below e is there g =
    let s = said whole table bytes block index loose cursor to value (Value zeros size) below e is g in
    s.rest
    ∙ ap (λ (r : Result (ℤ × Cursor) ScanRefusal). prefixed_values g.prefix (and_then r (λ y. prefixed_values (replicate zeros (pos 0) ++ y.0 ∷ []) (acs_at s.more table (64 - index - (zeros + 1)) false bytes y.1)))) (sym there)

-- a number that has bits isn't 0
pub some_bits : (n : ℕ) → 0 < category n → 0 < n
some_bits zero some = some
some_bits (suc n) some = omega arith

-- a value that a symbol tells is small
pub value_small : (zeros size left value : ℕ) (loose : Bool) (v : ℤ) → Value zeros size ≡ symbol_of left loose value → unsigned_abs v < 2 ^ size → unsigned_abs v ≤ 1023
value_small zeros size left value loose v is small =
    let m : Means left loose value (Value zeros size) = subst (λ (y : Symbol). Means left loose value y) (sym is) (means left value loose) in
    let few : size ≤ 10 = m.2 in
    let most : 2 ^ size ≤ 2 ^ 10 = pow_mono few in
    omega (arith, most, small)

-- and it isn't 0
pub value_some : (zeros size left value : ℕ) (loose : Bool) (v : ℤ) (bytes : List ℕ) (cursor to : Cursor) → Value zeros size ≡ symbol_of left loose value → Ok (v, to) ≡ extended_at size bytes cursor → 0 < unsigned_abs v
value_some zeros size left value loose v bytes cursor to is there =
    let m : Means left loose value (Value zeros size) = subst (λ (y : Symbol). Means left loose value y) (sym is) (means left value loose) in
    let read = extended_fine size bytes cursor (v, to) (sym there) in
    let bits : category (unsigned_abs v) ≡ size = ap (λ (z : ℤ). category (unsigned_abs z)) read.3 ∙ sized read.0 ∙ read.1 in
    some_bits (unsigned_abs v) (omega (arith, bits, m.1))

pub later : (place : ℕ) → 0 < place → limit place ≡ 1023
later place some = let test : (place == 0) ≡ false = grind (arith, nat_tests) in ap (λ (t : Bool). if t then 32767 else 1023) test

-- as the machine keeps it
pub cast_kept : (v : ℤ) → unsigned_abs v ≤ 1023 → to_z w16 (of_z w16 (to_z w32 (of_z w32 v))) ≡ v
cast_kept v small = ap (λ (z : ℤ). to_z w16 (of_z w16 z)) (kept_word v (omega (arith, small))) ∙ kept_half v (omega (arith, small))

pub coefficient : (place : ℕ) (v : ℤ) → 0 < place → unsigned_abs v ≤ 1023 → IsCoefficient place (to_z w16 (of_z w16 (to_z w32 (of_z w32 v))))
coefficient place v some small =
    let kept = ap unsigned_abs (cast_kept v small) in
    omega (arith, kept, small, later place some)

-- nothing is left
pub all_told : (whole : Whole) (table : TableFields) (bytes : List ℕ) (block : List ℤ) (index : ℕ) (loose : Bool) (cursor : Cursor)
    → 64 ≤ index → Going whole table bytes block index loose cursor → Ok (in_zigzag block, cursor) ≡ whole
all_told whole table bytes block index loose cursor past g =
    let none : 64 - index ≡ 0 = omega arith in
    ap (λ (l : List ℤ). Ok (l, cursor)) (g.kept ∙ ap (λ (k : ℕ). g.prefix ++ replicate k (pos 0)) none)
    ∙ sym (ap (prefixed_values g.prefix) (ap (λ (k : ℕ). acs_at g.symbols table k loose bytes cursor) none ∙ none_left loose table bytes cursor g.symbols))
    ∙ sym g.rest
