-- Blocks that are read have the text that stands there, and their text is read again.
use Rattle.std.proofs.Common.{◌≡◌, ℕ, zero, suc, ◌+◌, ◌<◌, ◌≤◌, Bool, true, false, ◌==◌, if◌then◌else◌, List, [], ◌∷◌, ◌++◌, length, map, drop, get_or, ℤ, pos, ◌+ℤ◌, ◌-ℤ◌, unsigned_abs, Result, Ok, Err, refl, sym, ap, ap₂, ◌∙◌, subst, arith, inl, inr}
use Rattle.std.specs.Prelude.{nat_lt, nat_le, slice_index_or}
use Rattle.std.specs.List.{AllByRecursion}
use Rattle.std.proofs.lemmas.Bool.{eqb-true, false_from_ne_true, cases_lt, false≢true}
use Rattle.std.proofs.lemmas.Bool.Decides.{nat_tests}
use Rattle.std.proofs.lemmas.Int.{ints}
use Rattle.std.proofs.lemmas.List.{get_or-map}
use Rattle.coef_block.specs.Block.{IsBlock, IsCoefficient}
use Rattle.coef_block.specs.Zigzag.{zigzag}
use Rattle.bit_list.specs.Units.{Cursor}
use Rattle.jpeg_marker.specs.HuffmanTables.{TableFields, IsTable}
use Rattle.coef_block.specs.Categories.{category as size}
use Rattle.scan_spec.specs.ValueBits.{mag}
use Rattle.scan_spec.specs.BlockBits.{Text, then_text, coefficient_at, ac_values, ac_text, dc_text, block_text, in_zigzag}
use Rattle.scan_spec.specs.Blocks.{last_dc, dcs_after_block, dcs_after, blocks_text}
use Rattle.scan_spec.specs.ScanReading.{and_then, symbol_at, extended_at, within_dc, difference_at, dc_at, prefixed_values, acs_at, block_at, BlocksRead, dcs_after_read, blocks_at}
use Rattle.scan_spec.specs.ScanLaws.{IsSlot, IsBlockSpelled, AreBlocksSpelled}
use Rattle.scan_spec.specs.declared.slot.Slot.{Slot}
use Rattle.scan_spec.specs.declared.refusal.ScanRefusal.{ScanRefusal}
use Rattle.scan_spec.specs.declared.refusal.ScanRefusal.TheVariants as refusals
use Rattle.scan_spec.specs.declared.stop.WriteStop.TheVariants.{DiffRange}
use Rattle.scan_spec.proofs.ValueLemmas.{bits_again_of_value, small_size}
use Rattle.scan_spec.proofs.Words.{zeros_none, dc_far, dc_near, block_is, length-ac_values}
use Rattle.scan_spec.proofs.BitsTaken.{Takes, takes_none, takes_then, takes_split, fine, not_refused, is_fine, both_fine, then_fine}
use Rattle.scan_spec.proofs.AcsRead.{IsAc, acs_read, symbol_fine, extended_fine, after_fine, sized, below_power, value_whole}
use Rattle.scan_spec.proofs.AcsAgain.{same_text, stopped, text_parts, nothing_taken, value_there, symbol_read, extended_read, acs_again}
use Rattle.scan_spec.proofs.ZigzagLaws.{natural_of, indexes, zigzag_again}

-- ---- a DC

if_fine : {A : Type 0} (t : Bool) (r : Result A ScanRefusal) (refusal : ScanRefusal) (x : A) → (if t then r else Err refusal) ≡ Ok x → (t ≡ true) × (r ≡ Ok x)
if_fine true r refusal x e = (refl, e)
if_fine false r refusal x e = absurd (not_refused refusal x e)

le_is : (a b : ℕ) → nat_le a b ≡ true → a ≤ b
le_is a b e = grind (arith, nat_tests)

is_le : (a b : ℕ) → a ≤ b → nat_le a b ≡ true
is_le a b h = grind (arith, nat_tests)

plus_minus : (a b : ℤ) → (a +ℤ b) -ℤ a ≡ b
plus_minus a b = omega (arith, ints)

minus_plus : (a b : ℤ) → a +ℤ (b -ℤ a) ≡ b
minus_plus a b = omega (arith, ints)

pub dc_read : (table : TableFields) (before dc : ℤ) (bytes : List ℕ) (from to : Cursor) → IsTable table → dc_at table before bytes from ≡ Ok (dc, to)
    → (bits : List Bool) × Takes bytes from bits to × (dc_text table before dc ≡ Ok bits) × (unsigned_abs dc ≤ 32767)
unfolding dc_at
dc_read table before dc bytes from to is e =
    let s = then_fine (symbol_at table bytes from) (λ size. and_then (difference_at bytes size) (λ more. within_dc (before +ℤ more.0) more.1)) (dc, to) e in
    let w = symbol_fine table bytes from s.0 is s.1 in
    let d = then_fine (difference_at bytes s.0) (λ more. within_dc (before +ℤ more.0) more.1) (dc, to) s.2 in
    let n = s.0.0 in
    let f = if_fine (nat_le n 11) (extended_at n bytes s.0.1) (refusals.SymbolBad s.0.1.last) d.0 d.1 in
    let b = extended_fine n bytes s.0.1 d.0 f.1 in
    let value = d.0.0 in
    let g = if_fine (nat_le (unsigned_abs (before +ℤ value)) 32767) (Ok (before +ℤ value, d.0.1)) (refusals.DcRange d.0.1.last) (dc, to) d.2 in
    let p = both_fine (before +ℤ value, d.0.1) (dc, to) g.1 in
    let few : n ≤ 11 = le_is n 11 f.0 in
    let same : dc -ℤ before ≡ value = ap (λ (z : ℤ). z -ℤ before) (sym p.0) ∙ plus_minus before value in
    let near : unsigned_abs (dc -ℤ before) ≤ 2047 = let h = below_power b.0 11 (omega (arith, b.1, few)) in let q = ap unsigned_abs (same ∙ b.3) in omega (arith, h, q) in
    let n_is : size (unsigned_abs (dc -ℤ before)) ≡ n = ap (λ (z : ℤ). size (unsigned_abs z)) (same ∙ b.3) ∙ sized b.0 ∙ b.1 in
    let mag_is : mag (dc -ℤ before) ≡ b.0 = ap mag (same ∙ b.3) ∙ bits_again_of_value b.0 in (
      w.0 ++ b.0,
      subst (λ (c : Cursor). Takes bytes from (w.0 ++ b.0) c) p.1 (takes_then bytes from s.0.1 d.0.1 w.0 b.0 w.2 b.2),
      dc_near table before dc near ∙ value_whole table (size (unsigned_abs (dc -ℤ before))) n (dc -ℤ before) w.0 b.0 n_is w.1 mag_is,
      subst (λ (z : ℤ). unsigned_abs z ≤ 32767) p.0 (le_is (unsigned_abs (before +ℤ value)) 32767 g.0),
    )

pub dc_again : (table : TableFields) (before dc : ℤ) (bytes : List ℕ) (bits : List Bool) (from to : Cursor) → IsTable table → unsigned_abs dc ≤ 32767 → dc_text table before dc ≡ Ok bits → Takes bytes from bits to
    → dc_at table before bytes from ≡ Ok (dc, to)
unfolding dc_at
dc_again table before dc bytes bits from to is small e t =
    elim (cases_lt 2047 (unsigned_abs (dc -ℤ before))) [
      | inl far ↦ absurd (stopped DiffRange bits (sym (dc_far table before dc far) ∙ e))
      | inr least ↦
          let near : unsigned_abs (dc -ℤ before) ≤ 2047 = omega (arith, least) in
          let difference = dc -ℤ before in
          let n = size (unsigned_abs difference) in
          let v = value_there table n difference bits (sym (dc_near table before dc near) ∙ e) in
          let a = takes_split bytes from to v.0 (mag difference) (subst (λ (l : List Bool). Takes bytes from l to) v.2 t) in
          let few : n ≤ 11 = small_size 11 (unsigned_abs difference) (omega (arith, near)) in
          let sum : before +ℤ difference ≡ dc = minus_plus before dc in
          let within : nat_le (unsigned_abs (before +ℤ difference)) 32767 ≡ true = ap (λ (z : ℤ). nat_le (unsigned_abs z) 32767) sum ∙ is_le (unsigned_abs dc) 32767 small in
          ap (λ r. and_then {A = ℕ × Cursor} {B = ℤ × Cursor} r (λ size. and_then (difference_at bytes size) (λ more. within_dc (before +ℤ more.0) more.1))) (symbol_read table bytes from a.0 n v.0 is v.1 a.1)
          ∙ ap (λ (t : Bool). and_then {A = ℤ × Cursor} {B = ℤ × Cursor} (if t then extended_at n bytes a.0 else Err (refusals.SymbolBad a.0.last)) (λ more. within_dc (before +ℤ more.0) more.1)) (is_le n 11 few)
          ∙ ap (λ r. and_then {A = ℤ × Cursor} {B = ℤ × Cursor} r (λ more. within_dc (before +ℤ more.0) more.1)) (extended_read n bytes a.0 to difference refl a.2)
          ∙ ap (λ (t : Bool). if t then fine (before +ℤ difference, to) else Err (refusals.DcRange to.last)) within
          ∙ ap (λ (z : ℤ). fine (z, to)) sum
    ]

-- ---- coefficients by place

-- places of AC coefficients
abbrev acs_only : List ℕ → Bool
acs_only [] = true
acs_only (i ∷ l) = if i == 0 then false else if nat_lt i 64 then acs_only l else false

acs_first : (t u : Bool) (rest : Bool) → (if t then false else if u then rest else false) ≡ true → (t ≡ false) × (u ≡ true) × (rest ≡ true)
acs_first true u rest e = absurd (false≢true e)
acs_first false true rest e = (refl, refl, e)
acs_first false false rest e = absurd (false≢true e)

ac_place : (l : List ℕ) (p : ℕ) → acs_only l ≡ true → p < length l → 0 < get_or l p 0
ac_place [] p e h = absurd (omega (arith, h))
ac_place (i ∷ l) zero e h = let a = (acs_first (i == 0) (nat_lt i 64) (acs_only l) e).0 in grind (arith, nat_tests, a)
ac_place (i ∷ l) (suc p) e h = ac_place l p (acs_first (i == 0) (nat_lt i 64) (acs_only l) e).2 (omega (arith, h))

ac_small : (place : ℕ) (value : ℤ) → 0 < place → IsCoefficient place value → IsAc value
ac_small zero value some is = absurd (omega (arith, some))
ac_small (suc place) value some is =
    let other : (suc place == 0) ≡ false = false_from_ne_true (suc place == 0) (λ z. let h = eqb-true (suc place) 0 z in omega (arith, h)) in
    subst (λ (t : Bool). unsigned_abs value ≤ (if t then 32767 else 1023)) other is

small_ac : (place : ℕ) (value : ℤ) → 0 < place → IsAc value → IsCoefficient place value
small_ac zero value some is = absurd (omega (arith, some))
small_ac (suc place) value some is =
    let other : (suc place == 0) ≡ false = false_from_ne_true (suc place == 0) (λ z. let h = eqb-true (suc place) 0 z in omega (arith, h)) in
    subst (λ (t : Bool). unsigned_abs value ≤ (if t then 32767 else 1023)) (sym other) is

acs_small_at : (block : List ℤ) (l : List ℕ) → IsBlock block → acs_only l ≡ true → AllByRecursion IsAc (map (coefficient_at block) l)
acs_small_at block [] is e = tt
acs_small_at block (i ∷ l) is e =
    let a = acs_first (i == 0) (nat_lt i 64) (acs_only l) e in
    let some : 0 < i = let z = a.0 in grind (arith, nat_tests, z) in
    let below : i < 64 = let z = a.1 in grind (arith, nat_tests, z) in
    (ac_small i (coefficient_at block i) some (is.coefficients i below), acs_small_at block l is a.2)

pub acs_small : (block : List ℤ) → IsBlock block → AllByRecursion IsAc (ac_values block)
unfolding ac_values
acs_small block is = acs_small_at block (drop 1 zigzag) is refl

-- and back
each_small : (values : List ℤ) (i : ℕ) → AllByRecursion IsAc values → IsAc (get_or values i (pos 0))
each_small [] i all = omega arith
each_small (value ∷ values) zero all = all.0
each_small (value ∷ values) (suc i) all = each_small values i all.1

later_small : (dc : ℤ) (values : List ℤ) (i : ℕ) → 0 < i → AllByRecursion IsAc values → IsAc (get_or (dc ∷ values) i (pos 0))
later_small dc values zero some all = absurd (omega (arith, some))
later_small dc values (suc i) some all = each_small values i all

coefficients_are : (dc : ℤ) (values : List ℤ) (place : ℕ) → unsigned_abs dc ≤ 32767 → AllByRecursion IsAc values → place < 64 → IsCoefficient place (slice_index_or (natural_of (dc ∷ values)) place (pos 0))
coefficients_are dc values zero small all below = small
coefficients_are dc values (suc place) small all below =
    let index = get_or indexes (suc place) 0 in
    let is : get_or (natural_of (dc ∷ values)) (suc place) (pos 0) ≡ get_or (dc ∷ values) index (pos 0) = get_or-map (λ i. get_or (dc ∷ values) i (pos 0)) indexes (suc place) 0 (pos 0) below in
    let some : 0 < index = ac_place (drop 1 indexes) place refl (omega (arith, below)) in
    subst (λ (z : ℤ). IsCoefficient (suc place) z) (sym is) (small_ac (suc place) (get_or (dc ∷ values) index (pos 0)) (omega arith) (later_small dc values index some all))

natural_is_block : (dc : ℤ) (values : List ℤ) → unsigned_abs dc ≤ 32767 → AllByRecursion IsAc values → IsBlock (natural_of (dc ∷ values))
natural_is_block dc values small all = record { count = refl; coefficients = λ place below. coefficients_are dc values place small all below }

-- ---- a block

pub record BlockTaken (slot : Slot) (before : List ℤ) (bytes : List ℕ) (from : Cursor) (values : List ℤ) (to : Cursor) : Type 0 where
  pub block : List ℤ
  pub is : IsBlock block
  pub same : values ≡ in_zigzag block
  pub bits : List Bool
  pub takes : Takes bytes from bits to
  pub text : block_text slot.codes (last_dc before slot) block ≡ Ok bits

pub block_read : (slot : Slot) (before : List ℤ) (bytes : List ℕ) (from to : Cursor) (values : List ℤ) → IsSlot slot → block_at slot before bytes from ≡ Ok (values, to) → BlockTaken slot before bytes from values to
unfolding block_at
block_read slot before bytes from to values is e =
    let d = then_fine (dc_at slot.codes.dc (last_dc before slot) bytes from) (λ dc. prefixed_values (dc.0 ∷ []) (acs_at 63 slot.codes.ac 63 false bytes dc.1)) (values, to) e in
    let dc = d.0.0 in
    let a = dc_read slot.codes.dc (last_dc before slot) dc bytes from d.0.1 is.dc d.1 in
    let m = after_fine (dc ∷ []) (acs_at 63 slot.codes.ac 63 false bytes d.0.1) (values, to) d.2 in
    let r = acs_read 63 slot.codes.ac bytes is.ac is.bytes 63 0 false d.0.1 to m.0 (omega arith) (λ z. refl) (λ z. absurd (false≢true z)) m.1 in
    let whole : values ≡ dc ∷ m.0 = m.2 in
    let long : length (dc ∷ m.0) ≡ 64 = ap suc r.long in
    let again : in_zigzag (natural_of (dc ∷ m.0)) ≡ dc ∷ m.0 = zigzag_again (dc ∷ m.0) long in
    let block = natural_of (dc ∷ m.0) in
    let acs : ac_text slot.codes.ac 0 m.0 ≡ Ok r.bits = r.text ∙ ap (λ (t : Text). then_text t (Ok r.bits)) (zeros_none slot.codes.ac) in
    record {
      block = block;
      is = natural_is_block dc m.0 a.3 r.small;
      same = whole ∙ sym again;
      bits = a.0 ++ r.bits;
      takes = takes_then bytes from d.0.1 to a.0 r.bits a.1 r.takes;
      text =
          block_is slot.codes (last_dc before slot) block
          ∙ ap₂ (λ (z : ℤ) (l : List ℤ). then_text (dc_text slot.codes.dc (last_dc before slot) z) (ac_text slot.codes.ac 0 l)) (ap (λ (l : List ℤ). get_or l 0 (pos 0)) again) (ap (drop 1) again)
          ∙ ap₂ then_text a.2 acs;
    }

pub block_again : (slot : Slot) (before block : List ℤ) (bytes : List ℕ) (bits : List Bool) (from to : Cursor) → IsSlot slot → IsBlock block → block_text slot.codes (last_dc before slot) block ≡ Ok bits → Takes bytes from bits to
    → block_at slot before bytes from ≡ Ok (in_zigzag block, to)
unfolding block_at
block_again slot before block bytes bits from to is fits e t =
    let table = slot.codes.ac in
    let dc = coefficient_at block 0 in
    let p = text_parts (dc_text slot.codes.dc (last_dc before slot) dc) (ac_text table 0 (ac_values block)) bits (sym (block_is slot.codes (last_dc before slot) block) ∙ e) in
    let a = takes_split bytes from to p.0 p.1 (subst (λ (l : List Bool). Takes bytes from l to) p.4 t) in
    let first = dc_again slot.codes.dc (last_dc before slot) dc bytes p.0 from a.0 is.dc (fits.coefficients 0 (omega arith)) p.2 a.1 in
    let more = acs_again 63 table bytes is.ac (ac_values block) 63 0 p.1 a.0 to (omega arith) (acs_long block) (acs_small block fits) p.3 a.2 in
    ap (λ r. and_then {A = ℤ × Cursor} {B = List ℤ × Cursor} r (λ dc. prefixed_values (dc.0 ∷ []) (acs_at 63 slot.codes.ac 63 false bytes dc.1))) first
    ∙ ap (prefixed_values (dc ∷ [])) more where
      acs_long : (block : List ℤ) → 63 ≡ 0 + length (ac_values block)
      acs_long block = let h = length-ac_values block in omega (arith, h)

-- ---- the blocks of an MCU

pub record McuTaken (slots : List Slot) (before : List ℤ) (bytes : List ℕ) (from : Cursor) (read : BlocksRead) : Type 0 where
  pub mcu : List (List ℤ)
  pub long : length mcu ≡ length slots
  pub each : AllByRecursion IsBlock mcu
  pub same : read.blocks ≡ map in_zigzag mcu
  pub bits : List Bool
  pub takes : Takes bytes from bits read.cursor
  pub text : blocks_text slots before mcu ≡ Ok bits
  pub last : read.before ≡ dcs_after slots before mcu

pub blocks_read : (slots : List Slot) (before : List ℤ) (bytes : List ℕ) (from : Cursor) (read : BlocksRead) → AllByRecursion IsSlot slots → blocks_at slots before bytes from ≡ Ok read
    → McuTaken slots before bytes from read
unfolding blocks_at blocks_text dcs_after
blocks_read [] before bytes from read all e =
    let p = is_fine (record { blocks = []; before = before; cursor = from }) read e in
    subst (λ (r : BlocksRead). McuTaken [] before bytes from r) p
    (record { mcu = []; long = refl; each = tt; same = refl; bits = []; takes = takes_none bytes from; text = refl; last = refl })
blocks_read (slot ∷ slots) before bytes from read all e =
    let b = then_fine (block_at slot before bytes from) (λ block. and_then (blocks_at slots (dcs_after_read before slot block.0) bytes block.1) (λ more. Ok (record more { blocks = block.0 ∷ more.blocks }))) read e in
    let first = block_read slot before bytes from b.0.1 b.0.0 all.0 b.1 in
    let m = then_fine (blocks_at slots (dcs_after_read before slot b.0.0) bytes b.0.1) (λ more. Ok (record more { blocks = b.0.0 ∷ more.blocks })) read b.2 in
    let after : dcs_after_read before slot b.0.0 ≡ dcs_after_block before slot first.block = ap (dcs_after_read before slot) first.same in
    let rest = blocks_read slots (dcs_after_block before slot first.block) bytes b.0.1 m.0 all.1 (ap (λ (d : List ℤ). blocks_at slots d bytes b.0.1) (sym after) ∙ m.1) in
    let p : record m.0 { blocks = b.0.0 ∷ m.0.blocks } ≡ read = is_fine (record m.0 { blocks = b.0.0 ∷ m.0.blocks }) read m.2 in
    subst (λ (r : BlocksRead). McuTaken (slot ∷ slots) before bytes from r) p (record {
      mcu = first.block ∷ rest.mcu;
      long = ap suc rest.long;
      each = (first.is, rest.each);
      same = ap₂ (λ (l : List ℤ) (ls : List (List ℤ)). l ∷ ls) first.same rest.same;
      bits = first.bits ++ rest.bits;
      takes = takes_then bytes from b.0.1 m.0.cursor first.bits rest.bits first.takes rest.takes;
      text = ap₂ then_text first.text rest.text;
      last = rest.last;
    })

pub blocks_again : (slots : List Slot) (before : List ℤ) (mcu : List (List ℤ)) (bytes : List ℕ) (bits : List Bool) (from to : Cursor) → AllByRecursion IsSlot slots → AllByRecursion IsBlock mcu → length mcu ≡ length slots
    → blocks_text slots before mcu ≡ Ok bits → Takes bytes from bits to
    → blocks_at slots before bytes from ≡ Ok (record { blocks = map in_zigzag mcu; before = dcs_after slots before mcu; cursor = to })
unfolding blocks_at blocks_text dcs_after
blocks_again [] before [] bytes bits from to all each long e t =
    let none : [] ≡ bits = same_text [] bits e in
    let at : from ≡ to = nothing_taken bytes from to (subst (λ (l : List Bool). Takes bytes from l to) (sym none) t) in
    ap (λ (c : Cursor). fine {A = BlocksRead} (record { blocks = []; before = before; cursor = c })) at
blocks_again [] before (block ∷ mcu) bytes bits from to all each long e t = absurd (omega (arith, long))
blocks_again (slot ∷ slots) before [] bytes bits from to all each long e t = absurd (omega (arith, long))
blocks_again (slot ∷ slots) before (block ∷ mcu) bytes bits from to all each long e t =
    let next = dcs_after_block before slot block in
    let p = text_parts (block_text slot.codes (last_dc before slot) block) (blocks_text slots next mcu) bits e in
    let a = takes_split bytes from to p.0 p.1 (subst (λ (l : List Bool). Takes bytes from l to) p.4 t) in
    let first = block_again slot before block bytes p.0 from a.0 all.0 each.0 p.2 a.1 in
    let rest = blocks_again slots next mcu bytes p.1 a.0 to all.1 each.1 (omega (arith, long)) p.3 a.2 in
    ap (λ r. and_then {A = List ℤ × Cursor} {B = BlocksRead} r (λ block. and_then (blocks_at slots (dcs_after_read before slot block.0) bytes block.1) (λ more. Ok (record more { blocks = block.0 ∷ more.blocks })))) first
    ∙ ap (λ r. and_then {A = BlocksRead} {B = BlocksRead} r (λ more. Ok (record more { blocks = in_zigzag block ∷ more.blocks }))) rest

-- ---- the laws

pub block_spelled : IsBlockSpelled
block_spelled slot before bytes from to values is e = let b = block_read slot before bytes from to values is e in (b.block, b.bits, b.is, b.same, b.text, b.takes)

pub blocks_spelled : AreBlocksSpelled
blocks_spelled slots before bytes from read all e = let m = blocks_read slots before bytes from read all e in (m.mcu, m.bits, (m.long, m.each), m.same, m.last, m.text, m.takes)
