-- The bits of blocks are few.
use Rattle.std.proofs.Common.{◌≡◌, ℕ, zero, suc, ◌+◌, ◌*◌, ◌/◌, ◌%◌, ◌≤◌, Bool, List, [], ◌∷◌, length, ℤ, ◌-ℤ◌, unsigned_abs, Ok, refl, sym, ap, ◌∙◌, arith, inl, inr, length-append}
use Rattle.std.specs.List.{AllByRecursion}
use Rattle.std.proofs.lemmas.Bool.{cases_eq, cases_lt}
use Rattle.coef_block.specs.Block.{IsBlock}
use Rattle.jpeg_marker.specs.HuffmanTables.{TableFields, IsTable}
use Rattle.huff_table.proofs.Lookup.{word_size}
use Rattle.coef_block.specs.Categories.{category as size}
use Rattle.scan_spec.specs.ValueBits.{mag}
use Rattle.scan_spec.specs.BlockBits.{word_text, value_text, zeros_text, coefficient_text, ac_text, dc_text, coefficient_at, ac_values, block_text}
use Rattle.scan_spec.specs.Blocks.{last_dc, dcs_after_block, blocks_text}
use Rattle.scan_spec.specs.ScanLaws.{IsSlot, TextsAreShort}
use Rattle.scan_spec.specs.declared.slot.Slot.{Slot}
use Rattle.scan_spec.specs.declared.stop.WriteStop.TheVariants.{DiffRange}
use Rattle.scan_spec.proofs.ValueLemmas.{length-mag, small_size}
use Rattle.scan_spec.proofs.Words.{ac_zero, ac_value, ac_full, ac_end, dc_far, dc_near, block_is, length-ac_values}
use Rattle.scan_spec.proofs.AcsRead.{IsAc}
use Rattle.scan_spec.proofs.AcsAgain.{same_text, stopped, text_parts, word_there, value_there}
use Rattle.scan_spec.proofs.BlocksTaken.{acs_small}

word_few : (table : TableFields) (symbol : ℕ) (bits : List Bool) → IsTable table → word_text table symbol ≡ Ok bits → length bits ≤ 16
word_few table symbol bits is e = (word_size table symbol bits is (word_there table symbol bits e)).1

value_few : (table : TableFields) (symbol k : ℕ) (value : ℤ) (bits : List Bool) → IsTable table → size (unsigned_abs value) ≤ k → value_text table symbol value ≡ Ok bits → length bits ≤ 16 + k
value_few table symbol k value bits is small e =
    let v = value_there table symbol value bits e in
    let a = (word_size table symbol v.0 is v.1).1 in
    let b = ap length v.2 in
    let c = length-append v.0 (mag value) in
    let d = length-mag value in
    omega (arith, a, b, c, d, small)

zeros_few : (q : ℕ) (table : TableFields) (bits : List Bool) → IsTable table → zeros_text table q ≡ Ok bits → length bits ≤ 16 * q
unfolding zeros_text
zeros_few zero table bits is e = let h = ap length (same_text [] bits e) in omega (arith, h)
zeros_few (suc q) table bits is e =
    let p = text_parts (word_text table 0xf0) (zeros_text table q) bits e in
    let a = word_few table 0xf0 p.0 is p.2 in
    let b = zeros_few q table p.1 is p.3 in
    let c = ap length p.4 in
    let d = length-append p.0 p.1 in
    omega (arith, a, b, c, d)

acs_few : (values : List ℤ) (table : TableFields) (before : ℕ) (bits : List Bool) → IsTable table → AllByRecursion IsAc values → ac_text table before values ≡ Ok bits → length bits ≤ 16 * before + 26 * length values
acs_few [] table zero bits is all e = let h = ap length (same_text [] bits (sym (ac_full table 0 refl) ∙ e)) in omega (arith, h)
acs_few [] table (suc before) bits is all e =
    let h = word_few table 0 bits is (sym (ac_end table (suc before) (λ z. omega (arith, z))) ∙ e) in
    omega (arith, h)
acs_few (value ∷ values) table before bits is all e =
    elim (cases_eq (unsigned_abs value) 0) [
      | inl none ↦ let h = acs_few values table (before + 1) bits is all.1 (sym (ac_zero table before value values none) ∙ e) in omega (arith, h)
      | inr some ↦
          let q = before / 16 in
          let symbol = 16 * (before % 16) + size (unsigned_abs value) in
          let p = text_parts (coefficient_text table before value) (ac_text table 0 values) bits (sym (ac_value table before value values some) ∙ e) in
          let c = text_parts (zeros_text table q) (value_text table symbol value) p.0 p.2 in
          let a = zeros_few q table c.0 is c.2 in
          let small : unsigned_abs value ≤ 1023 = all.0 in
          let b = value_few table symbol 10 value c.1 is (small_size 10 (unsigned_abs value) (omega (arith, small))) c.3 in
          let d = acs_few values table 0 p.1 is all.1 p.3 in
          let f = ap length p.4 in
          let g = length-append p.0 p.1 in
          let h = ap length c.4 in
          let i = length-append c.0 c.1 in
          let most : 16 * q ≤ 16 * before = omega arith in
          omega (arith, a, b, d, f, g, h, i, most)
    ]

dc_few : (table : TableFields) (before dc : ℤ) (bits : List Bool) → IsTable table → dc_text table before dc ≡ Ok bits → length bits ≤ 27
dc_few table before dc bits is e =
    elim (cases_lt 2047 (unsigned_abs (dc -ℤ before))) [
      | inl far ↦ absurd (stopped DiffRange bits (sym (dc_far table before dc far) ∙ e))
      | inr least ↦
          let near : unsigned_abs (dc -ℤ before) ≤ 2047 = omega (arith, least) in
          value_few table (size (unsigned_abs (dc -ℤ before))) 11 (dc -ℤ before) bits is (small_size 11 (unsigned_abs (dc -ℤ before)) (omega (arith, near))) (sym (dc_near table before dc near) ∙ e)
    ]

-- the bits of a block
pub block_few : (slot : Slot) (before : ℤ) (block : List ℤ) (bits : List Bool) → IsSlot slot → IsBlock block → block_text slot.codes before block ≡ Ok bits → length bits ≤ 1665
block_few slot before block bits is fits e =
    let p = text_parts (dc_text slot.codes.dc before (coefficient_at block 0)) (ac_text slot.codes.ac 0 (ac_values block)) bits (sym (block_is slot.codes before block) ∙ e) in
    let a = dc_few slot.codes.dc before (coefficient_at block 0) p.0 is.dc p.2 in
    let b = acs_few (ac_values block) slot.codes.ac 0 p.1 is.ac (acs_small block fits) p.3 in
    let c = length-ac_values block in
    let d = ap length p.4 in
    let f = length-append p.0 p.1 in
    omega (arith, a, b, c, d, f)

pub short : TextsAreShort
unfolding blocks_text
short [] before blocks bits all each e = let h = ap length (same_text [] bits e) in omega (arith, h)
short (slot ∷ slots) before [] bits all each e = let h = ap length (same_text [] bits e) in omega (arith, h)
short (slot ∷ slots) before (block ∷ blocks) bits all each e =
    let p = text_parts (block_text slot.codes (last_dc before slot) block) (blocks_text slots (dcs_after_block before slot block) blocks) bits e in
    let a = block_few slot (last_dc before slot) block p.0 all.0 each.0 p.2 in
    let b = short slots (dcs_after_block before slot block) blocks p.1 all.1 each.1 p.3 in
    let c = ap length p.4 in
    let d = length-append p.0 p.1 in
    omega (arith, a, b, c, d)
