-- The blocks of an MCU, one after the other.
use Rattle.std.proofs.Common.{◌≡◌, ◌≤◌, ◌<◌, ◌+◌, ℕ, List, [], ◌∷◌, set, map, drop, length, get_or, ℤ, pos, unsigned_abs, Ok, sym, ap, ap₂, ◌∙◌, subst, arith, drop-cons, add-one}
use Rattle.std.proofs.lemmas.List.{drop_all, get_or_read}
use Rattle.std.specs.List.{All}
use Rattle.huff_table.specs.ComponentTables.{no_codes}
use Rattle.huff_table.specs.declared.plan_codes.ComponentCodes.{ComponentCodes}
use Rattle.scan_spec.specs.BlockBits.{Text, then_text, coefficient_at, block_text}
use Rattle.scan_spec.specs.Blocks.{last_dc, dcs_after_block, dcs_after, blocks_text}
use Rattle.scan_spec.specs.ShapeInside.{slot_in}
use Rattle.scan_spec.specs.declared.slot.Slot.{Slot}
use Rattle.scan_spec.proofs.SignedValues.{kept_half}
use Rattle.scan_write.specs.Outputs.{OutputState}
use Rattle.scan_write.specs.Appending.{HasAppended}
use Rattle.scan_write.proofs.SmallNumbers.{half}

-- the slots and the blocks from a number on
record AreNext (codes : List ComponentCodes) (slots : List ℕ) (mcu : List (List ℤ)) (i : ℕ) (block : List ℤ) : Type 0 where
  first_slot : map (slot_in codes) (drop i slots) ≡ slot_in codes (get_or slots i 0) ∷ map (slot_in codes) (drop (i + 1) slots)
  first_block : drop i mcu ≡ block ∷ drop (i + 1) mcu

are_next : (codes : List ComponentCodes) (slots : List ℕ) (mcu : List (List ℤ)) (i : ℕ) (block : List ℤ) → i < length slots → length mcu ≡ length slots → block ≡ get_or mcu i block
    → AreNext codes slots mcu i block
are_next codes slots mcu i block below long stands =
    let there : i < length mcu = omega arith in
    let more = sym (add-one i) in
    record {
      first_slot = ap (map (slot_in codes)) (drop-cons slots i 0 below ∙ ap (λ (n : ℕ). get_or slots i 0 ∷ drop n slots) more);
      first_block = drop-cons mcu i block there ∙ ap₂ (λ (b : List ℤ) (n : ℕ). b ∷ drop n mcu) (sym stands) more;
    }

-- their text is that of the first block and then the others'
next_text : (codes : List ComponentCodes) (slots : List ℕ) (before : List ℤ) (mcu : List (List ℤ)) (i : ℕ) (block : List ℤ) → i < length slots → length mcu ≡ length slots → block ≡ get_or mcu i block
    → blocks_text (map (slot_in codes) (drop i slots)) before (drop i mcu)
    ≡ then_text (block_text (slot_in codes (get_or slots i 0)).codes (last_dc before (slot_in codes (get_or slots i 0))) block)
    (blocks_text (map (slot_in codes) (drop (i + 1) slots)) (dcs_after_block before (slot_in codes (get_or slots i 0)) block) (drop (i + 1) mcu))
unfolding blocks_text
next_text codes slots before mcu i block below long stands =
    let next = are_next codes slots mcu i block below long stands in
    ap₂ (λ (ss : List Slot) (bs : List (List ℤ)). blocks_text ss before bs) next.first_slot next.first_block

-- and the DCs after them are those after the others
pub next_dcs : (codes : List ComponentCodes) (slots : List ℕ) (before : List ℤ) (mcu : List (List ℤ)) (i : ℕ) (block : List ℤ) → i < length slots → length mcu ≡ length slots → block ≡ get_or mcu i block
    → dcs_after (map (slot_in codes) (drop i slots)) before (drop i mcu)
    ≡ dcs_after (map (slot_in codes) (drop (i + 1) slots)) (dcs_after_block before (slot_in codes (get_or slots i 0)) block) (drop (i + 1) mcu)
unfolding dcs_after
next_dcs codes slots before mcu i block below long stands =
    let next = are_next codes slots mcu i block below long stands in
    ap₂ (λ (ss : List Slot) (bs : List (List ℤ)). dcs_after ss before bs) next.first_slot next.first_block

-- after the last slot no text is left
pub no_text : (codes : List ComponentCodes) (slots : List ℕ) (before : List ℤ) (mcu : List (List ℤ)) (i : ℕ) → length slots ≤ i → blocks_text (map (slot_in codes) (drop i slots)) before (drop i mcu) ≡ Ok []
unfolding blocks_text
no_text codes slots before mcu i past = ap (λ (l : List ℕ). blocks_text (map (slot_in codes) l) before (drop i mcu)) (drop_all i slots past)

-- and no other DCs
pub no_dcs_more : (codes : List ComponentCodes) (slots : List ℕ) (before : List ℤ) (mcu : List (List ℤ)) (i : ℕ) → length slots ≤ i → dcs_after (map (slot_in codes) (drop i slots)) before (drop i mcu) ≡ before
unfolding dcs_after
no_dcs_more codes slots before mcu i past = ap (λ (l : List ℕ). dcs_after (map (slot_in codes) l) before (drop i mcu)) (drop_all i slots past)

-- the slot of a number, by the machine's component and tables
pub record IsSlotAt (codes : List ComponentCodes) (slots : List ℕ) (i component : ℕ) (tables : ComponentCodes) (before : List ℤ) : Type 0 where
  pub slot : component ≡ get_or slots i 0
  pub codes_of : tables ≡ get_or codes component no_codes
  pub small : unsigned_abs (get_or before component (pos 0)) ≤ 32767

pub is_slot_at : (codes : List ComponentCodes) (slots : List ℕ) (i component : ℕ) (tables : ComponentCodes) (before : List ℤ) → i < length slots → length codes ≤ 4 → length before ≡ 4
    → All (λ slot. slot < length codes) slots → All (λ dc. unsigned_abs dc ≤ 32767) before → component ≡ get_or slots i 0 → tables ≡ get_or codes component tables
    → IsSlotAt codes slots i component tables before
is_slot_at codes slots i component tables before below few four within small slot stands =
    let known : component < length codes = subst (λ (k : ℕ). k < length codes) (sym slot) (within i 0 below) in
    let there : component < length before = omega arith in
    record { slot = slot; codes_of = get_or_read codes component tables known stands no_codes; small = small component (pos 0) there }

-- its text is due, and then the others'
pub block_due : (codes : List ComponentCodes) (slots : List ℕ) (i component : ℕ) (tables : ComponentCodes) (before block : List ℤ) (mcu : List (List ℤ)) (whole : Text) (old now : OutputState)
    → IsSlotAt codes slots i component tables before → i < length slots → length mcu ≡ length slots → block ≡ get_or mcu i block
    → HasAppended whole old now (blocks_text (map (slot_in codes) (drop i slots)) before (drop i mcu))
    → HasAppended whole old now
    (then_text (block_text tables (half (get_or before component (pos 0))) block) (blocks_text (map (slot_in codes) (drop (i + 1) slots)) (dcs_after_block before (slot_in codes (get_or slots i 0)) block) (drop (i + 1) mcu)))
block_due codes slots i component tables before block mcu whole old now at below long stands going =
    let rest = blocks_text (map (slot_in codes) (drop (i + 1) slots)) (dcs_after_block before (slot_in codes (get_or slots i 0)) block) (drop (i + 1) mcu) in
    let same =
    ap₂ (λ (t : ComponentCodes) (dc : ℤ). block_text t dc block) at.codes_of (kept_half (get_or before component (pos 0)) at.small)
    ∙ ap (λ (k : ℕ). block_text (slot_in codes k).codes (last_dc before (slot_in codes k)) block) at.slot in
    subst (λ (t : Text). HasAppended whole old now t) (next_text codes slots before mcu i block below long stands ∙ ap (λ (t : Text). then_text t rest) (sym same)) going

-- the DCs after it
pub slot_dcs : (codes : List ComponentCodes) (slots : List ℕ) (i component : ℕ) (before block : List ℤ) (dc : ℤ) → component ≡ get_or slots i 0 → dc ≡ coefficient_at block 0 → unsigned_abs dc ≤ 32767
    → dcs_after_block before (slot_in codes (get_or slots i 0)) block ≡ set before component (half dc)
slot_dcs codes slots i component before block dc is value small =
    ap₂ (λ (k : ℕ) (z : ℤ). set before k z) (sym is) (sym value ∙ sym (kept_half dc small))
