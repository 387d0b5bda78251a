-- The blocks of an MCU, one after the other.
use Rattle.std.proofs.Common.{ap₂, unsigned_abs, ◌≡◌, set, ℕ, ◌+◌, ◌<◌, ◌≤◌, List, [], ◌∷◌, ◌++◌, length, drop, map, get_or, ℤ, pos, Result, Ok, Err, refl, sym, ap, ◌∙◌, append_assoc, append-nil, drop-cons, add-one}
use Rattle.std.proofs.lemmas.List.{drop_all, get_or_read}
use Rattle.std.specs.Int.{w16}
use mir.Val.{to_z, of_z}
use Rattle.huff_table.specs.ComponentTables.{no_codes}
use Rattle.scan_spec.specs.BlockBits.{coefficient_at, in_zigzag}
use Rattle.scan_spec.proofs.SignedValues.{kept_half}
use Rattle.bit_list.specs.Units.{Cursor}
use Rattle.huff_table.specs.declared.plan_codes.ComponentCodes.{ComponentCodes}
use Rattle.scan_spec.specs.Blocks.{last_dc}
use Rattle.scan_spec.specs.ScanReading.{and_then, dcs_after_read, block_at, blocks_at, BlocksRead}
use Rattle.scan_spec.specs.declared.refusal.ScanRefusal.{ScanRefusal}
use Rattle.scan_spec.specs.declared.slot.Slot.{Slot}
use Rattle.scan_decode.specs.ReadResults.{coded_at}
use Rattle.scan_spec.specs.ShapeInside.{slot_in}
use Rattle.scan_decode.specs.McuBlocks.{after_prefix}

abbrev pub Read : Type 0
Read = Result BlocksRead ScanRefusal

pub coded_is_block : (slot : Slot) (before : List ℤ) (bytes : List ℕ) (cursor : Cursor) → coded_at slot.codes (last_dc before slot) bytes cursor ≡ block_at slot before bytes cursor
unfolding block_at
coded_is_block slot before bytes cursor = refl

prefix_twice : (prefix : List (List ℤ)) (block : List ℤ) (r : Read) → after_prefix prefix (and_then r (λ more. Ok (record more { blocks = block ∷ more.blocks }))) ≡ after_prefix (prefix ++ block ∷ []) r
prefix_twice prefix block (Err e) = refl
prefix_twice prefix block (Ok x) = ap (λ (l : List (List ℤ)). Ok (record x { blocks = l })) (sym (append_assoc prefix (block ∷ []) x.blocks))

abbrev rest_of : List Slot → Slot → List ℤ → List ℕ → Result (List ℤ × Cursor) ScanRefusal → Read
rest_of slots slot before bytes r =
    and_then r (λ block. and_then (blocks_at slots (dcs_after_read before slot block.0) bytes block.1) (λ more. Ok (record more { blocks = block.0 ∷ more.blocks })))

first_of : (slot : Slot) (slots : List Slot) (before : List ℤ) (bytes : List ℕ) (cursor : Cursor) → blocks_at (slot ∷ slots) before bytes cursor ≡ rest_of slots slot before bytes (block_at slot before bytes cursor)
unfolding blocks_at
first_of slot slots before bytes cursor = refl

none_of : (before : List ℤ) (bytes : List ℕ) (cursor : Cursor) → blocks_at [] before bytes cursor ≡ Ok (record { blocks = []; before = before; cursor = cursor })
unfolding blocks_at
none_of before bytes cursor = refl

abbrev Whole : List ComponentCodes → Read → List (List ℤ) → List ℕ → List ℤ → List ℕ → Cursor → Type 0
Whole codes whole prefix slots before bytes cursor = whole ≡ after_prefix prefix (blocks_at (map (slot_in codes) slots) before bytes cursor)

next : (codes : List ComponentCodes) (whole : Read) (prefix : List (List ℤ)) (slots : List ℕ) (i : ℕ) (before : List ℤ) (bytes : List ℕ) (cursor : Cursor) → i < length slots
    → Whole codes whole prefix (drop i slots) before bytes cursor
    → whole ≡ after_prefix prefix (rest_of (map (slot_in codes) (drop (i + 1) slots)) (slot_in codes (get_or slots i 0)) before bytes (block_at (slot_in codes (get_or slots i 0)) before bytes cursor))
next codes whole prefix slots i before bytes cursor below e =
    let one = drop-cons slots i 0 below ∙ ap (λ (k : ℕ). get_or slots i 0 ∷ drop k slots) (sym (add-one i)) in
    e ∙ ap (λ (l : List ℕ). after_prefix prefix (blocks_at (map (slot_in codes) l) before bytes cursor)) one
    ∙ ap (after_prefix prefix) (first_of (slot_in codes (get_or slots i 0)) (map (slot_in codes) (drop (i + 1) slots)) before bytes cursor)

pub block_refused : (codes : List ComponentCodes) (whole : Read) (prefix : List (List ℤ)) (slots : List ℕ) (i : ℕ) (before : List ℤ) (bytes : List ℕ) (cursor : Cursor) (refusal : ScanRefusal) → i < length slots
    → Whole codes whole prefix (drop i slots) before bytes cursor → Err refusal ≡ block_at (slot_in codes (get_or slots i 0)) before bytes cursor → Err refusal ≡ whole
block_refused codes whole prefix slots i before bytes cursor refusal below e there =
    ap (λ (r : Result (List ℤ × Cursor) ScanRefusal). after_prefix prefix (rest_of (map (slot_in codes) (drop (i + 1) slots)) (slot_in codes (get_or slots i 0)) before bytes r)) there
    ∙ sym (next codes whole prefix slots i before bytes cursor below e)

pub block_more : (codes : List ComponentCodes) (whole : Read) (prefix : List (List ℤ)) (slots : List ℕ) (i : ℕ) (before : List ℤ) (bytes : List ℕ) (cursor to : Cursor) (block : List ℤ) → i < length slots
    → Whole codes whole prefix (drop i slots) before bytes cursor → Ok (block, to) ≡ block_at (slot_in codes (get_or slots i 0)) before bytes cursor
    → Whole codes whole (prefix ++ block ∷ []) (drop (i + 1) slots) (dcs_after_read before (slot_in codes (get_or slots i 0)) block) bytes to
block_more codes whole prefix slots i before bytes cursor to block below e there =
    next codes whole prefix slots i before bytes cursor below e
    ∙ ap (λ (r : Result (List ℤ × Cursor) ScanRefusal). after_prefix prefix (rest_of (map (slot_in codes) (drop (i + 1) slots)) (slot_in codes (get_or slots i 0)) before bytes r)) (sym there)
    ∙ prefix_twice prefix block (blocks_at (map (slot_in codes) (drop (i + 1) slots)) (dcs_after_read before (slot_in codes (get_or slots i 0)) block) bytes to)

pub no_more : (codes : List ComponentCodes) (whole : Read) (read : List (List ℤ)) (slots : List ℕ) (i : ℕ) (before : List ℤ) (bytes : List ℕ) (cursor : Cursor) → length slots ≤ i
    → Whole codes whole (map in_zigzag read) (drop i slots) before bytes cursor → Ok (record { blocks = map in_zigzag read; before = before; cursor = cursor }) ≡ whole
no_more codes whole read slots i before bytes cursor past e =
    let none : drop i slots ≡ [] = drop_all i slots past in
    sym (
    e ∙ ap (λ (l : List ℕ). after_prefix (map in_zigzag read) (blocks_at (map (slot_in codes) l) before bytes cursor)) none
    ∙ ap (after_prefix (map in_zigzag read)) (none_of before bytes cursor)
    ∙ ap (λ (l : List (List ℤ)). Ok (record { blocks = l; before = before; cursor = cursor })) (append-nil (map in_zigzag read))
    )

-- a block of the machine's component, tables and DC
pub at_slot : (codes : List ComponentCodes) (slots : List ℕ) (i component : ℕ) (tables : ComponentCodes) (before : List ℤ) (bytes given : List ℕ) (cursor : Cursor) (r : Result (List ℤ × Cursor) ScanRefusal)
    → component ≡ get_or slots i 0 → component < length codes → tables ≡ get_or codes component tables → unsigned_abs (get_or before component (pos 0)) ≤ 32767 → given ≡ bytes
    → r ≡ coded_at tables (to_z w16 (of_z w16 (get_or before component (pos 0)))) given cursor → r ≡ block_at (slot_in codes (get_or slots i 0)) before bytes cursor
at_slot codes slots i component tables before bytes given cursor r is within at_cursor small same e =
    e ∙ ap₂ (λ (t : ComponentCodes) (dc : ℤ). coded_at t dc given cursor) (get_or_read codes component tables within at_cursor no_codes) (kept_half (get_or before component (pos 0)) small)
    ∙ ap (λ (b : List ℕ). coded_at (get_or codes component no_codes) (get_or before component (pos 0)) b cursor) same
    ∙ coded_is_block (slot_in codes component) before bytes cursor
    ∙ ap (λ (k : ℕ). block_at (slot_in codes k) before bytes cursor) is

-- the DCs after it
pub after_slot : (codes : List ComponentCodes) (slots : List ℕ) (i component : ℕ) (before block : List ℤ) (dc : ℤ) → component ≡ get_or slots i 0 → dc ≡ coefficient_at block 0 → unsigned_abs dc ≤ 32767
    → dcs_after_read before (slot_in codes (get_or slots i 0)) (in_zigzag block) ≡ set before component (to_z w16 (of_z w16 dc))
after_slot codes slots i component before block dc is value small =
    ap₂ (λ (k : ℕ) (z : ℤ). set before k z) (sym is) (sym value ∙ sym (kept_half dc small))
