-- Statement: the bits of blocks in the order of their MCUs (ITU-T T.81, A.2.3, F.1.1.5.1).
use Rattle.std.specs.Prelude.{List, [], ◌∷◌, ℤ, pos, Ok, slice_set, slice_index_or}
use Rattle.scan_spec.specs.BlockBits.{Text, then_text, coefficient_at, block_text}
use Rattle.scan_spec.specs.declared.slot.Slot.{Slot}

-- PRED, the DC of the component's last block; `before` has one for each component of the frame (F.1.1.5.1)
abbrev pub last_dc : List ℤ → Slot → ℤ
last_dc before slot = slice_index_or before slot.component (pos 0)

-- the last DC of each component after one more block
abbrev pub dcs_after_block : List ℤ → Slot → List ℤ → List ℤ
dcs_after_block before slot block = slice_set before slot.component (coefficient_at block 0)

-- and after several
unfoldable pub dcs_after : List Slot → List ℤ → List (List ℤ) → List ℤ
dcs_after [] before blocks = before
dcs_after (slot ∷ slots) before [] = before
dcs_after (slot ∷ slots) before (block ∷ blocks) =
    dcs_after slots (dcs_after_block before slot block) blocks

-- blocks in their slots, each coded by the last DC of its component (A.2.3, F.1.1.5.1)
unfoldable pub blocks_text : List Slot → List ℤ → List (List ℤ) → Text
blocks_text [] before blocks = Ok []
blocks_text (slot ∷ slots) before [] = Ok []
blocks_text (slot ∷ slots) before (block ∷ blocks) =
    then_text (block_text slot.codes (last_dc before slot) block)
    (blocks_text slots (dcs_after_block before slot block) blocks)
