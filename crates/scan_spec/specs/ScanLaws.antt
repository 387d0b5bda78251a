-- Law: what holds of every scan (ITU-T T.81, B.2.1, F.1.2, F.2.2).
use Rattle.std.specs.Prelude.{ℕ, ◌≡◌, ◌+◌, ◌*◌, ◌<◌, ◌≤◌, Bool, List, ◌++◌, length, take, drop, map, unwrap_or, slice_set, slice_index, Ok, Err, ℤ}
use Rattle.std.specs.List.{AllByRecursion}
use Rattle.bit_list.specs.Bits.{IsByte}
use Rattle.bit_list.specs.Units.{Cursor, starting, bits_at}
use Rattle.bit_list.specs.BitSpans.{Spans}
use Rattle.coef_block.specs.Block.{IsBlock}
use Rattle.coef_block.specs.Zigzag.{zigzag}
use Rattle.jpeg_marker.specs.HuffmanTables.{IsTable}
use Rattle.scan_spec.specs.BlockBits.{block_text, in_zigzag}
use Rattle.scan_spec.specs.Blocks.{last_dc, dcs_after, blocks_text}
use Rattle.scan_spec.specs.TextBounds.{block_bits}
use Rattle.scan_spec.specs.Slots.{Shape}
use Rattle.scan_spec.specs.Pads.{bits_sum}
use Rattle.scan_spec.specs.Scans.{Mcu, Bytes, IsMcu, AreMcus, IsScan, intervals_of, pad_counts, scan_bytes}
use Rattle.scan_spec.specs.Spots.{Spot, Put, first_spot, interval_number, then_put, mcu_put, mcus_put, put_first, bytes_done, spot_at}
use Rattle.scan_spec.specs.ScanReading.{and_then, Standing, block_at, BlocksRead, blocks_at, after_mcu, mcu_at, scan_at}
use Rattle.scan_spec.specs.ScanPads.{scan_pads, scan_sum}
use Rattle.scan_spec.specs.Items.{Item, Stage, Path, IsStuck, first_stage, Refuses, IsOverAt}
use Rattle.scan_spec.specs.declared.slot.Slot.{Slot}
use Rattle.scan_spec.specs.declared.refusal.ScanRefusal.{ScanRefusal}

-- a slot of a component that there can be, with tables; the symbols of AC coefficients are bytes (B.2.4.2)
pub record IsSlot (slot : Slot) : Type 0 where
  pub component : slot.component < 4
  pub dc : IsTable slot.codes.dc
  pub ac : IsTable slot.codes.ac
  pub bytes : AllByRecursion IsByte slot.codes.ac.values

-- a scan that has an MCU, of one block at least
pub record IsShape (shape : Shape) : Type 0 where
  pub some : 0 < length shape.slots
  pub slots : AllByRecursion IsSlot shape.slots
  pub mcus : 0 < shape.mcus

-- bytes have a scan from a place up to another
pub record Begins (shape : Shape) (mcus : List Mcu) (pads : List Bool) (bytes : List ℕ)
    (place after : ℕ) : Type 0 where
  pub scan : List ℕ
  pub is : IsScan shape mcus pads scan
  pub text : drop place bytes ≡ scan ++ drop after bytes
  pub within : after ≤ length bytes
  pub long : after ≡ place + length scan

-- MCUs in zigzag order
abbrev pub zigzag_of : List Mcu → List (List (List ℤ))
zigzag_of mcus = map (λ mcu. map in_zigzag mcu) mcus

-- the coefficients in zigzag order determine a block
abbrev pub ZigzagDetermines : Type 0
ZigzagDetermines = (a b : List ℤ) → length a ≡ 64 → length b ≡ 64 → in_zigzag a ≡ in_zigzag b → a ≡ b

-- setting one there sets it among them
abbrev pub IsSetInZigzag : Type 0
IsSetInZigzag =
    (block : List ℤ) (index : ℕ) (value : ℤ) → length block ≡ 64 → index < 64
    → in_zigzag (slice_set block (slice_index zigzag index) value)
    ≡ slice_set (in_zigzag block) index value

-- the bits of blocks are few
abbrev pub TextsAreShort : Type 0
TextsAreShort =
    (slots : List Slot) (before : List ℤ) (blocks : List (List ℤ)) (bits : List Bool)
    → AllByRecursion IsSlot slots → AllByRecursion IsBlock blocks
    → blocks_text slots before blocks ≡ Ok bits
    → length bits ≤ block_bits * length blocks

-- these are the bits from a cursor to another
abbrev pub Stand : List ℕ → Cursor → List Bool → Cursor → Type 0
Stand bytes from bits to = bits_at (length bits) bytes from ≡ Ok (bits, to)

-- a block that is read has the bits between the two cursors
abbrev pub IsBlockSpelled : Type 0
IsBlockSpelled =
    (slot : Slot) (before : List ℤ) (bytes : List ℕ) (from to : Cursor) (values : List ℤ)
    → IsSlot slot → block_at slot before bytes from ≡ Ok (values, to)
    → (block : List ℤ) × (bits : List Bool) × IsBlock block × (values ≡ in_zigzag block)
    × (block_text slot.codes (last_dc before slot) block ≡ Ok bits) × Stand bytes from bits to

-- a block whose bits are there is read, whatever follows
abbrev pub IsBlockReadAgain : Type 0
IsBlockReadAgain =
    (slot : Slot) (before block : List ℤ) (bytes : List ℕ) (bits : List Bool) (from to : Cursor)
    → IsSlot slot → IsBlock block → block_text slot.codes (last_dc before slot) block ≡ Ok bits
    → Stand bytes from bits to → block_at slot before bytes from ≡ Ok (in_zigzag block, to)

-- the blocks of an MCU that are read have the bits between, with the last DCs then
abbrev pub AreBlocksSpelled : Type 0
AreBlocksSpelled =
    (slots : List Slot) (before : List ℤ) (bytes : List ℕ) (from : Cursor) (read : BlocksRead)
    → AllByRecursion IsSlot slots → blocks_at slots before bytes from ≡ Ok read
    → (mcu : Mcu) × (bits : List Bool) × IsMcu slots mcu × (read.blocks ≡ map in_zigzag mcu)
    × (read.before ≡ dcs_after slots before mcu) × (blocks_text slots before mcu ≡ Ok bits)
    × Stand bytes from bits read.cursor

-- blocks of an MCU whose bits are there are read
abbrev pub AreBlocksReadAgain : Type 0
AreBlocksReadAgain =
    (slots : List Slot) (before : List ℤ) (mcu : Mcu) (bytes : List ℕ) (bits : List Bool)
    (from to : Cursor) → AllByRecursion IsSlot slots → IsMcu slots mcu
    → blocks_text slots before mcu ≡ Ok bits
    → Stand bytes from bits to
    → blocks_at slots before bytes from
    ≡ Ok (record { blocks = map in_zigzag mcu; before = dcs_after slots before mcu; cursor = to })

-- a writer's spot and a reader's standing agree, the writer's next byte having its place here: the bits of the byte
-- begun are those that the reader read from there, and both have the same last DCs and count of MCUs
pub record StandTogether (bytes : List ℕ) (place : ℕ) (spot : Spot) (at : Standing) : Type 0 where
  pub begun : length spot.begun < 8
  pub spans : Spans bytes (starting place 0) spot.begun at.cursor
  pub before : spot.before ≡ at.before
  pub count : spot.count ≡ at.count

-- an MCU that is read has the bytes that are there, its interval's pad bit being the one that was read, if one was,
-- and both agree after it
abbrev pub IsMcuSpelled : Type 0
IsMcuSpelled =
    (shape : Shape) (bytes : List ℕ) (place : ℕ) (spot : Spot) (at next : Standing)
    (blocks : List (List ℤ)) (pads : ℕ → Bool) → IsShape shape → AllByRecursion IsByte bytes
    → StandTogether bytes place spot at → mcu_at shape bytes at ≡ Ok (blocks, next)
    → (let pad = pads (interval_number shape at.count) in unwrap_or next.pad pad ≡ pad)
    → (mcu : Mcu) × (text : List ℕ) × (after : Spot) × IsMcu shape.slots mcu
    × (blocks ≡ map in_zigzag mcu) × (mcu_put shape pads spot mcu ≡ Ok (text, after))
    × (drop place bytes ≡ text ++ drop (place + length text) bytes)
    × StandTogether bytes (place + length text) after next

-- an MCU whose bits are at the cursor is read, and then its pad bits and marker, if they are due
abbrev pub IsMcuReadAgain : Type 0
IsMcuReadAgain =
    (shape : Shape) (bytes : List ℕ) (at : Standing) (mcu : Mcu) (bits : List Bool) (to : Cursor)
    → IsShape shape → IsMcu shape.slots mcu → blocks_text shape.slots at.before mcu ≡ Ok bits
    → Stand bytes at.cursor bits to
    → mcu_at shape bytes at
    ≡ and_then (after_mcu shape bytes at
    (record {
      blocks = map in_zigzag mcu;
      before = dcs_after shape.slots at.before mcu;
      cursor = to;
    })) (λ next. Ok (map in_zigzag mcu, next))

-- a scan that is read has the bytes that are there
abbrev pub IsSpelled : Type 0
IsSpelled =
    (shape : Shape) (bytes : List ℕ) (place : ℕ) (blocks : List (List (List ℤ))) (end : Standing)
    → IsShape shape → AllByRecursion IsByte bytes → place ≤ length bytes
    → scan_at shape bytes place ≡ Ok (blocks, end)
    → (mcus : List Mcu) × (blocks ≡ zigzag_of mcus)
    × Begins shape mcus (scan_pads shape bytes place) bytes place end.cursor.next

-- and a scan whose bytes are there is read
abbrev pub IsReadAgain : Type 0
IsReadAgain =
    (shape : Shape) (bytes : List ℕ) (place after : ℕ) (mcus : List Mcu) (pads : List Bool)
    → IsShape shape → Begins shape mcus pads bytes place after
    → (end : Standing) × (scan_at shape bytes place ≡ Ok (zigzag_of mcus, end))
    × (end.cursor.next ≡ after) × (scan_pads shape bytes place ≡ pads)

-- what its pad bits come to is what was read
abbrev pub IsSummed : Type 0
IsSummed =
    (shape : Shape) (bytes : List ℕ) (place after : ℕ) (mcus : List Mcu) (pads : List Bool)
    → IsShape shape → Begins shape mcus pads bytes place after
    → scan_sum shape bytes place
    ≡ bits_sum (pad_counts shape.slots (intervals_of shape mcus)) pads

-- bytes determine the MCUs, the pad bit of each interval, the scan's bytes and what follows
abbrev pub OneScan : Type 0
OneScan =
    (shape : Shape) (mcus others : List Mcu) (pads bits : List Bool) (a b x y : List ℕ)
    → IsShape shape → IsScan shape mcus pads a → IsScan shape others bits b → a ++ x ≡ b ++ y
    → (mcus ≡ others) × (pads ≡ bits) × (a ≡ b) × (x ≡ y)

-- a scan that can't be read is refused for the item at which it stops
abbrev pub IsRefusalOfItems : Type 0
IsRefusalOfItems =
    (shape : Shape) (bytes : List ℕ) (place : ℕ) (refusal : ScanRefusal) → IsShape shape
    → scan_at shape bytes place ≡ Err refusal → Refuses shape bytes place refusal

-- and the items of one that is read continue to its end
abbrev pub IsEndOfItems : Type 0
IsEndOfItems =
    (shape : Shape) (bytes : List ℕ) (place : ℕ) (blocks : List (List (List ℤ))) (end : Standing)
    → IsShape shape → scan_at shape bytes place ≡ Ok (blocks, end)
    → IsOverAt shape bytes place (scan_pads shape bytes place) end.cursor.next

-- bytes have one outcome, so that both hold the other way round too
abbrev pub OneOutcome : Type 0
OneOutcome =
    (shape : Shape) (bytes : List ℕ) (place after : ℕ) (pads : List Bool)
    (refusal other : ScanRefusal) → IsShape shape → Refuses shape bytes place refusal
    → (Refuses shape bytes place other → refusal ≡ other) × (IsOverAt shape bytes place pads after → ⊥)

-- no items that are there continue past those that stop, so that these are the longest list
abbrev pub IsLongest : Type 0
IsLongest =
    (shape : Shape) (bytes : List ℕ) (place : ℕ) (items others : List Item) (last stage : Stage)
    (end at : Cursor) (refusal : ScanRefusal) → IsShape shape
    → Path shape bytes (first_stage shape) (starting place 0) items last end
    → IsStuck shape bytes last.run last.due end refusal
    → Path shape bytes (first_stage shape) (starting place 0) others stage at → (more : List Item)
    × (items ≡ others ++ more)

-- the bytes alone
abbrev pub bytes_in : Put → Bytes
bytes_in (Ok made) = Ok made.0
bytes_in (Err stop) = Err stop

-- MCUs that are put one by one are the whole scan, or stop for the same cause
abbrev pub IsPutWhole : Type 0
IsPutWhole =
    (shape : Shape) (pads : ℕ → Bool) (mcus : List Mcu) → IsShape shape → AreMcus shape mcus
    → bytes_in (mcus_put shape pads first_spot mcus) ≡ scan_bytes shape pads mcus

-- parts that are put one after the other are the whole
abbrev pub IsPutInParts : Type 0
IsPutInParts =
    (shape : Shape) (pads : ℕ → Bool) (spot : Spot) (mcus more : List Mcu)
    → mcus_put shape pads spot (mcus ++ more)
    ≡ then_put (mcus_put shape pads spot mcus) (λ next. mcus_put shape pads next more)

-- all MCUs complete the whole scan
abbrev pub IsDoneWhole : Type 0
IsDoneWhole =
    (shape : Shape) (pads : ℕ → Bool) (mcus : List Mcu) (scan : List ℕ) → IsShape shape
    → AreMcus shape mcus → scan_bytes shape pads mcus ≡ Ok scan
    → bytes_done shape pads mcus (length mcus) ≡ length scan

-- the first MCUs put the scan's first bytes, and the others put the rest from the spot after them
abbrev pub IsDoneInParts : Type 0
IsDoneInParts =
    (shape : Shape) (pads : ℕ → Bool) (mcus : List Mcu) (scan : List ℕ) (n : ℕ) → IsShape shape
    → AreMcus shape mcus → scan_bytes shape pads mcus ≡ Ok scan
    → (put_first shape pads mcus n
    ≡ Ok (take (bytes_done shape pads mcus n) scan, spot_at shape pads mcus n))
    × (bytes_in (mcus_put shape pads (spot_at shape pads mcus n) (drop n mcus))
    ≡ Ok (drop (bytes_done shape pads mcus n) scan))

-- more MCUs complete no fewer bytes
abbrev pub IsDoneInOrder : Type 0
IsDoneInOrder =
    (shape : Shape) (pads : ℕ → Bool) (mcus : List Mcu) (scan : List ℕ) (n more : ℕ)
    → IsShape shape → AreMcus shape mcus → scan_bytes shape pads mcus ≡ Ok scan
    → bytes_done shape pads mcus n ≤ bytes_done shape pads mcus (n + more)
