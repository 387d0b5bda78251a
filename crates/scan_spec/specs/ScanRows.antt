-- Rows: worked scans, written and read (own).
use Rattle.std.specs.Prelude.{ℕ, ◌≡◌, true, false, List, [], ◌∷◌, map, pos, replicate, Some, Ok, Err}
use Rattle.jpeg_marker.specs.HuffmanTables.{no_table}
use Rattle.jpeg_marker.specs.declared.component.Component.{Component}
use Rattle.huff_table.specs.declared.plan_codes.ComponentCodes.{ComponentCodes}
use Rattle.scan_spec.specs.BlockRows.{level, level_table}
use Rattle.scan_spec.specs.Slots.{Shape, slots_of}
use Rattle.scan_spec.specs.Scans.{Mcu, no_dcs, scan_bytes, intervals_of, pad_counts, pad_at}
use Rattle.scan_spec.specs.Spots.{first_spot, mcu_put, mcus_put, put_first, bytes_done, spot_at}
use Rattle.scan_spec.specs.ScanReading.{scan_at}
use Rattle.scan_spec.specs.ScanPads.{scan_pads}
use Rattle.scan_spec.specs.Items.{Refuses}
use Rattle.scan_spec.specs.declared.slot.Slot.{Slot}
use Rattle.scan_spec.specs.declared.refusal.ScanRefusal.TheVariants.{ScanCut, MarkerInScan, MixedPad, LooseZeros, RunPast, RestartBad}

-- MCUs of one block with these tables
abbrev pub grey : ComponentCodes → ℕ → ℕ → Shape
grey codes mcus interval = record {
  slots = record { component = 0; codes = codes } ∷ [];
  mcus = mcus;
  interval = interval;
}

-- `0` for 01, `1` for 00
abbrev pub ones : ComponentCodes
ones =
    record {
      dc = record { counts = 2 ∷ replicate 15 0; values = 1 ∷ 0 ∷ [] };
      ac = record { counts = 2 ∷ replicate 15 0; values = 1 ∷ 0 ∷ [] };
    }

-- `0` for F0, `1` for 00
abbrev pub loose : ComponentCodes
loose = record {
  dc = level_table;
  ac = record { counts = 2 ∷ replicate 15 0; values = 0xf0 ∷ 0 ∷ [] };
}

-- an MCU of one zero block
abbrev pub blank : Mcu
blank = replicate 64 (pos 0) ∷ []

-- a component by its index and its sampling factors
abbrev pub component : ℕ → ℕ → ℕ → Component
component index h v = record { index = index; id = 0; h = h; v = v; dc = no_table; ac = no_table }

-- how many pad bits each interval has
abbrev pub counts : Shape → List Mcu → List ℕ
counts shape mcus = pad_counts shape.slots (intervals_of shape mcus)

-- the bytes of scans
abbrev pub written : Type 0
written =
    (scan_bytes (grey level 1 0) (λ n. true) (blank ∷ []) ≡ Ok (0x3f ∷ []))
    × (scan_bytes (grey level 1 0) (λ n. false) (blank ∷ []) ≡ Ok (0x00 ∷ []))
    × (scan_bytes (grey level 2 1) (λ n. true) (blank ∷ blank ∷ [])
    ≡ Ok (0x3f ∷ 0xff ∷ 0xd0 ∷ 0x3f ∷ []))
    × (scan_bytes (grey level 3 2) (λ n. true) (blank ∷ blank ∷ blank ∷ [])
    ≡ Ok (0x0f ∷ 0xff ∷ 0xd0 ∷ 0x3f ∷ []))
    × (scan_bytes (grey level 2 2) (λ n. true) (blank ∷ blank ∷ []) ≡ Ok (0x0f ∷ []))
    × (scan_bytes (grey ones 4 0) (λ n. true) (blank ∷ blank ∷ blank ∷ blank ∷ [])
    ≡ Ok (0xff ∷ 0x00 ∷ []))
    × (scan_bytes (grey ones 1 0) (λ n. true) (blank ∷ []) ≡ Ok (0xff ∷ 0x00 ∷ []))
    × (scan_bytes (grey level 2 1) (pad_at (true ∷ false ∷ [])) (blank ∷ blank ∷ [])
    ≡ Ok (0x3f ∷ 0xff ∷ 0xd0 ∷ 0x00 ∷ []))
    × (counts (grey ones 4 0) (blank ∷ blank ∷ blank ∷ blank ∷ []) ≡ 0 ∷ [])
    × (counts (grey level 2 1) (blank ∷ blank ∷ []) ≡ 6 ∷ 6 ∷ [])

-- one byte across four MCUs, and a marker after the MCU that ends an interval
abbrev pub put : Type 0
put =
    (mcus_put (grey ones 4 0) (λ n. true) first_spot (blank ∷ blank ∷ blank ∷ [])
    ≡ Ok (
      [],
      record {
        begun = true ∷ true ∷ true ∷ true ∷ true ∷ true ∷ [];
        before = no_dcs;
        count = 3;
      },
    ))
    × (mcu_put (grey ones 4 0)
    (λ n. true) (record {
      begun = true ∷ true ∷ true ∷ true ∷ true ∷ true ∷ [];
      before = no_dcs;
      count = 3;
    }) blank
    ≡ Ok (0xff ∷ 0x00 ∷ [], record { begun = []; before = no_dcs; count = 4 }))
    × (mcu_put (grey level 2 1) (λ n. true) first_spot blank
    ≡ Ok (0x3f ∷ 0xff ∷ 0xd0 ∷ [], record { begun = []; before = no_dcs; count = 1 }))

-- how many bytes are done: none before the fourth MCU of the byte, and the marker with the MCU that ends an interval
abbrev pub done : Type 0
done =
    (bytes_done (grey ones 4 0) (λ n. true) (blank ∷ blank ∷ blank ∷ blank ∷ []) 1 ≡ 0)
    × (bytes_done (grey ones 4 0) (λ n. true) (blank ∷ blank ∷ blank ∷ blank ∷ []) 2 ≡ 0)
    × (bytes_done (grey ones 4 0) (λ n. true) (blank ∷ blank ∷ blank ∷ blank ∷ []) 3 ≡ 0)
    × (bytes_done (grey ones 4 0) (λ n. true) (blank ∷ blank ∷ blank ∷ blank ∷ []) 4 ≡ 2)
    × (spot_at (grey ones 4 0) (λ n. true) (blank ∷ blank ∷ blank ∷ blank ∷ []) 1
    ≡ record { begun = true ∷ true ∷ []; before = no_dcs; count = 1 })
    × (bytes_done (grey level 2 1) (λ n. true) (blank ∷ blank ∷ []) 1 ≡ 3)
    × (bytes_done (grey level 2 1) (λ n. true) (blank ∷ blank ∷ []) 2 ≡ 4)
    × (put_first (grey level 2 1) (λ n. true) (blank ∷ blank ∷ []) 1
    ≡ Ok (0x3f ∷ 0xff ∷ 0xd0 ∷ [], record { begun = []; before = no_dcs; count = 1 }))

-- scans that are read, and refusals with their places
abbrev pub read : Type 0
read =
    (scan_at (grey level 2 1) (0x3f ∷ 0xff ∷ 0xd0 ∷ 0x3f ∷ 0xff ∷ 0xd9 ∷ []) 0
    ≡ Ok (
      blank ∷ blank ∷ [],
      record {
        cursor = record { left = []; skip = 0; last = 3; next = 4 };
        before = no_dcs;
        count = 2;
        pad = Some true;
      },
    ))
    × (scan_pads (grey level 2 1) (0x3f ∷ 0xff ∷ 0xd0 ∷ 0x00 ∷ []) 0 ≡ true ∷ false ∷ [])
    × (scan_pads (grey level 2 0) (0x00 ∷ []) 0 ≡ false ∷ [])
    × (scan_pads (grey ones 4 0) (0xff ∷ 0x00 ∷ []) 0 ≡ true ∷ [])
    × (scan_at (grey level 1 0) (0x2f ∷ []) 0 ≡ Err (MixedPad 0))
    × (scan_at (grey level 2 1) (0x3e ∷ 0xff ∷ 0xd0 ∷ 0x3f ∷ []) 0 ≡ Err (MixedPad 0))
    × (scan_at (grey level 2 1) (0x3f ∷ 0xff ∷ 0xd1 ∷ 0x3f ∷ []) 0 ≡ Err (RestartBad 1))
    × (scan_at (grey level 2 1) (0x3f ∷ 0xff ∷ []) 0 ≡ Err (ScanCut 2))
    × (scan_at (grey loose 1 0) (0x3f ∷ []) 0 ≡ Err (LooseZeros 0))
    × (scan_at (grey loose 1 0) (0x00 ∷ []) 0 ≡ Err (RunPast 0))
    × (scan_at (grey level 5 0) (0x00 ∷ []) 0 ≡ Err (ScanCut 1))
    × (scan_at (grey level 1 0) (0xff ∷ 0xd9 ∷ []) 0 ≡ Err (MarkerInScan 0))
    × (scan_at (grey ones 1 0) (0xff ∷ 0x00 ∷ 0xff ∷ 0xd9 ∷ []) 0
    ≡ Ok (
      blank ∷ [],
      record {
        cursor = record { left = []; skip = 0; last = 0; next = 2 };
        before = no_dcs;
        count = 1;
        pad = Some true;
      },
    ))
    × (scan_at (grey ones 1 0) (0xff ∷ 0xff ∷ 0xd9 ∷ []) 0 ≡ Err (MarkerInScan 0))

-- the blocks of an MCU whose first component is sampled twice each way
abbrev pub sampled : Type 0
sampled =
    map (λ (slot : Slot). slot.component)
    (slots_of (component 0 2 2 ∷ component 1 1 1 ∷ component 2 1 1 ∷ [])) ≡ 0 ∷ 0 ∷ 0 ∷ 0 ∷ 1 ∷ 2 ∷ []

-- loose zeros by their items
abbrev pub stuck : Type 0
stuck = Refuses (grey loose 1 0) (0x3f ∷ []) 0 (LooseZeros 0)

-- all of them
abbrev pub rows : Type 0
rows = written × put × done × read × sampled × stuck
