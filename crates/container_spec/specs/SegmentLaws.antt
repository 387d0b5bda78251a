-- Law: what holds of each segment (own).
use Rattle.std.specs.Prelude.{ℕ, ◌≡◌, ◌-◌, ◌^◌, ◌<◌, ◌≤◌, All, IfSome, Bool, List, [], ◌∷◌, ◌++◌, length, Option, Some, None, Ok}
use Rattle.std.specs.List.{AllByRecursion}
use Rattle.coef_block.specs.Block.{IsDc}
use Rattle.coef_block.specs.BlockRows.{block_count}
use Rattle.scan_spec.specs.Blocks.{blocks_text}
use Rattle.scan_spec.specs.Slots.{Shape}
use Rattle.scan_spec.specs.Scans.{Mcu, IsMcu, AreMcus, scan_bytes}
use Rattle.scan_spec.specs.Pads.{PadBits, bit_for, text_sum}
use Rattle.scan_spec.specs.Spots.{Spot, mcu_put, mcus_put, spot_in}
use Rattle.scan_spec.specs.ScanLaws.{IsShape}
use Rattle.handover.specs.Handovers.{HandoverFields, IsHandover}
use Rattle.handover.specs.PadSums.{no_pads, pads_with}
use Rattle.handover.specs.declared.pads.PadSum.{PadSum}
use Rattle.handover.specs.declared.outcome.Outcome.TheVariants.{Good}
use Rattle.cut_spec.specs.RowHandovers.{handover_of, handover_at, segment_bytes, mcus_between}
use Rattle.block_spec.specs.Grid.{Grid, IsGrid}
use Rattle.block_spec.specs.ReadingLaws.{HaveGiven}
use Rattle.container_spec.specs.ScanStream.{blocks_of, blocks_stream}
use Rattle.container_spec.specs.Segments.{SegmentFields, Progress, with_prefix, ending, mcus_output, segment_output}

-- what the MCUs from a spot on pad
abbrev pub mcus_sum : Shape → PadBits → Spot → List Mcu → PadSum
mcus_sum shape pads spot [] = no_pads
mcus_sum shape pads spot (mcu ∷ mcus) =
    pads_with (text_sum shape pads spot (blocks_text shape.slots spot.before mcu))
    (mcus_sum shape pads (spot_in (mcu_put shape (bit_for pads) spot mcu)) mcus)

-- after these MCUs
abbrev pub progress_through : SegmentFields → Progress → List Mcu → Spot → Progress
progress_through s at mcus end = record {
  blocks = at.blocks ++ blocks_of mcus;
  spot = end;
  padded = pads_with at.padded (mcus_sum s.shape s.pads at.spot mcus);
}

-- MCUs whose blocks the stream gives, and that can be put, are read and put
abbrev pub McusArePut : Type 0
McusArePut =
    (s : SegmentFields) (at : Progress) (mcus : List Mcu) (bytes : List ℕ) (end : Spot)
    → HaveGiven s.grid s.stream (at.blocks ++ blocks_of mcus)
    → AllByRecursion (IsMcu s.shape.slots) mcus
    → mcus_put s.shape (bit_for s.pads) at.spot mcus ≡ Ok (bytes, end)
    → mcus_output (length mcus) s at
    ≡ with_prefix bytes (ending s (progress_through s at mcus end))

-- a segment of these MCUs, from one to before another
abbrev pub segment_between : Shape → Grid → PadBits → List Mcu → ℕ → ℕ → ℕ
    → HandoverFields → Option HandoverFields → Option ℕ → SegmentFields
segment_between shape grid pads mcus number from to start next kept = record {
  number = number;
  shape = shape;
  grid = grid;
  pads = pads;
  stream = blocks_stream grid (blocks_of (mcus_between mcus from to));
  start = start;
  from = from;
  count = to - from;
  next = next;
  kept = kept;
}

-- the places that are kept for bytes, if any are, are as many
abbrev pub AreKept : List ℕ → Option ℕ → Type 0
AreKept bytes None = Unit {0}
AreKept bytes (Some kept) = length bytes ≡ kept

-- what the next segment starts from, if there is one, is what is handed over there
abbrev pub IsNextStart : Shape → (ℕ → Bool) → List Mcu → ℕ → Option HandoverFields → Type 0
IsNextStart shape pads mcus to None = Unit {0}
IsNextStart shape pads mcus to (Some kept) = kept ≡ handover_at shape pads mcus to

-- a grid for the blocks of a shape's MCUs
pub record Suits (shape : Shape) (grid : Grid) : Type 0 where
  pub shape_is : IsShape shape
  pub grid_is : IsGrid grid
  pub blocks : length shape.slots ≡ block_count grid.mcu

-- a segment of a scan stands for its slice of the scan, and ends well if places are kept for exactly its bytes, or none
abbrev pub SegmentIsItsSlice : Type 0
SegmentIsItsSlice =
    (shape : Shape) (grid : Grid) (pads : PadBits) (mcus : List Mcu) (scan : List ℕ)
    (number from to : ℕ) (next : Option HandoverFields) (kept : Option ℕ) → Suits shape grid
    → AreMcus shape mcus → scan_bytes shape (bit_for pads) mcus ≡ Ok scan → from ≤ to
    → to ≤ shape.mcus → IsNextStart shape (bit_for pads) mcus to next
    → AreKept (segment_bytes shape (bit_for pads) mcus scan from to) kept
    → (padded : PadSum)
    × (segment_output (segment_between shape grid pads mcus number from to
    (handover_at shape (bit_for pads) mcus from) next kept)
    ≡ (segment_bytes shape (bit_for pads) mcus scan from to, Good padded))

-- what is kept for the next segment is what was reached
abbrev pub Meets : HandoverFields → Option HandoverFields → Type 0
Meets found None = Unit {0}
Meets found (Some kept) = found ≡ kept

-- MCUs that were read and put, whose blocks have the whole stream
pub record IsGood (s : SegmentFields) (at : Progress) (left : ℕ) (bytes : List ℕ) : Type 0 where
  pub mcus : List Mcu
  pub end : Spot
  pub long : length mcus ≡ left
  pub each : AllByRecursion (IsMcu s.shape.slots) mcus
  pub text : mcus_put s.shape (bit_for s.pads) at.spot mcus ≡ Ok (bytes, end)
  pub stream : blocks_stream s.grid (at.blocks ++ blocks_of mcus) ≡ s.stream
  pub seam : Meets (handover_of s.shape end) s.next

-- a spot that can be handed over: less than a byte is begun, and its DCs are those of blocks
pub record IsSpot (spot : Spot) : Type 0 where
  pub few : length spot.begun < 8
  pub dcs : All IsDc spot.before
  pub four : length spot.before ≡ 4

-- a segment whose end and the next one's start can be compared by their bytes: fewer markers than have a field of four
-- bytes, and what the next one starts from is a handover
pub record CanMeet (s : SegmentFields) : Type 0 where
  pub few : s.shape.mcus ≤ 2 ^ 32
  pub next : IfSome s.next IsHandover

-- a segment that ends well has MCUs that were read and put, whose blocks have the whole stream, and what was padded is
-- what these pad
abbrev pub GoodHasItsStream : Type 0
GoodHasItsStream =
    (s : SegmentFields) (at : Progress) (left : ℕ) (bytes : List ℕ) (padded : PadSum)
    → CanMeet s → IsSpot at.spot → HaveGiven s.grid s.stream at.blocks
    → mcus_output left s at ≡ (bytes, Good padded)
    → (good : IsGood s at left bytes)
    × (padded ≡ pads_with at.padded (mcus_sum s.shape s.pads at.spot good.mcus))

-- and has one byte for each of the places that are kept for it, if any are
abbrev pub GoodHasItsPlaces : Type 0
GoodHasItsPlaces =
    (s : SegmentFields) (bytes : List ℕ) (padded : PadSum)
    → segment_output s ≡ (bytes, Good padded) → AreKept bytes s.kept
