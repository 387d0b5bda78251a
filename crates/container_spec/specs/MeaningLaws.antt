-- Law: what holds of the containers of scans (own).
use Rattle.std.specs.Prelude.{ℕ, ◌≡◌, ◌*◌, ◌^◌, ◌<◌, ◌≤◌, Bool, true, false, not, ◌&&◌, List, [], ◌∷◌, length}
use Rattle.std.specs.List.{AllByRecursion}
use Rattle.bit_list.specs.Bits.{IsByte}
use Rattle.jpeg_marker.specs.Plans.{PlanFields}
use Rattle.jpeg_marker.specs.Walks.{Walk}
use Rattle.scan_spec.specs.TextBounds.{mcu_room}
use Rattle.jpeg_marker.specs.KnownBefore.{AreKnown}
use Rattle.scan_spec.specs.FileParts.{IsScanOf}
use Rattle.scan_spec.specs.Pads.{bits_sum}
use Rattle.scan_spec.specs.Scans.{Mcu, intervals_of, pad_counts}
use Rattle.scan_spec.specs.Slots.{shape_of}
use Rattle.box_format.specs.Versions.{layout_of, migratable, IsRead}
use Rattle.box_format.specs.Parts.{BoxParts, ArePlaces, IsBoxIn, can_pad, migrated}
use Rattle.box_format.specs.Single.{IsBox, IsBoxOf, box_bytes}
use Rattle.box_format.specs.declared.version.Version.TheVariants.{First, Second, Fifth}
use Rattle.container_spec.specs.Segments.{segment_output}
use Rattle.container_spec.specs.Meanings.{Meaning, Restored, segment_in}
use Rattle.container_spec.specs.Indexed.{indexed, places_found}
use Rattle.container_spec.specs.Files.{told_pads}
use Rattle.container_spec.specs.ScansFiles.{IsContainerOf}
use Rattle.container_spec.specs.Portions.{StandsFor, meaning_of}

-- the second version can say the pad bits of each scan
abbrev pub SecondCanPad : Type 0
SecondCanPad =
    (w : Walk) (file trailer : List ℕ) (plan : PlanFields) (mcus : List Mcu) (pads : List Bool)
    → AllByRecursion IsByte file → AreKnown w.known → IsScanOf w file plan mcus pads trailer
    → can_pad (layout_of Second).listed (shape_of plan) (told_pads plan mcus pads) ≡ true

-- and the first one can exactly where no two intervals are padded with different bits
abbrev pub FirstCanPad : Type 0
FirstCanPad =
    (plan : PlanFields) (mcus : List Mcu) (pads : List Bool)
    → let sum = bits_sum (pad_counts (shape_of plan).slots (intervals_of (shape_of plan) mcus))
    pads in
    can_pad (layout_of First).listed (shape_of plan) (told_pads plan mcus pads)
    ≡ not (sum.zero && sum.one)

-- a segment's bytes are few: room for an MCU is enough for each of its MCUs, and there are fewer than 2^32
abbrev pub SegmentIsShort : Type 0
SegmentIsShort =
    (w : Walk) (plan : PlanFields) (b : BoxParts) (i : ℕ) → IsBoxIn w plan b → i < length b.handovers
    → length (segment_output (segment_in plan b i)).0 ≤ mcu_room * 2 ^ 32

-- a container that is migrated and the same one in the second version stand for the same
abbrev pub MigratedMeansTheSame : Type 0
MigratedMeansTheSame =
    (plan : PlanFields) (b : BoxParts) (bytes : List ℕ) (meaning : Meaning)
    → AllByRecursion IsByte bytes → IsRead migratable b.version → IsBoxOf plan b bytes
    → StandsFor bytes meaning → StandsFor (box_bytes (migrated b)) meaning

-- a container that stands for a file has, with the places found, one of the fifth version that is the file's, of as
-- many segments
abbrev pub IndexedIsContainer : Type 0
IndexedIsContainer =
    (plan : PlanFields) (b : BoxParts) (bytes file : List ℕ) → AllByRecursion IsByte bytes
    → (layout_of b.version).chunked ≡ false → IsBoxOf plan b bytes
    → meaning_of plan b ≡ record { bytes = file; verdict = Restored }
    → (most : ℕ) × (0 < most) × (most ≤ (layout_of Fifth).most)
    × IsContainerOf b.version (most ∷ []) bytes file
    × IsContainerOf Fifth (most ∷ []) (box_bytes (indexed plan b)) file

-- one that keeps its places already stays as it is
abbrev pub IndexedStays : Type 0
IndexedStays =
    (plan : PlanFields) (b : BoxParts) → IsBox plan b → b.version ≡ Fifth
    → (meaning_of plan b).verdict ≡ Restored → indexed plan b ≡ b

-- the places found of any container fit in 64 bits, rise, and begin with the header's end
abbrev pub PlacesAreFound : Type 0
PlacesAreFound =
    (plan : PlanFields) (b : BoxParts) → IsBox plan b
    → ArePlaces (length b.header) (length b.handovers) (places_found plan b)
