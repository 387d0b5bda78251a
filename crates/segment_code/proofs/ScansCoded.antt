-- MCUs that were read and coded, and a scan that isn't one.
use Rattle.std.proofs.Common.{◌≡◌, ℕ, suc, ◌<◌, Bool, List, [], ◌∷◌, ◌++◌, length, map, get_or, refl, ap, ap₂, ◌∙◌, sym, arith}
use Rattle.std.specs.Prelude.{ℤ, Some, Err}
use Rattle.std.specs.List.{AllByRecursion}
use Rattle.bit_list.specs.Bits.{IsByte}
use Rattle.coef_block.specs.Block.{IsBlock}
use Rattle.bool_coder.specs.BoolStream.{coded, stream}
use Rattle.adapt_bins.specs.Events.{bools_of}
use Rattle.adapt_bins.specs.PutEvents.{HasPut}
use Rattle.adapt_bins.specs.declared.put.Put.{Put}
use Rattle.jpeg_marker.specs.Plans.{PlanFields}
use Rattle.jpeg_marker.specs.AcceptedPlans.{CanScan}
use Rattle.scan_spec.specs.Slots.{shape_of}
use Rattle.scan_spec.specs.Scans.{Mcu, IsMcu}
use Rattle.scan_spec.specs.ScanLaws.{zigzag_of}
use Rattle.scan_spec.specs.ScanReading.{scan_at}
use Rattle.scan_spec.specs.BlockBits.{in_zigzag}
use Rattle.scan_spec.specs.Items.{Refuses}
use Rattle.scan_spec.specs.declared.slot.Slot.{Slot}
use Rattle.scan_spec.specs.declared.refusal.ScanRefusal.{ScanRefusal}
use Rattle.scan_spec.proofs.ItemsRead.{refused_so}
use Rattle.scan_spec.proofs.PlanShapes.{can_be_shape}
use Rattle.scan_spec.proofs.ZigzagLaws.{zigzag_tells}
use Rattle.block_spec.specs.Grid.{Grid}
use Rattle.block_spec.specs.SegmentEvents.{segment_events}
use Rattle.block_code.specs.SegmentUnderWay.{PutsMore}
use Rattle.segment_code.specs.declared.error.ScanError.{ScanError}
use Rattle.segment_code.specs.declared.error.ScanError.TheVariants.{Scan, NoMemory}
use Rattle.container_spec.specs.ScanStream.{grid_of, blocks_of, blocks_stream, stream_of}

-- bytes by their places
pub bytes_all : (xs : List ℕ) → ((i : ℕ) → get_or xs i 0 < 256) → AllByRecursion IsByte xs
bytes_all [] below = tt
bytes_all (x ∷ xs) below = (below 0, bytes_all xs (λ i. below (suc i)))

-- MCUs in zigzag order are those of one list
block_once : (a b : List ℤ) → IsBlock a → IsBlock b → in_zigzag a ≡ in_zigzag b → a ≡ b
block_once a b is are e = zigzag_tells a b is.count are.count e

heads : {A : Type 0} (x y : A) (xs ys : List A) → x ∷ xs ≡ y ∷ ys → (x ≡ y) × (xs ≡ ys)
heads x y xs ys e = (cc, cc)

blocks_once : (xs ys : List (List ℤ)) → AllByRecursion IsBlock xs → AllByRecursion IsBlock ys
    → map in_zigzag xs ≡ map in_zigzag ys → xs ≡ ys
blocks_once [] [] a b e = refl
blocks_once [] (y ∷ ys) a b e = absurd (omega (arith, ap length e))
blocks_once (x ∷ xs) [] a b e = absurd (omega (arith, ap length e))
blocks_once (x ∷ xs) (y ∷ ys) a b e =
    let h = heads (in_zigzag x) (in_zigzag y) (map in_zigzag xs) (map in_zigzag ys) e in
    ap₂ (λ (p : List ℤ) (ps : List (List ℤ)). p ∷ ps) (block_once x y a.0 b.0 h.0)
    (blocks_once xs ys a.1 b.1 h.1)

pub mcus_once : (slots : List Slot) (xs ys : List Mcu) → AllByRecursion (AllByRecursion IsBlock) xs
    → AllByRecursion (IsMcu slots) ys → zigzag_of xs ≡ zigzag_of ys → xs ≡ ys
mcus_once slots [] [] a b e = refl
mcus_once slots [] (y ∷ ys) a b e = absurd (omega (arith, ap length e))
mcus_once slots (x ∷ xs) [] a b e = absurd (omega (arith, ap length e))
mcus_once slots (x ∷ xs) (y ∷ ys) a b e =
    let h = heads (map in_zigzag x) (map in_zigzag y) (zigzag_of xs) (zigzag_of ys) e in
    ap₂ (λ (p : Mcu) (ps : List Mcu). p ∷ ps) (blocks_once x y a.0 b.0.1 h.0)
    (mcus_once slots xs ys a.1 b.1 h.1)

-- one that isn't is refused for its first item that doesn't stand
pub scan_refused : (bytes : List ℕ) (plan : PlanFields) (refusal : ScanRefusal)
    → CanScan bytes plan
    → scan_at (shape_of plan) bytes plan.header_length ≡ Err refusal
    → Refuses (shape_of plan) bytes plan.header_length refusal
scan_refused bytes plan refusal can read =
    refused_so (shape_of plan) bytes plan.header_length refusal
    (can_be_shape bytes plan can).0 read

-- the events of all blocks were put
no_events : (g : Grid) → segment_events g [] ≡ []
unfolding segment_events
no_events g = refl

pub stream_is : (s t : Put) (g : Grid) (blocks : List (List ℤ)) → HasPut s []
    → PutsMore s g [] t blocks → t.encoder.now ≡ Some (coded (bools_of (segment_events g blocks)))
stream_is s t g blocks fresh put =
    let events : segment_events g blocks ≡ put.events = put.are
    ∙ ap (λ (es : List (ℕ × Bool)). es ++ put.events) (no_events g) in
    (put.puts.on [] fresh).encoder ∙ ap (λ (es : List (ℕ × Bool)). Some (coded (bools_of es)))
    (sym events)

pub stream_told : (plan : PlanFields) (mcus : List Mcu)
    → stream (coded (bools_of (segment_events (grid_of plan) (blocks_of mcus))))
    ≡ stream_of plan mcus
unfolding blocks_stream
stream_told plan mcus = refl

-- want of memory is no refusal
abbrev pub is_memory : ScanError → Type 0
is_memory (NoMemory short) = Unit {0}
is_memory (Scan refusal) = ⊥
