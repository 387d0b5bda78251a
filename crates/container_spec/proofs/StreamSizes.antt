-- How long the streams of a file's segments can be.
use Rattle.std.proofs.Common.{◌≡◌, ℕ, zero, suc, ◌+◌, ◌-◌, ◌*◌, ◌<◌, ◌≤◌, Bool, true, false, List, [], ◌∷◌, ◌++◌, length, map, fold, if◌then◌else◌, refl, ap, length-append, arith, ℤ}
use Rattle.std.specs.Prelude.{nat_lt, flat_map}
use Rattle.std.specs.List.{AllByRecursion, range_with_len}
use Rattle.coef_block.specs.Block.{IsBlock}
use Rattle.bool_coder.specs.BoolStream.{Interval, opening, doubled, widened, chosen, after, coded}
use Rattle.bool_coder.proofs.ReadBack.{length-stream}
use Rattle.adapt_bins.specs.Events.{bools_after, bools_of}
use Rattle.block_spec.specs.Grid.{Grid}
use Rattle.block_spec.specs.SegmentEvents.{segment_events}
use Rattle.block_spec.proofs.BlockBounds.{segment_length}
use Rattle.scan_spec.specs.Scans.{Mcu, IsMcu}
use Rattle.scan_spec.specs.declared.slot.Slot.{Slot}
use Rattle.container_spec.specs.ScanStream.{blocks_of, blocks_stream}

-- a bool shifts seven places at most
widened_few : (n : ℕ) (i : Interval) → (widened n i).shifts ≤ i.shifts + n
widened_few zero i = omega arith
widened_few (suc n) i = elim (nat_lt i.range 128) as
    (λ b. (if b then widened n (doubled i) else i).shifts ≤ i.shifts + suc n) [
      | true ↦ omega (arith, widened_few n (doubled i))
      | false ↦ omega arith
    ]

after_few : (i : Interval) (bool : ℕ × Bool) → (after i bool).shifts ≤ i.shifts + 7
unfolding after
after_few i (prob, true) = widened_few 7 (chosen i prob true)
after_few i (prob, false) = widened_few 7 (chosen i prob false)

coded_few : (bools : List (ℕ × Bool)) (i : Interval)
    → (fold after i bools).shifts ≤ i.shifts + 7 * length bools
coded_few [] i = omega arith
coded_few (bool ∷ bools) i = omega (arith, coded_few bools (after i bool), after_few i bool)

-- a bool for each event
bools_many : (events earlier : List (ℕ × Bool))
    → length (bools_after earlier events) ≡ length events
bools_many [] earlier = refl
bools_many (event ∷ events) earlier = ap suc (bools_many events (earlier ++ event ∷ []))

-- the stream of blocks: 1,304 events of seven bits at most for each
pub stream_short : (g : Grid) (blocks : List (List ℤ)) → AllByRecursion IsBlock blocks
    → length (blocks_stream g blocks) ≤ 1 + 1141 * length blocks
unfolding blocks_stream
stream_short g blocks each =
    let events = segment_events g blocks in
    let bools = bools_of events in
    let long = length-stream (coded bools) in
    let few = coded_few bools opening in
    let many = bools_many events [] in
    let most = segment_length g blocks each in
    omega (arith, long, few, many, most)

-- the blocks of MCUs
pub blocks_long : (slots : List Slot) (mcus : List Mcu) → AllByRecursion (IsMcu slots) mcus
    → length (blocks_of mcus) ≡ length mcus * length slots
blocks_long slots [] all = omega arith
blocks_long slots (mcu ∷ mcus) all =
    omega (arith, length-append mcu (blocks_of mcus), all.0.0, blocks_long slots mcus all.1)

split_product : (a b n : ℕ) → b ≤ a → (a - b) * n + b * n ≡ a * n
split_product a b n less =
    let e : (a - b) + b ≡ a = omega (arith, less) in
    let f = ap (λ x. x * n) e in omega (arith, f)

-- streams of MCUs between cuts
pub streams_short : (f : ℕ → List ℕ) (d : ℕ → ℕ) (n count i : ℕ)
    → ((j : ℕ) → i ≤ j → j < i + count → d j ≤ d (j + 1))
    → ((j : ℕ) → i ≤ j → j < i + count → length (f j) ≤ 1 + 1141 * ((d (j + 1) - d j) * n))
    → length (flat_map (λ stream. stream) (map f (range_with_len i count))) + 1141 * (d i * n)
    ≤ count + 1141 * (d (i + count) * n)
streams_short f d n zero i order each =
    let e : i + 0 ≡ i = omega arith in
    let g : d (i + 0) * n ≡ d i * n = ap (λ k. d k * n) e in
    omega (arith, g)
streams_short f d n (suc count) i order each =
    let here = order i (omega arith) (omega arith) in
    let first = each i (omega arith) (omega arith) in
    let rest = streams_short f d n count (i + 1)
    (λ j after within. order j (omega (arith, after)) (omega (arith, within)))
    (λ j after within. each j (omega (arith, after)) (omega (arith, within))) in
    let e : (i + 1) + count ≡ i + suc count = omega arith in
    let g : d ((i + 1) + count) * n ≡ d (i + suc count) * n = ap (λ k. d k * n) e in
    let p = split_product (d (i + 1)) (d i) n here in
    let more : List ℕ = flat_map (λ stream. stream) (map f (range_with_len (i + 1) count)) in
    let l = length-append (f i) more in
    omega (arith, first, rest, g, p, l)
