-- How many events a block and a segment have, and in which bins.
use Rattle.std.proofs.Common.{◌≡◌, ℕ, zero, suc, ◌+◌, ◌*◌, ◌/◌, ◌<◌, ◌≤◌, arith, refl, Bool, true, false, List, [], ◌∷◌, length}
use Rattle.std.specs.Prelude.{◌==◌, if◌then◌else◌, ℤ, unsigned_abs, ◌-ℤ◌, Option, Some, None, IfSome, option_map, slice_index, slice_index_or}
use Rattle.std.specs.List.{AllByRecursion}
use Rattle.std.proofs.lemmas.Bool.Decides.{nat_tests}
use Rattle.std.proofs.lemmas.Bool.{and_parts, ltb-true, eqb-true}
use Rattle.std.proofs.lemmas.List.{length-append}
use Rattle.coef_block.specs.Block.{IsBlock, IsDc, limit}
use Rattle.coef_block.specs.Categories.{category}
use Rattle.coef_block.specs.BlockRows.{no_block}
use Rattle.dc_predict.specs.DcPrediction.{spread_of}
use Rattle.block_spec.specs.Values.{category_of, nonzeros}
use Rattle.block_spec.specs.Around.{Around, AreAround, value_at, values_in, inner_positions, row_positions, column_positions, magnitude, inner_mean, inner_weight, edge_weight, inner_count, mean, guess, prediction, dc, dc_spread}
use Rattle.block_spec.specs.BlockEvents.{IsBin, most_events, inner_bins, edge_bins, edge_positions, inner_count_events, edge_events, ac_events, dc_events, block_events}
use Rattle.block_spec.specs.Grid.{Grid, cell_at}
use Rattle.block_spec.specs.SegmentEvents.{around_in, class_of, events_at, events_to, segment_events}
use Rattle.block_spec.proofs.CategoryBits.{category_at_most, category_some}
use Rattle.block_spec.proofs.ValuesApart.{IsTen, nonzeros_le}
use Rattle.block_spec.proofs.BlocksOnce.{are_positions, difference, few, inner_ok, paired, parts_of, parts_with}
use Rattle.block_spec.proofs.Predicted.{prediction_fits, dc_fits}
use Rattle.block_spec.proofs.SegmentsOnce.{listed_block, around_blocks}
use Rattle.block_spec.proofs.EventCounts.{value_length, count_length, values_length}
use Rattle.block_spec.proofs.EventBins.{AreIn, AreValueBins, both_in, count_in, value_in, list_in}
use Rattle.block_spec.proofs.ContextBins.{inner_count_bin, inner_step_bin, inner_sign_bin, inner_low_bin, edge_count_bin, edge_step_bin, edge_sign_bin, edge_low_bin, dc_step_bin, dc_sign_bin, dc_low_bin}

-- counts

inner_count_length : (class m n : ℕ) → length (inner_count_events class m n) ≡ 6
unfolding inner_count_events
inner_count_length class m n = count_length _ 6 n

edge_length : (class : ℕ) (column : Bool) (around : Around) (inner : ℕ) (xs : List ℤ) → length xs ≡ 7
    → AllByRecursion IsTen xs
    → length (edge_events class column around inner xs) ≤ 143
unfolding edge_events
edge_length class column around inner xs long tens =
    let rest = values_length (edge_bins class column around) 0 xs tens in
    rw (length-append, count_length) (omega (arith, rest, long))

dc_length : (class : ℕ) (around : Around) (x : ℤ) → category_of x ≤ 16 → length (dc_events class around x) ≤ 32
unfolding dc_events
dc_length class around x small = value_length _ 0 16 x small

pub block_length : (class : ℕ) (around : Around) (b : List ℤ) → IsBlock b → AreAround around
    → length (block_events class around b) ≤ most_events
unfolding block_events ac_events parts_of parts_with
block_length class around b is are =
    let parts = paired b (prediction around) is (prediction_fits around are) in
    let count = inner_count_length class (guess around) (inner_count b) in
    let inner = values_length (inner_bins class around) 0 (values_in inner_positions b) parts.inner_tens in
    let row = edge_length class false around (inner_count b) (values_in row_positions b) parts.row parts.row_tens in
    let column = edge_length class true around (inner_count b) (values_in column_positions b) parts.column parts.column_tens in
    let last = dc_length class around (value_at b 0 -ℤ prediction around) parts.residue in
    let long = parts.inner in
    simp length-append (omega (arith, count, inner, row, column, last, long))

-- weights

position_in : (positions : List ℕ) (place : ℕ) → place < length positions → are_positions positions ≡ true
    → (0 < slice_index positions place) × (slice_index positions place < 64)
position_in [] place below ok = absurd (omega (arith, below))
position_in (p ∷ ps) zero below ok =
    let here = and_parts _ _ (and_parts _ _ ok).0 in
    (ltb-true _ _ here.0, ltb-true _ _ here.1)
position_in (p ∷ ps) (suc place) below ok = position_in ps place (omega (arith, below)) (and_parts _ _ ok).1

ac_limit : (position : ℕ) → 0 < position → limit position ≡ 1023
ac_limit position some = elim (position == 0) as (λ t. position == 0 ≡ t → ◌≡◌ {A = ℕ} (if t then 32767 else 1023) 1023) [
  | true ↦ λ e. absurd (let z : position ≡ 0 = eqb-true _ _ e in omega (arith, z, some))
  | false ↦ λ e. refl
] refl

magnitude_in : (block : Option (List ℤ)) (position : ℕ) → IfSome block IsBlock → 0 < position → position < 64
    → magnitude block position ≤ 1023
magnitude_in None position is some below = omega arith
magnitude_in (Some b) position is some below = let h = is.coefficients position below in let l = ac_limit position some in omega (arith, h, l)

inner_mean_in : (a l d : ℕ) → a ≤ 1023 → l ≤ 1023 → d ≤ 1023 → category (inner_mean a l d) ≤ 10
inner_mean_in a l d p q r = category_at_most 10 (inner_mean a l d) (omega (arith, p, q, r))

inner_weight_in : (around : Around) (position : ℕ) → AreAround around → 0 < position → position < 64
    → inner_weight around position ≤ 10
inner_weight_in around position are some below =
    inner_mean_in (magnitude around.above position) (magnitude around.left position) (magnitude around.diagonal position)
    (magnitude_in around.above position are.above some below) (magnitude_in around.left position are.left some below) (magnitude_in around.diagonal position are.diagonal some below)

edge_mean_in : (a l : ℕ) → a ≤ 1023 → l ≤ 1023 → category ((a + l) / 2) ≤ 10
edge_mean_in a l p q = category_at_most 10 ((a + l) / 2) (omega (arith, p, q))

edge_weight_in : (around : Around) (position : ℕ) → AreAround around → 0 < position → position < 64
    → edge_weight around position ≤ 10
edge_weight_in around position are some below =
    edge_mean_in (magnitude around.above position) (magnitude around.left position)
    (magnitude_in around.above position are.above some below) (magnitude_in around.left position are.left some below)

mean_in : (a l : Option ℕ) → IfSome a (λ n. n ≤ 49) → IfSome l (λ n. n ≤ 49) → mean a l ≤ 49
mean_in (Some a) (Some l) p q = omega (arith, p, q)
mean_in (Some a) None p q = p
mean_in None (Some l) p q = q
mean_in None None p q = omega arith

few_there : (block : Option (List ℤ)) → IfSome (option_map inner_count block) (λ n. n ≤ 49)
few_there None = tt
few_there (Some b) = few b

guess_in : (around : Around) → guess around ≤ 49
unfolding guess
guess_in around = mean_in (option_map inner_count around.above) (option_map inner_count around.left) (few_there around.above) (few_there around.left)

spread_in : (a l : Option ℤ) → IfSome a IsDc → IfSome l IsDc → spread_of a l ≤ 16
spread_in (Some a) (Some l) p q = category_at_most 16 (unsigned_abs (a -ℤ l)) (difference a l p q)
spread_in (Some a) None p q = omega arith
spread_in None l p q = omega arith

dc_spread_in : (around : Around) → AreAround around → dc_spread around ≤ 16
unfolding dc_spread
dc_spread_in around are = spread_in (dc around.above) (dc around.left) (dc_fits around.above are.above) (dc_fits around.left are.left)

-- bins

inner_bins_in : (class : ℕ) (around : Around) (place remain : ℕ) → class < 2 → AreAround around → place < 49
    → 1 ≤ remain → remain ≤ 49
    → AreValueBins IsBin (inner_bins class around place remain) 10
unfolding inner_positions
inner_bins_in class around place remain below are in_block some most =
    let position = position_in inner_positions place in_block inner_ok in
    record {
      step = λ j step. inner_step_bin class place (inner_weight around (slice_index inner_positions place)) (category remain) j below in_block
          (inner_weight_in around (slice_index inner_positions place) are position.0 position.1) (category_some remain some) (category_at_most 6 remain (omega (arith, most))) step;
      sign = λ s least up. inner_sign_bin class place s below in_block least up;
      low = λ s bit two up under. inner_low_bin class place s bit below in_block two up under;
    }

edge_ok : (column : Bool) → (are_positions (edge_positions column) ≡ true) × (length (edge_positions column) ≡ 7)
edge_ok true = (refl, refl)
edge_ok false = (refl, refl)

edge_bins_in : (class : ℕ) (column : Bool) (around : Around) (place remain : ℕ) → class < 2 → AreAround around
    → place < 7 → 1 ≤ remain → remain ≤ 7
    → AreValueBins IsBin (edge_bins class column around place remain) 10
edge_bins_in class column around place remain below are in_edge some most =
    let ok = edge_ok column in
    let position = position_in (edge_positions column) place (omega (arith, ok.1)) ok.0 in
    record {
      step = λ j step. edge_step_bin class column place (edge_weight around (slice_index (edge_positions column) place)) (category remain) j below in_edge
          (edge_weight_in around (slice_index (edge_positions column) place) are position.0 position.1) (category_some remain some) (category_at_most 3 remain (omega (arith, most))) step;
      sign = λ s least up. edge_sign_bin class column place s below in_edge least up;
      low = λ s bit two up under. edge_low_bin class column place s bit below in_edge two up under;
    }

inner_count_in : (class : ℕ) (around : Around) (n : ℕ) → class < 2 → n < 64
    → AreIn IsBin (inner_count_events class (guess around) n)
unfolding inner_count_events
inner_count_in class around n below few =
    let six = category_at_most 6 (guess around) (let h = guess_in around in omega (arith, h)) in
    count_in IsBin _ 6 n (λ node some most. inner_count_bin class (category (guess around)) node below six some most) few

edge_in : (class : ℕ) (column : Bool) (around : Around) (inner : ℕ) (xs : List ℤ) → class < 2 → AreAround around
    → inner ≤ 49 → length xs ≡ 7 → AllByRecursion IsTen xs
    → AreIn IsBin (edge_events class column around inner xs)
unfolding edge_events
edge_in class column around inner xs below are most long tens =
    let six = category_at_most 6 inner (omega (arith, most)) in
    let n = nonzeros_le xs in
    both_in IsBin _ _
    (count_in IsBin _ 3 (nonzeros xs) (λ node some up. edge_count_bin class column (category inner) node below six some up) (omega (arith, n, long)))
    (list_in IsBin (edge_bins class column around) 7 0 xs (λ place remain in_edge some up. edge_bins_in class column around place remain below are in_edge some up) (omega (arith, long)) tens)

dc_in : (class : ℕ) (around : Around) (x : ℤ) → class < 2 → AreAround around → category_of x ≤ 16
    → AreIn IsBin (dc_events class around x)
unfolding dc_events
dc_in class around x below are small =
    value_in IsBin _ 0 16 x (record {
      step = λ j step. dc_step_bin class (dc_spread around) j below (dc_spread_in around are) step;
      sign = λ s least up. dc_sign_bin class s below least up;
      low = λ s bit two up under. dc_low_bin class s bit below two up under;
    }) (omega arith) small

pub block_in : (class : ℕ) (around : Around) (b : List ℤ) → class < 2 → IsBlock b → AreAround around
    → AreIn IsBin (block_events class around b)
unfolding block_events ac_events parts_of parts_with
block_in class around b below is are =
    let parts = paired b (prediction around) is (prediction_fits around are) in
    let most = few b in
    both_in IsBin _ _ (inner_count_in class around (inner_count b) below (omega (arith, most)))
    (both_in IsBin _ _
    (both_in IsBin _ _
    (list_in IsBin (inner_bins class around) 49 0 (values_in inner_positions b) (λ place remain in_block some up. inner_bins_in class around place remain below are in_block some up) (let l = parts.inner in omega (arith, l)) parts.inner_tens)
    (both_in IsBin _ _ (edge_in class false around (inner_count b) (values_in row_positions b) below are most parts.row parts.row_tens)
    (edge_in class true around (inner_count b) (values_in column_positions b) below are most parts.column parts.column_tens)))
    (dc_in class around (value_at b 0 -ℤ prediction around) below are parts.residue))

-- segments

class_in : (component : ℕ) → class_of component < 2
class_in component = grind (arith, nat_tests)

at_length : (g : Grid) (blocks : List (List ℤ)) (n : ℕ) → AllByRecursion IsBlock blocks
    → length (events_at g blocks n) ≤ most_events
unfolding events_at
at_length g blocks n all = block_length _ (around_in g blocks (cell_at g n)) (slice_index_or blocks n no_block) (listed_block blocks n all) (around_blocks g blocks (cell_at g n) all)

to_length : (g : Grid) (blocks : List (List ℤ)) (n : ℕ) → AllByRecursion IsBlock blocks
    → length (events_to g blocks n) ≤ most_events * n
to_length g blocks zero all = omega arith
to_length g blocks (suc n) all =
    let before = to_length g blocks n all in
    let here = at_length g blocks n all in
    rw length-append (omega (arith, before, here))

pub segment_length : (g : Grid) (blocks : List (List ℤ)) → AllByRecursion IsBlock blocks
    → length (segment_events g blocks) ≤ most_events * length blocks
unfolding segment_events
segment_length g blocks all = to_length g blocks (length blocks) all

at_in : (g : Grid) (blocks : List (List ℤ)) (n : ℕ) → AllByRecursion IsBlock blocks → AreIn IsBin (events_at g blocks n)
unfolding events_at
at_in g blocks n all =
    block_in _ (around_in g blocks (cell_at g n)) (slice_index_or blocks n no_block) (class_in (cell_at g n).component) (listed_block blocks n all) (around_blocks g blocks (cell_at g n) all)

to_in : (g : Grid) (blocks : List (List ℤ)) (n : ℕ) → AllByRecursion IsBlock blocks → AreIn IsBin (events_to g blocks n)
to_in g blocks zero all = tt
to_in g blocks (suc n) all = both_in IsBin (events_to g blocks n) (events_at g blocks n) (to_in g blocks n all) (at_in g blocks n all)

pub segment_in : (g : Grid) (blocks : List (List ℤ)) → AllByRecursion IsBlock blocks
    → AreIn IsBin (segment_events g blocks)
unfolding segment_events
segment_in g blocks all = to_in g blocks (length blocks) all
