-- The bins of contexts lie below the count of bins.
use Rattle.std.proofs.Common.{ℕ, ◌+◌, ◌*◌, ◌-◌, ◌<◌, ◌≤◌, arith, Bool, true, false}
use Rattle.std.proofs.Math.Nat.{mul-le-mul_right, mul-le-mul_left}
use Rattle.coef_context.specs.BinNumbers.{bin_number, low_bit_index}
use Rattle.coef_context.specs.declared.context.Context.TheVariants.{InnerCount, InnerStep, EdgeCount, EdgeStep, DcStep, Sign, Low}
use Rattle.coef_context.specs.declared.context.Kind.TheVariants.{Inner, Dc}
use Rattle.coef_context.proofs.Radix.{rows_is}
use Rattle.coef_context.specs.ValueBins.{kind_of}
use Rattle.block_spec.specs.BlockEvents.{IsBin}

square : (m n : ℕ) → m ≤ n → m * m ≤ n * n
square m n le =
    let a : m * m ≤ n * m = mul-le-mul_right m le in
    let b : n * m ≤ n * n = mul-le-mul_left n le in
    omega (arith, a, b)

-- the lower bits of the categories up to n + 1
low_index : (n s bit : ℕ) → 2 ≤ s → bit + 2 ≤ s → s ≤ n + 1 → 2 * low_bit_index s bit < n + n * n
low_index n s bit two under most =
    let rows = rows_is 1 (s - 2) in
    let up = square (s - 2 + 1) n (omega arith) in
    omega (arith, rows, up)

pub inner_count_bin : (class guess node : ℕ) → class < 2 → guess ≤ 6 → 1 ≤ node → node < 64
    → IsBin (bin_number class (InnerCount guess node))
inner_count_bin class guess node below few some most = omega arith

pub inner_step_bin : (class place weight left step : ℕ) → class < 2 → place < 49 → weight ≤ 10 → 1 ≤ left → left ≤ 6
    → step < 10
    → IsBin (bin_number class (InnerStep place weight left step))
inner_step_bin class place weight left step below in_block light some most steps = omega arith

pub edge_count_bin : (class : ℕ) (column : Bool) (inner node : ℕ) → class < 2 → inner ≤ 6 → 1 ≤ node → node < 8
    → IsBin (bin_number class (EdgeCount column inner node))
edge_count_bin class true inner node below few some most = omega arith
edge_count_bin class false inner node below few some most = omega arith

pub edge_step_bin : (class : ℕ) (column : Bool) (place weight left step : ℕ) → class < 2 → place < 7 → weight ≤ 10
    → 1 ≤ left → left ≤ 3 → step < 10
    → IsBin (bin_number class (EdgeStep column place weight left step))
edge_step_bin class true place weight left step below in_edge light some most steps = omega arith
edge_step_bin class false place weight left step below in_edge light some most steps = omega arith

pub dc_step_bin : (class spread step : ℕ) → class < 2 → spread ≤ 16 → step < 16
    → IsBin (bin_number class (DcStep spread step))
dc_step_bin class spread step below most steps = omega arith

pub inner_sign_bin : (class place s : ℕ) → class < 2 → place < 49 → 1 ≤ s → s ≤ 10
    → IsBin (bin_number class (Sign Inner place s))
inner_sign_bin class place s below in_block some most = omega arith

pub edge_sign_bin : (class : ℕ) (column : Bool) (place s : ℕ) → class < 2 → place < 7 → 1 ≤ s → s ≤ 10
    → IsBin (bin_number class (Sign (kind_of column) place s))
edge_sign_bin class true place s below in_edge some most = omega arith
edge_sign_bin class false place s below in_edge some most = omega arith

pub dc_sign_bin : (class s : ℕ) → class < 2 → 1 ≤ s → s ≤ 16 → IsBin (bin_number class (Sign Dc 0 s))
dc_sign_bin class s below some most = omega arith

pub inner_low_bin : (class place s bit : ℕ) → class < 2 → place < 49 → 2 ≤ s → s ≤ 10 → bit + 2 ≤ s
    → IsBin (bin_number class (Low Inner place s bit))
inner_low_bin class place s bit below in_block two most under = let h = low_index 9 s bit two under (omega arith) in omega (arith, h)

pub edge_low_bin : (class : ℕ) (column : Bool) (place s bit : ℕ) → class < 2 → place < 7 → 2 ≤ s → s ≤ 10 → bit + 2 ≤ s
    → IsBin (bin_number class (Low (kind_of column) place s bit))
edge_low_bin class true place s bit below in_edge two most under = let h = low_index 9 s bit two under (omega arith) in omega (arith, h)
edge_low_bin class false place s bit below in_edge two most under = let h = low_index 9 s bit two under (omega arith) in omega (arith, h)

pub dc_low_bin : (class s bit : ℕ) → class < 2 → 2 ≤ s → s ≤ 16 → bit + 2 ≤ s
    → IsBin (bin_number class (Low Dc 0 s bit))
dc_low_bin class s bit below two most under = let h = low_index 15 s bit two under (omega arith) in omega (arith, h)
