-- The index of a block lies among those of its component.
use Rattle.std.proofs.Common.{◌≡◌, ℕ, zero, suc, ◌+◌, ◌*◌, ◌<◌, ◌≤◌, arith, refl}
use Rattle.std.specs.Prelude.{nat_le, true, false}
use Rattle.std.proofs.lemmas.Bool.Decides.{nat_tests}
use Rattle.std.proofs.Math.Nat.{mul-le-mul_right}
use Rattle.coef_block.specs.BlockRows.{Extents, width, height, offset, index_in, block_count}

-- a row and a column make a number below width times height
pub in_row : (w h row column : ℕ) → row < h → column < w → row * w + column < w * h
in_row w h row column low left =
    let under : row + 1 ≤ h = omega (arith, low) in
    let more : (row + 1) * w ≤ h * w = mul-le-mul_right w under in
    omega (arith, more, left)

-- a block's index is below the next component's first
pub index_below_next : (e : Extents) (component row column : ℕ) → row < height e component → column < width e component
    → index_in e component row column < offset e (suc component)
index_below_next e component row column low left =
    let inside = in_row (width e component) (height e component) row column low left in
    omega (arith, inside)

-- a later component's first block comes later
pub offsets_rise : (e : Extents) (c d : ℕ) → c ≤ d → offset e c ≤ offset e d
offsets_rise e c zero le = let z : c ≡ 0 = omega arith in rw z (omega arith)
offsets_rise e c (suc d) le =
    elim (nat_le c d) as (λ b. nat_le c d ≡ b → offset e c ≤ offset e (suc d)) [
      | true ↦ λ t. let under : c ≤ d = grind (arith, nat_tests) in
          let below = offsets_rise e c d under in omega (arith, below)
      | false ↦ λ t. let same : c ≡ suc d = grind (arith, nat_tests) in rw same (omega arith)
    ] refl

-- a block's index is below the count of blocks
pub index_in_count : (e : Extents) (component row column : ℕ) → component < 4 → row < height e component → column < width e component
    → index_in e component row column < block_count e
index_in_count e component row column in_frame low left =
    let here = index_below_next e component row column low left in
    let rises = offsets_rise e (suc component) 4 (omega arith) in
    omega (arith, here, rises)

-- a block of an earlier component has a smaller index
pub index_order : (e : Extents) (c row column d down along : ℕ) → c < d → row < height e c → column < width e c
    → index_in e c row column < index_in e d down along
index_order e c row column d down along before low left =
    let here = index_below_next e c row column low left in
    let rises = offsets_rise e (suc c) d (omega arith) in
    omega (arith, here, rises)

-- the same, as rows keep it: from where its component starts
pub index_inside : (e : Extents) (component row column start count : ℕ) → component < 4 → row < height e component → column < width e component
    → start ≡ offset e component → count ≡ block_count e → start + (row * width e component + column) < count
index_inside e component row column start count in_frame low left starts counts =
    let below = index_in_count e component row column in_frame low left in
    omega (arith, below)
