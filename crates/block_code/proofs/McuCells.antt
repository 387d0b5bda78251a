-- The cells of an MCU's blocks.
use Rattle.std.proofs.Common.{◌≡◌, ℕ, ◌+◌, ◌*◌, ◌-◌, ◌<◌, ◌≤◌, ◌^◌, ◌++◌, List, length, replicate, refl, ap, ap₂, ◌∙◌, arith}
use Rattle.std.specs.Prelude.{slice_index}
use Rattle.std.proofs.lemmas.List.{append-nil}
use Rattle.std.proofs.Math.Nat.{mul-le-mul_right}
use Rattle.coef_block.specs.BlockRows.{Extents, block_count, width, height, four_of, extents_of}
use Rattle.block_spec.specs.Grid.{Grid, component_of, cell_in}
use Rattle.block_spec.specs.HeldRows.{FitsGrid}
use Rattle.block_spec.proofs.CellsOfBlocks.{stands}

pub column_small : (g : Grid) (before index : ℕ) → before < g.across → index < block_count g.mcu → g.across < 2 ^ 25 → width g.mcu (component_of g.mcu index) ≤ 4 → (cell_in g 0 before index).column < 2 ^ 32
column_small g before index mcu below narrow wide =
    let inside = (stands g 0 before index mcu below).cell.in_width in
    let w = width g.mcu (component_of g.mcu index) in
    let most : g.across * w ≤ 33554432 * w = mul-le-mul_right w (omega (arith, narrow)) in
    omega (arith, inside, most, wide)

pub in_frame : (g : Grid) (before index : ℕ) → before < g.across → index < block_count g.mcu → component_of g.mcu index < 4
in_frame g before index mcu below = (stands g 0 before index mcu below).cell.in_frame

-- a cell of the grid is one of the rows
pub row_fits : (s : Extents) (g : Grid) (before k : ℕ) → FitsGrid s g → before < g.across → k < block_count g.mcu → (cell_in g 0 before k).row < height s (cell_in g 0 before k).component
row_fits s g before k fits mcu below =
    let place = (stands g 0 before k mcu below).cell in
    rw (fits.heights (cell_in g 0 before k).component place.in_frame) place.in_height

pub column_fits : (s : Extents) (g : Grid) (before k : ℕ) → FitsGrid s g → before < g.across → k < block_count g.mcu → (cell_in g 0 before k).column < width s (cell_in g 0 before k).component
column_fits s g before k fits mcu below =
    let place = (stands g 0 before k mcu below).cell in
    rw (fits.widths (cell_in g 0 before k).component place.in_frame) place.in_width

-- four numbers are all four
four_whole : (xs : List ℕ) → length xs ≡ 4 → four_of xs ≡ xs
four_whole xs e = ap (λ (n : ℕ). xs ++ replicate (4 - n) 0) e ∙ append-nil xs

-- the extents of an MCU row
pub row_extents : (widths heights : List ℕ) (g : Grid) → length widths ≡ 4 → length heights ≡ 4 → heights ≡ g.mcu.heights → ((c : ℕ) → c < 4 → slice_index widths c ≡ g.across * width g.mcu c)
    → FitsGrid (extents_of widths heights) g
row_extents widths heights g long high same each = record {
  widths = λ c below. rw (four_whole widths long) (each c below);
  heights = λ c below. rw (four_whole heights high, same) refl;
}

-- and how many blocks it has
pub row_count : (e : Extents) (g : Grid) → FitsGrid e g → block_count e ≡ g.across * block_count g.mcu
row_count e g fits =
    let a = g.across in
    let m = g.mcu in
    ap₂ (λ (w h : ℕ). 0 + w * h + width e 1 * height e 1 + width e 2 * height e 2 + width e 3 * height e 3) (fits.widths 0 (omega arith)) (fits.heights 0 (omega arith))
    ∙ ap₂ (λ (w h : ℕ). 0 + a * width m 0 * height m 0 + w * h + width e 2 * height e 2 + width e 3 * height e 3) (fits.widths 1 (omega arith)) (fits.heights 1 (omega arith))
    ∙ ap₂ (λ (w h : ℕ). 0 + a * width m 0 * height m 0 + a * width m 1 * height m 1 + w * h + width e 3 * height e 3) (fits.widths 2 (omega arith)) (fits.heights 2 (omega arith))
    ∙ ap₂ (λ (w h : ℕ). 0 + a * width m 0 * height m 0 + a * width m 1 * height m 1 + a * width m 2 * height m 2 + w * h) (fits.widths 3 (omega arith)) (fits.heights 3 (omega arith))
    ∙ all a (width m 0) (height m 0) (width m 1) (height m 1) (width m 2) (height m 2) (width m 3) (height m 3)
  where
    all : (a v0 h0 v1 h1 v2 h2 v3 h3 : ℕ) → 0 + a * v0 * h0 + a * v1 * h1 + a * v2 * h2 + a * v3 * h3 ≡ a * (0 + v0 * h0 + v1 * h1 + v2 * h2 + v3 * h3)
    all a v0 h0 v1 h1 v2 h2 v3 h3 = grind arith

pub row_few : (e : Extents) (g : Grid) → FitsGrid e g → g.across < 2 ^ 25 → block_count g.mcu ≤ 10 → block_count e ≤ 10 * 2 ^ 25
row_few e g fits narrow few =
    let most : block_count g.mcu * g.across ≤ 10 * g.across = mul-le-mul_right g.across few in
    let count = row_count e g fits in
    let order : g.across * block_count g.mcu ≡ block_count g.mcu * g.across = grind arith in
    omega (arith, most, count, order, narrow)

-- no MCU before the first
pub none_before : (a b : ℕ) → 0 ≡ (0 * a + 0) * b
none_before a b = grind arith
