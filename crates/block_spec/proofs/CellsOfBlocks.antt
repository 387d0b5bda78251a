-- Block n of a list stands in its cell.
use Rattle.std.proofs.Common.{◌≡◌, ℕ, zero, suc, ◌+◌, ◌*◌, ◌-◌, ◌/◌, ◌%◌, ◌<◌, ◌≤◌, arith, refl, ◌∙◌, true, false, inl, inr}
use Rattle.std.specs.Prelude.{nat_lt, if◌then◌else◌}
use Rattle.std.proofs.lemmas.Bool.{ltb-true, ltb-false, cases_lt}
use Rattle.std.proofs.Math.Nat.{mul-le-mul_right, div-add-mod}
use Rattle.coef_block.specs.BlockRows.{block_count, Extents, width, height, offset}
use Rattle.block_spec.specs.Grid.{Grid, Cell, index_of, IsCell, IsGrid, component_of, cell_in, cell_at}
use Rattle.coef_block.proofs.RowIndexes.{in_row}
use Rattle.block_spec.proofs.CellIndexes.{split, cell_of_index}

whole : (n d : ℕ) → n / d * d + n % d ≡ n
whole n d = let h = div-add-mod n d in omega (arith, h)

in_wide : (w a m j : ℕ) → m < a → j < w → m * w + j < a * w
in_wide w a m j low left = let h = in_row w a m j low left in omega (arith, h)

-- a component whose blocks are those from its offset on
record Holds (s : Extents) (k c : ℕ) : Type 0 where
  in_frame : c < 4
  from : offset s c ≤ k
  below : k < offset s c + width s c * height s c

holds : (s : Extents) (k : ℕ) → k < block_count s → Holds s k (component_of s k)
holds s k below =
    elim (nat_lt k (offset s 1)) as (λ t. nat_lt k (offset s 1) ≡ t → Holds s k (if t then 0 else if nat_lt k (offset s 2) then 1 else if nat_lt k (offset s 3) then 2 else 3)) [
      | true ↦ λ e. record { in_frame = omega arith; from = omega arith; below = let h = ltb-true _ _ e in omega (arith, h) }
      | false ↦ λ e. elim (nat_lt k (offset s 2)) as (λ t. nat_lt k (offset s 2) ≡ t → Holds s k (if t then 1 else if nat_lt k (offset s 3) then 2 else 3)) [
        | true ↦ λ f. record { in_frame = omega arith; from = ltb-false _ _ e; below = ltb-true _ _ f }
        | false ↦ λ f. elim (nat_lt k (offset s 3)) as (λ t. nat_lt k (offset s 3) ≡ t → Holds s k (if t then 2 else 3)) [
          | true ↦ λ h. record { in_frame = omega arith; from = ltb-false _ _ f; below = ltb-true _ _ h }
          | false ↦ λ h. record { in_frame = omega arith; from = ltb-false _ _ h; below = below }
        ] refl
      ] refl
    ] refl

-- quotient and remainder of what they make
parts : (w m j : ℕ) → j < w → ((m * w + j) / w ≡ m) × ((m * w + j) % w ≡ j)
parts w m j below = split w ((m * w + j) / w) m ((m * w + j) % w) j (omega arith) below (whole (m * w + j) w)

some_factor : (w h k : ℕ) → k < w * h → 0 < w
some_factor zero h k below = absurd (omega arith)
some_factor (suc w) h k below = omega arith

row_below : (w h k : ℕ) → 0 < w → k < w * h → k / w < h
row_below w h k some below =
    let d = whole k w in
    let lower : k / w * w < h * w = omega (arith, d, below) in
    less (k / w) h w lower
  where
    less : (a b w : ℕ) → a * w < b * w → a < b
    less a b w lower = elim (cases_lt a b) [ inl h ↦ h | inr h ↦ absurd (let more : b * w ≤ a * w = mul-le-mul_right w h in omega (arith, more, lower)) ]

-- a block of an MCU: its cell is one, and the index is what the cell was made of
pub record Stands (g : Grid) (r m k : ℕ) (p : Cell) : Type 0 where
  pub cell : IsCell g p
  pub index : index_of g p ≡ (r * g.across + m) * block_count g.mcu + k

pub stands : (g : Grid) (r m k : ℕ) → m < g.across → k < block_count g.mcu → Stands g r m k (cell_in g r m k)
stands g r m k mcu below =
    let c = component_of g.mcu k in
    let w = width g.mcu c in
    let rest = k - offset g.mcu c in
    let in_c = holds g.mcu k below in
    let under : rest < w * height g.mcu c = let a = in_c.from in let b = in_c.below in omega arith in
    let some : 0 < w = some_factor w (height g.mcu c) rest under in
    let j : rest % w < w = omega arith in
    let column = parts w m (rest % w) j in
    let d : rest / w * w + rest % w ≡ rest = whole rest w in
    let kk : offset g.mcu c + (rest / w * w + rest % w) ≡ k = rw d (let a = in_c.from in omega arith) in
    record {
      cell = record { in_frame = in_c.in_frame; in_height = row_below w (height g.mcu c) rest some under; in_width = in_wide w g.across m (rest % w) mcu j; some = some };
      index = rw (column.0, column.1, kk) refl;
    }

pub cell_is : (g : Grid) (n : ℕ) → IsGrid g → IsCell g (cell_at g n)
unfolding cell_at
cell_is g n is = let a = is.across in let b = is.mcu in (stands g (n / block_count g.mcu / g.across) (n / block_count g.mcu % g.across) (n % block_count g.mcu) (omega arith) (omega arith)).cell

pub index_is : (g : Grid) (n : ℕ) → IsGrid g → index_of g (cell_at g n) ≡ n
unfolding cell_at
index_is g n is =
    let a = is.across in
    let b = is.mcu in
    let s = (stands g (n / block_count g.mcu / g.across) (n / block_count g.mcu % g.across) (n % block_count g.mcu) (omega arith) (omega arith)).index in
    s ∙ rw (whole (n / block_count g.mcu) g.across, whole n (block_count g.mcu)) refl

-- and a cell is that of its index
pub cell_at_index : (g : Grid) (p : Cell) → IsGrid g → IsCell g p → cell_at g (index_of g p) ≡ p
cell_at_index g p is cell = cell_of_index g (cell_at g (index_of g p)) p (cell_is g (index_of g p) is) cell (index_is g (index_of g p) is)
