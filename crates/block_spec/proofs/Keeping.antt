-- An MCU row that holds a segment's blocks, step by step.
use Rattle.std.proofs.Common.{◌≡◌, ℕ, zero, suc, ◌+◌, ◌*◌, ◌-◌, ◌/◌, ◌<◌, ◌≤◌, ◌≢◌, arith, refl, ap, ◌∙◌, sym, subst, List, [], ◌∷◌, ◌++◌, length, get_or, set, inl, inr}
use Rattle.std.specs.Prelude.{ℤ, Some, option_map}
use Rattle.std.specs.Option.{option_and_then}
use Rattle.std.proofs.lemmas.Bool.{cases_lt, cases_eq, lt-ltb}
use Rattle.std.proofs.lemmas.List.{get_or-set_same, get_or-set_other, get_or_append_left, get_or_push, length_push, length-set}
use Rattle.std.proofs.Math.Nat.{mul-le-mul_right}
use Rattle.coef_block.specs.BlockRows.{AreCleared, block_count, width, height, index_in, no_block, BlockRows, block_in, lowest_in, above_in, left_in, diagonal_in, corners_after, stored, next_row}
use Rattle.block_spec.specs.Grid.{Grid, Cell, index_of, IsCell, block_at, above_at, above_of, left_of}
use Rattle.block_spec.specs.SegmentEvents.{around_in}
use Rattle.block_spec.specs.HeldRows.{kept_around, FitsGrid, row_block, IsLowest, next_in_place, below, right, HoldBlocks}
use Rattle.coef_block.proofs.RowIndexes.{index_in_count}
use Rattle.block_spec.proofs.CellIndexes.{index_has_cell, cell_of_index, within_mcu, column_in, above_before, left_before, columns_rise, rows_rise, same_cell}
use Rattle.block_spec.proofs.Segments.{same_around}

-- an MCU row's blocks come before those of the next
row_bounds : (g : Grid) (p : Cell) → IsCell g p
    → (p.mcu_row * g.across * block_count g.mcu ≤ index_of g p) × (index_of g p < (p.mcu_row * g.across + g.across) * block_count g.mcu)
row_bounds g p is =
    let m = column_in g.across (width g.mcu p.component) p.column is.in_width in
    let k = within_mcu g p is in
    let low : p.mcu_row * g.across * block_count g.mcu ≤ (p.mcu_row * g.across + p.column / width g.mcu p.component) * block_count g.mcu = mul-le-mul_right (block_count g.mcu) (omega arith) in
    let high : (p.mcu_row * g.across + p.column / width g.mcu p.component + 1) * block_count g.mcu ≤ (p.mcu_row * g.across + g.across) * block_count g.mcu = mul-le-mul_right (block_count g.mcu) (omega (arith, m)) in
    (omega (arith, low), omega (arith, high, k))

earlier_row : (g : Grid) (p q : Cell) → IsCell g p → IsCell g q → suc p.mcu_row ≡ q.mcu_row
    → index_of g p < index_of g q
earlier_row g p q is js next =
    let a = (row_bounds g p is).1 in
    let b = (row_bounds g q js).0 in
    let e : p.mcu_row * g.across + g.across ≡ q.mcu_row * g.across = let h : suc p.mcu_row * g.across ≡ q.mcu_row * g.across = ap (λ (n : ℕ). n * g.across) next in omega (arith, h) in
    let c : index_of g p < q.mcu_row * g.across * block_count g.mcu = rw e at a in
    omega (arith, b, c)

-- nothing is held
pub none_kept : (v : BlockRows) (g : Grid) → FitsGrid v.extents g → AreCleared v → HoldBlocks v g [] 0
none_kept v g fits cleared = record {
  fits = fits;
  long = cleared.blocks;
  four = cleared.corners;
  started = cleared.started;
  here = λ p is row below. absurd (omega (arith, below));
  before = λ p is row none. absurd (omega (arith, row));
  corners = λ p is row some none. absurd (omega (arith, row));
}

unmoved : (g : Grid) (blocks : List (List ℤ)) (b : List ℤ) (p : Cell) → index_of g p < length blocks
    → block_at g (blocks ++ b ∷ []) p ≡ block_at g blocks p
unfolding block_at
unmoved g blocks b p below = get_or_append_left blocks (b ∷ []) no_block (index_of g p) below

last_is : (g : Grid) (blocks : List (List ℤ)) (b : List ℤ) (p : Cell) → index_of g p ≡ length blocks
    → block_at g (blocks ++ b ∷ []) p ≡ b
unfolding block_at
last_is g blocks b p is = get_or_push blocks b no_block (index_of g p) (sym is)

-- the index in the kept row
in_kept : (v : BlockRows) (g : Grid) → FitsGrid v.extents g → (p : Cell) → IsCell g p
    → index_in v.extents p.component p.row p.column < block_count v.extents
in_kept v g fits p is = index_in_count v.extents p.component p.row p.column is.in_frame (rw (fits.heights p.component is.in_frame) is.in_height) (rw (fits.widths p.component is.in_frame) is.in_width)

kept_once : (v : BlockRows) (g : Grid) → FitsGrid v.extents g → (p q : Cell) → IsCell g p → IsCell g q
    → p.mcu_row ≡ q.mcu_row
    → index_in v.extents p.component p.row p.column ≡ index_in v.extents q.component q.row q.column
    → index_of g p ≡ index_of g q
kept_once v g fits p q is js row same =
    let tells = index_has_cell v.extents p.component p.row p.column q.component q.row q.column
    (rw (fits.heights p.component is.in_frame) is.in_height) (rw (fits.widths p.component is.in_frame) is.in_width)
    (rw (fits.heights q.component js.in_frame) js.in_height) (rw (fits.widths q.component js.in_frame) js.in_width) same in
    rw (row, tells.0, tells.1, tells.2) refl

-- the cells below and beside a lowest one
next_is_cell : (g : Grid) (p : Cell) → IsLowest g p → IsCell g (next_in_place p)
next_is_cell g p is = record { in_frame = is.cell.in_frame; in_height = is.cell.in_height; in_width = is.cell.in_width; some = is.cell.some }

below_is_cell : (g : Grid) (p : Cell) → IsLowest g p → IsCell g (below p)
below_is_cell g p is = record { in_frame = is.cell.in_frame; in_height = let h = is.cell.in_height in omega arith; in_width = is.cell.in_width; some = is.cell.some }

-- the corners stay four
corners_long : (v : BlockRows) (c row column : ℕ) → length v.corners ≡ 4 → length (corners_after v c row column) ≡ 4
corners_long v c zero column four = simp length-set four
corners_long v c (suc row) column four = four

-- another component's corner stays
other_corner : (v : BlockRows) (c d row column : ℕ) → d ≢ c → get_or (corners_after v c row column) d no_block ≡ get_or v.corners d no_block
other_corner v c d zero column apart = get_or-set_other v.corners c d (lowest_in v c column) no_block apart
other_corner v c d (suc row) column apart = refl

-- and this one's, but for a block of the first block row
lower_corner : (v : BlockRows) (c d row column : ℕ) → 0 < row → get_or (corners_after v c row column) d no_block ≡ get_or v.corners d no_block
lower_corner v c d zero column low = absurd (omega (arith, low))
lower_corner v c d (suc row) column low = refl

-- the first block row can't end below a cell, and a block of it be between that cell and the one to the right
none_between : (g : Grid) (p q : Cell) → IsCell g p → IsLowest g q → suc q.mcu_row ≡ p.mcu_row → p.row ≡ 0 → p.component ≡ q.component
    → index_of g (below q) < index_of g p → index_of g p < index_of g (right (below q)) → ⊥
none_between g p q is js row top one low high =
    let same : p ≡ record (below q) { column = p.column } = same_cell p (record (below q) { column = p.column }) (sym row) one top refl in
    let at : index_of g p ≡ index_of g (record (below q) { column = p.column }) = ap (index_of g) same in
    let cell : IsCell g (record (below q) { column = p.column }) = subst (IsCell g) same is in
    elim (cases_lt q.column p.column) [
      | inl h ↦ let rises = columns_rise g (suc q.mcu_row) q.component 0 (suc q.column) p.column cell (omega (arith, h)) in omega (arith, rises, at, high)
      | inr h ↦ let rises = columns_rise g (suc q.mcu_row) q.component 0 p.column q.column (below_is_cell g q js) (omega (arith, h)) in omega (arith, rises, at, low)
    ]

-- where the first block row ends below a cell, another block doesn't change its corner
corner_stays : (v : BlockRows) (g : Grid) (p q : Cell) → IsCell g p → IsLowest g q → suc q.mcu_row ≡ p.mcu_row
    → index_of g (below q) < index_of g p → index_of g p < index_of g (right (below q))
    → get_or (corners_after v p.component p.row p.column) q.component no_block ≡ get_or v.corners q.component no_block
corner_stays v g p q is js row low high = elim (cases_lt 0 p.row) [
  | inl lower ↦ lower_corner v p.component q.component p.row p.column lower
  | inr top ↦ elim (cases_eq q.component p.component) [
    | inl one ↦ absurd (none_between g p q is js row (omega (arith, top)) (sym one) low high)
    | inr apart ↦ other_corner v p.component q.component p.row p.column apart
  ]
]

-- a block of the first block row leaves the block above it in the corner
corner_is : (v : BlockRows) (g : Grid) (p q : Cell) → FitsGrid v.extents g → length v.corners ≡ 4 → IsLowest g q → p ≡ below q
    → get_or (corners_after v p.component p.row p.column) q.component no_block ≡ row_block v q
corner_is v g p q fits four js one =
    let within : q.component < length v.corners = rw four js.cell.in_frame in
    let lowest : height v.extents q.component - 1 ≡ q.row = rw (fits.heights q.component js.cell.in_frame) (let h = js.lowest in omega (arith, h)) in
    ap (λ (z : Cell). get_or (corners_after v z.component z.row z.column) q.component no_block) one
    ∙ get_or-set_same v.corners q.component (lowest_in v q.component q.column) no_block within
    ∙ ap (λ (row : ℕ). block_in v q.component row q.column) lowest

-- a block more
pub one_kept : (v : BlockRows) (g : Grid) (blocks : List (List ℤ)) (p : Cell) (b : List ℤ) → IsCell g p
    → index_of g p ≡ length blocks → HoldBlocks v g blocks p.mcu_row →
    HoldBlocks (stored v p.component p.row p.column b) g (blocks ++ b ∷ []) p.mcu_row
one_kept v g blocks p b is next are =
    let long = length_push blocks b in
    let stays : (q : Cell) → IsCell g q → suc q.mcu_row ≡ p.mcu_row → block_at g blocks q ≡ block_at g (blocks ++ b ∷ []) q =
    λ q js row. sym (unmoved g blocks b q (let h = earlier_row g q p js is row in omega (arith, h, next))) in
    record {
      fits = are.fits;
      long = simp length-set are.long;
      four = corners_long v p.component p.row p.column are.four;
      started = are.started;
      here = λ q js row below. elim (cases_lt (index_of g q) (length blocks)) [
        | inl earlier ↦
            get_or-set_other v.blocks (index_in v.extents p.component p.row p.column) (index_in v.extents q.component q.row q.column) b no_block
            (λ same. let one = kept_once v g are.fits q p js is row same in omega (arith, one, earlier, next))
            ∙ are.here q js row earlier ∙ sym (unmoved g blocks b q earlier)
        | inr later ↦
            let last : index_of g q ≡ length blocks = omega (arith, long, below, later) in
            let one : q ≡ p = cell_of_index g q p js is (last ∙ sym next) in
            let at : index_in v.extents q.component q.row q.column ≡ index_in v.extents p.component p.row p.column = ap (λ (z : Cell). index_in v.extents z.component z.row z.column) one in
            let within : index_in v.extents p.component p.row p.column < length v.blocks = rw are.long (in_kept v g are.fits p is) in
            ap (λ (k : ℕ). get_or (set v.blocks (index_in v.extents p.component p.row p.column) b) k no_block) at
            ∙ get_or-set_same v.blocks (index_in v.extents p.component p.row p.column) b no_block within ∙ sym (last_is g blocks b q last)
      ];
      before = λ q js row free.
          get_or-set_other v.blocks (index_in v.extents p.component p.row p.column) (index_in v.extents q.component q.row q.column) b no_block
          (λ same. let one = kept_once v g are.fits (next_in_place q) p (next_is_cell g q js) is row same in omega (arith, one, free, long, next))
          ∙ are.before q js row (omega (arith, free, long)) ∙ stays q js.cell row;
      corners = λ q js row low high. elim (cases_lt (index_of g (below q)) (length blocks)) [
        | inl earlier ↦
            corner_stays v g p q is js row (omega (arith, earlier, next)) (omega (arith, high, long, next))
            ∙ are.corners q js row earlier (omega (arith, high, long)) ∙ stays q js.cell row
        | inr later ↦
            let last : index_of g (below q) ≡ length blocks = omega (arith, long, low, later) in
            let one : p ≡ below q = cell_of_index g p (below q) is (below_is_cell g q js) (next ∙ sym last) in
            corner_is v g p q are.fits are.four js one
            ∙ are.before q js row (let rises = rows_rise g (suc q.mcu_row) q.component q.row q.column in omega (arith, rises, last)) ∙ stays q js.cell row
      ];
    }

-- the next MCU row: this one was whole
pub next_kept : (v : BlockRows) (g : Grid) (blocks : List (List ℤ)) (r : ℕ)
    → length blocks ≡ suc r * g.across * block_count g.mcu → HoldBlocks v g blocks r → HoldBlocks (next_row v) g blocks (suc r)
next_kept v g blocks r whole are =
    let all : (p : Cell) → IsCell g p → p.mcu_row ≡ r → index_of g p < length blocks = λ p is row.
    let a = (row_bounds g p is).1 in
    let e : (p.mcu_row * g.across + g.across) * block_count g.mcu ≡ suc r * g.across * block_count g.mcu = ap (λ (n : ℕ). n * block_count g.mcu) (let h : p.mcu_row * g.across ≡ r * g.across = ap (λ (n : ℕ). n * g.across) row in omega (arith, h)) in
    omega (arith, a, e, whole) in
    let none : (p : Cell) → IsCell g p → p.mcu_row ≡ suc r → index_of g p < length blocks → ⊥ = λ p is row below.
    let b = (row_bounds g p is).0 in
    let e : p.mcu_row * g.across * block_count g.mcu ≡ suc r * g.across * block_count g.mcu = ap (λ (n : ℕ). n * g.across * block_count g.mcu) row in
    omega (arith, b, e, below, whole) in
    record {
      fits = are.fits;
      long = are.long;
      four = are.four;
      started = sym (lt-ltb 0 (suc r) (omega arith));
      here = λ p is row below. absurd (none p is row below);
      before = λ p js row free. let one : p.mcu_row ≡ r = omega (arith, row) in are.here p js.cell one (all p js.cell one);
      corners = λ p js row low high. absurd (none (below p) (below_is_cell g p js) row low);
    }

-- the lowest cell of the MCU row before
lowest_above : (g : Grid) (r c column : ℕ) → IsCell g (record { mcu_row = suc r; component = c; row = 0; column = column })
    → IsLowest g (record { mcu_row = r; component = c; row = height g.mcu c - 1; column = column })
lowest_above g r c column is = record { cell = (above_before g (suc r) c zero column is).0; lowest = let h = is.in_height in omega (arith, h) }

-- what is around the next block
above_is : (v : BlockRows) (g : Grid) (blocks : List (List ℤ)) (r c row column : ℕ)
    → IsCell g (record { mcu_row = r; component = c; row = row; column = column }) →
    index_of g (record { mcu_row = r; component = c; row = row; column = column }) ≡ length blocks → HoldBlocks v g blocks r → above_in v c row column ≡ option_map (block_at g blocks) (above_at g r c row column)
above_is v g blocks zero c zero column is next are = rw are.started refl
above_is v g blocks (suc r) c zero column is next are =
    rw (are.started, lt-ltb 0 (suc r) (omega arith), are.fits.heights c is.in_frame)
    (ap Some (are.before (record { mcu_row = r; component = c; row = height g.mcu c - 1; column = column }) (lowest_above g r c column is) refl (let rises = rows_rise g (suc r) c (height g.mcu c - 1) column in omega (arith, rises, next))))
above_is v g blocks zero c (suc row) column is next are =
    let q = above_before g zero c (suc row) column is in
    ap Some (are.here (record { mcu_row = zero; component = c; row = row; column = column }) q.0 refl (let h = q.1 in omega (arith, h, next)))
above_is v g blocks (suc r) c (suc row) column is next are =
    let q = above_before g (suc r) c (suc row) column is in
    ap Some (are.here (record { mcu_row = suc r; component = c; row = row; column = column }) q.0 refl (let h = q.1 in omega (arith, h, next)))

left_is : (v : BlockRows) (g : Grid) (blocks : List (List ℤ)) (r c row column : ℕ)
    → IsCell g (record { mcu_row = r; component = c; row = row; column = column }) →
    index_of g (record { mcu_row = r; component = c; row = row; column = column }) ≡ length blocks → HoldBlocks v g blocks r → left_in v c row column ≡ option_map (block_at g blocks) (left_of (record { mcu_row = r; component = c; row = row; column = column }))
left_is v g blocks r c row zero is next are = refl
left_is v g blocks r c row (suc column) is next are =
    let q = left_before g r c row (suc column) is in
    ap Some (are.here (record { mcu_row = r; component = c; row = row; column = column }) q.0 refl (let h = q.1 in omega (arith, h, next)))

diagonal_is : (v : BlockRows) (g : Grid) (blocks : List (List ℤ)) (r c row column : ℕ)
    → IsCell g (record { mcu_row = r; component = c; row = row; column = column }) →
    index_of g (record { mcu_row = r; component = c; row = row; column = column }) ≡ length blocks → HoldBlocks v g blocks r →
    diagonal_in v c row column ≡ option_map (block_at g blocks) (option_and_then (above_of g) (left_of (record { mcu_row = r; component = c; row = row; column = column })))
diagonal_is v g blocks r c row zero is next are = refl
diagonal_is v g blocks zero c zero (suc column) is next are = rw are.started refl
diagonal_is v g blocks (suc r) c zero (suc column) is next are =
    let q = left_before g (suc r) c zero (suc column) is in
    rw (are.started, lt-ltb 0 (suc r) (omega arith))
    (ap Some (are.corners (record { mcu_row = r; component = c; row = height g.mcu c - 1; column = column }) (lowest_above g r c column q.0) refl (let h = q.1 in omega (arith, h, next)) (omega (arith, next))))
diagonal_is v g blocks zero c (suc row) (suc column) is next are =
    let q = left_before g zero c (suc row) (suc column) is in
    let up = above_before g zero c (suc row) column q.0 in
    ap Some (are.here (record { mcu_row = zero; component = c; row = row; column = column }) up.0 refl (let h = q.1 in let k = up.1 in omega (arith, h, k, next)))
diagonal_is v g blocks (suc r) c (suc row) (suc column) is next are =
    let q = left_before g (suc r) c (suc row) (suc column) is in
    let up = above_before g (suc r) c (suc row) column q.0 in
    ap Some (are.here (record { mcu_row = suc r; component = c; row = row; column = column }) up.0 refl (let h = q.1 in let k = up.1 in omega (arith, h, k, next)))

-- the rows have what the segment's whole list has
pub around_is : (v : BlockRows) (g : Grid) (blocks : List (List ℤ)) (p : Cell) → IsCell g p → index_of g p ≡ length blocks
    → HoldBlocks v g blocks p.mcu_row → kept_around v p.component p.row p.column ≡ around_in g blocks p
unfolding around_in
around_is v g blocks p is next are =
    same_around _ _ _ _ _ _ (above_is v g blocks p.mcu_row p.component p.row p.column is next are)
    (left_is v g blocks p.mcu_row p.component p.row p.column is next are)
    (diagonal_is v g blocks p.mcu_row p.component p.row p.column is next are)
