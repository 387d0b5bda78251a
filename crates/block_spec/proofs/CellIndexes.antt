-- A cell has its index, and an index its cell.
use Rattle.std.proofs.Common.{◌≡◌, ◌⊎◌, inl, inr, ℕ, zero, suc, ◌+◌, ◌*◌, ◌-◌, ◌/◌, ◌%◌, ◌<◌, ◌≤◌, arith, refl, ap, ◌∙◌, sym, true, false}
use Rattle.std.specs.Prelude.{nat_lt, IfSome}
use Rattle.std.proofs.lemmas.Bool.Decides.{nat_tests}
use Rattle.std.proofs.lemmas.Bool.{cases_lt}
use Rattle.std.proofs.Math.Nat.{mul-le-mul_right, div-add-mod}
use Rattle.coef_block.specs.BlockRows.{block_count, Extents, width, height, offset, index_in}
use Rattle.block_spec.specs.Grid.{Grid, Cell, index_of, IsCell, above_at, left_at}
use Rattle.coef_block.proofs.RowIndexes.{index_order, index_in_count}

abbrev make : ℕ → ℕ → ℕ → ℕ → Cell
make r c row column = record { mcu_row = r; component = c; row = row; column = column }

front : (r m n d e : ℕ) → d < r → e < r → m * r + d ≡ n * r + e → m ≤ n
front r m n d e below also same = elim (nat_lt n m) as (λ b. nat_lt n m ≡ b → m ≤ n) [
  | true ↦ λ h. let less : n + 1 ≤ m = grind (arith, nat_tests) in
      let more : (n + 1) * r ≤ m * r = mul-le-mul_right r less in
      absurd (omega (arith, more, same, below, also))
  | false ↦ λ h. grind (arith, nat_tests)
] refl

pub split : (r m n d e : ℕ) → d < r → e < r → m * r + d ≡ n * r + e → (m ≡ n) × (d ≡ e)
split r m n d e below also same =
    let up = front r m n d e below also same in
    let down = front r n m e d also below (sym same) in
    let fronts : m ≡ n = omega arith in
    (fronts, let f : m * r ≡ n * r = ap (λ k. k * r) fronts in omega (arith, f, same))

in_one : (s : Extents) (c d row column down along : ℕ) → c ≡ d → row < height s c → column < width s c
    → down < height s d → along < width s d → index_in s c row column ≡ index_in s d down along
    → (c ≡ d) × (row ≡ down) × (column ≡ along)
in_one s c d row column down along one hr hc hd ha same =
    let hc' : column < width s d = rw (← one) hc in
    let same' : offset s d + (row * width s d + column) ≡ offset s d + (down * width s d + along) = rw one at same in
    let parts = split (width s d) row down column along hc' ha (omega (arith, same')) in
    (one, parts.0, parts.1)

pub index_has_cell : (s : Extents) (c row column d down along : ℕ) → row < height s c → column < width s c
    → down < height s d → along < width s d → index_in s c row column ≡ index_in s d down along
    → (c ≡ d) × (row ≡ down) × (column ≡ along)
index_has_cell s c row column d down along hr hc hd ha same =
    elim (nat_lt c d) as (λ b. nat_lt c d ≡ b → (c ≡ d) × (row ≡ down) × (column ≡ along)) [
      | true ↦ λ e. let less : c < d = grind (arith, nat_tests) in let h = index_order s c row column d down along less hr hc in absurd (omega (arith, h, same))
      | false ↦ λ e. elim (nat_lt d c) as (λ b. nat_lt d c ≡ b → (c ≡ d) × (row ≡ down) × (column ≡ along)) [
        | true ↦ λ f. let less : d < c = grind (arith, nat_tests) in let h = index_order s d down along c row column less hd ha in absurd (omega (arith, h, same))
        | false ↦ λ f. let one : c ≡ d = grind (arith, nat_tests) in in_one s c d row column down along one hr hc hd ha same
      ] refl
    ] refl

column_is : (w v column along front : ℕ) → w ≡ v → front + column / w ≡ front + along / v → column % w ≡ along % v
    → column ≡ along
column_is w v column along front same high low =
    let h : column / v ≡ along / v = omega (arith, rw same at high) in
    let l : column % v ≡ along % v = rw same at low in
    sym (div-add-mod column v) ∙ rw (h, l) refl ∙ div-add-mod along v

pub column_in : (a w column : ℕ) → column < a * w → column / w < a
column_in a w column below = elim (cases_lt (column / w) a) [
  | inl h ↦ h
  | inr h ↦ absurd (let more : a * w ≤ column / w * w = mul-le-mul_right w h in let d = div-add-mod column w in omega (arith, more, d, below))
]

pub same_cell : (p q : Cell) → p.mcu_row ≡ q.mcu_row → p.component ≡ q.component → p.row ≡ q.row → p.column ≡ q.column
    → p ≡ q
same_cell p q r c row column =
    ap (λ (n : ℕ). make n p.component p.row p.column) r ∙ ap (λ (n : ℕ). make q.mcu_row n p.row p.column) c ∙ ap (λ (n : ℕ). make q.mcu_row q.component n p.column) row ∙ ap (λ (n : ℕ). make q.mcu_row q.component q.row n) column

-- the index within an MCU
pub within_mcu : (g : Grid) (p : Cell) → IsCell g p
    → index_in g.mcu p.component p.row (p.column % width g.mcu p.component) < block_count g.mcu
within_mcu g p is = index_in_count g.mcu p.component p.row (p.column % width g.mcu p.component) is.in_frame is.in_height (let s = is.some in omega arith)

-- an earlier MCU's blocks come first
before : (n m e k l : ℕ) → m < n → k < e → m * e + k < n * e + l
before n m e k l less below =
    let up : m + 1 ≤ n = omega arith in
    let more : (m + 1) * e ≤ n * e = mul-le-mul_right e up in
    omega (arith, more, below)

-- what comes before, and is a cell
abbrev pub Before : Grid → Cell → Cell → Type 0
Before g p q = IsCell g q × (index_of g q < index_of g p)

some_across : (a w column : ℕ) → column < a * w → 1 ≤ a
some_across zero w column h = absurd (omega arith)
some_across (suc a) w column h = omega arith

pub above_before : (g : Grid) (r c row column : ℕ)
    → IsCell g (record { mcu_row = r; component = c; row = row; column = column }) →
    IfSome (above_at g r c row column) (Before g (record { mcu_row = r; component = c; row = row; column = column }))
above_before g zero c zero column is = tt
above_before g (suc r) c zero column is =
    let q : IsCell g (record { mcu_row = r; component = c; row = height g.mcu c - 1; column = column }) = record { in_frame = is.in_frame; in_height = let h = is.in_height in omega arith; in_width = is.in_width; some = is.some } in
    let a = some_across g.across (width g.mcu c) column is.in_width in
    (q, before (suc r * g.across + column / width g.mcu c) (r * g.across + column / width g.mcu c) (block_count g.mcu) _ _ (omega (arith, a)) (within_mcu g _ q))
above_before g zero c (suc row) column is =
    let q : IsCell g (record { mcu_row = 0; component = c; row = row; column = column }) = record { in_frame = is.in_frame; in_height = let h = is.in_height in omega arith; in_width = is.in_width; some = is.some } in
    (q, let s = is.some in omega arith)
above_before g (suc r) c (suc row) column is =
    let q : IsCell g (record { mcu_row = suc r; component = c; row = row; column = column }) = record { in_frame = is.in_frame; in_height = let h = is.in_height in omega arith; in_width = is.in_width; some = is.some } in
    (q, let s = is.some in omega arith)

-- one column on: in the same MCU or in a later one
next_column : (w column : ℕ) → 0 < w
    → (column / w < suc column / w) ⊎ ((column / w ≡ suc column / w) × (column % w + 1 ≡ suc column % w))
next_column w column some =
    let low = div-add-mod column w in
    let high = div-add-mod (suc column) w in
    elim (cases_lt (column / w) (suc column / w)) [
      | inl h ↦ inl h
      | inr h ↦ inr (let same : column / w ≡ suc column / w = elim (cases_lt (suc column / w) (column / w))
          [ inl k ↦ absurd (let up : suc column / w + 1 ≤ column / w = omega arith in let more : (suc column / w + 1) * w ≤ column / w * w = mul-le-mul_right w up in let m : suc column % w < w = omega arith in omega (arith, more, low, high, m)) | inr k ↦ omega arith ] in
          (same, let f : column / w * w ≡ suc column / w * w = ap (λ (n : ℕ). n * w) same in omega (arith, f, low, high)))
    ]

pub left_before : (g : Grid) (r c row column : ℕ)
    → IsCell g (record { mcu_row = r; component = c; row = row; column = column }) →
    IfSome (left_at r c row column) (Before g (record { mcu_row = r; component = c; row = row; column = column }))
left_before g r c row zero is = tt
left_before g r c row (suc column) is =
    let q : IsCell g (record { mcu_row = r; component = c; row = row; column = column }) = record { in_frame = is.in_frame; in_height = is.in_height; in_width = let h = is.in_width in omega arith; some = is.some } in (
      q,
      elim (next_column (width g.mcu c) column is.some) [
        | inl h ↦ before (r * g.across + suc column / width g.mcu c) (r * g.across + column / width g.mcu c) (block_count g.mcu) _ _ (omega (arith, h)) (within_mcu g _ q)
        | inr h ↦ rw (← h.0, ← h.1) (omega arith)
      ],
    )

-- along a block row indexes rise
pub columns_rise : (g : Grid) (r c row column along : ℕ)
    → IsCell g (record { mcu_row = r; component = c; row = row; column = along }) → column ≤ along
    → index_of g (record { mcu_row = r; component = c; row = row; column = column }) ≤ index_of g (record { mcu_row = r; component = c; row = row; column = along })
columns_rise g r c row column zero is le = let z : column ≡ 0 = omega arith in rw z (omega arith)
columns_rise g r c row column (suc along) is le = elim (cases_lt column (suc along)) [
  | inl h ↦
      let q = left_before g r c row (suc along) is in
      let rises = columns_rise g r c row column along q.0 (omega (arith, h)) in
      let less = q.1 in
      omega (arith, rises, less)
  | inr h ↦ let same : column ≡ suc along = omega arith in rw same (omega arith)
]

-- a lower block of an MCU comes later
pub rows_rise : (g : Grid) (r c row column : ℕ)
    → index_of g (record { mcu_row = r; component = c; row = 0; column = column }) ≤ index_of g (record { mcu_row = r; component = c; row = row; column = column })
rows_rise g r c row column = omega arith

-- two cells of one index are one
pub cell_of_index : (g : Grid) (p q : Cell) → IsCell g p → IsCell g q → index_of g p ≡ index_of g q → p ≡ q
cell_of_index g p q is js same =
    let wc : p.column % width g.mcu p.component < width g.mcu p.component = let s = is.some in omega arith in
    let wd : q.column % width g.mcu q.component < width g.mcu q.component = let s = js.some in omega arith in
    let parts = split (block_count g.mcu) (p.mcu_row * g.across + p.column / width g.mcu p.component) (q.mcu_row * g.across + q.column / width g.mcu q.component) _ _ (within_mcu g p is) (within_mcu g q js) same in
    let tells = index_has_cell g.mcu p.component p.row (p.column % width g.mcu p.component) q.component q.row (q.column % width g.mcu q.component) is.in_height wc js.in_height wd parts.1 in
    let pm : p.column / width g.mcu p.component < g.across = column_in (g.across) (width g.mcu p.component) p.column is.in_width in
    let qm : q.column / width g.mcu q.component < g.across = column_in (g.across) (width g.mcu q.component) q.column js.in_width in
    let rows = split g.across p.mcu_row q.mcu_row (p.column / width g.mcu p.component) (q.column / width g.mcu q.component) pm qm parts.0 in
    let columns : p.column ≡ q.column = column_is (width g.mcu p.component) (width g.mcu q.component) p.column q.column 0 (ap (width g.mcu) tells.0) (omega (arith, rows.1)) tells.2 in
    same_cell p q rows.0 tells.0 tells.1 columns
