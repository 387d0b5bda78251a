-- The rows of MCUs of a file, as its parts, and the segments of rows.
use Rattle.std.proofs.Common.{◌≡◌, ℕ, zero, suc, ◌+◌, ◌-◌, ◌*◌, ◌/◌, ◌<◌, ◌≤◌, min, Bool, List, ◌++◌, length, sym, ap, ap₂, subst, ◌∙◌, arith, zero-add}
use Rattle.std.specs.Prelude.{flat_map}
use Rattle.std.proofs.lemmas.List.{take_all}
use Rattle.std.proofs.Math.Nat.{mul-zero, zero-div, zero-mul, mul-div_cancel_left, mul-le-mul_left, div-mul-le_self, le-div_iff_mul-le}
use Rattle.byte_window.specs.Slices.{slice}
use Rattle.byte_window.specs.PartedFiles.{parts_bytes}
use Rattle.byte_window.proofs.SliceParts.{no_slice, slices_join}
use Rattle.jpeg_marker.specs.Plans.{PlanFields}
use Rattle.scan_spec.specs.ScanLaws.{IsShape}
use Rattle.scan_spec.specs.Scans.{Mcu, IsScan, pad_at}
use Rattle.scan_spec.specs.Slots.{shape_of}
use Rattle.scan_spec.specs.Spots.{bytes_done}
use Rattle.scan_spec.proofs.DoneBytes.{done_whole, done_in_order}
use Rattle.cut_spec.specs.Cuts.{row_of, first_mcu}
use Rattle.cut_spec.specs.Seams.{slices}
use Rattle.container_spec.specs.Chunks.{file_rows, rows_cut}
use Rattle.container_spec.specs.ChunkLaws.{RowsArePlaced, SegmentsAreTheRows}
use Rattle.container_spec.proofs.PlacesOfFiles.{nothing_done}

module _ (plan : PlanFields) (mcus : List Mcu) (pads : List Bool) (header scan trailer : List ℕ)
    (shape_is : IsShape (shape_of plan)) (is : IsScan (shape_of plan) mcus pads scan) where
  abbrev done : ℕ → ℕ
  done mcu = bytes_done (shape_of plan) (pad_at pads) mcus mcu

  none_done : done (plan.across * 0) ≡ 0
  none_done = ap done (mul-zero plan.across) ∙ nothing_done (shape_of plan) (pad_at pads) mcus

  pub all_done : done (plan.across * plan.down) ≡ length scan
  all_done =
      ap done (sym is.grid.count)
      ∙ done_whole (shape_of plan) (pad_at pads) mcus scan shape_is is.grid is.text

  done_rises : (m n : ℕ) → m ≤ n → done m ≤ done n
  done_rises m n order =
      let e : m + (n - m) ≡ n = omega (arith, order) in
      subst (λ (k : ℕ). done m ≤ done k) e
      (done_in_order (shape_of plan) (pad_at pads) mcus scan m (n - m) shape_is is.grid is.text)

  -- all rows are the scan
  pub rows_are_scan : parts_bytes (file_rows plan mcus pads header scan trailer) ≡ scan
  rows_are_scan =
      ap₂ (λ (m n : ℕ). slice m n scan) none_done all_done ∙ take_all (length scan) scan (omega arith)

pub rows_are_placed : RowsArePlaced
rows_are_placed plan mcus pads header scan trailer shape_is is =
    let d : ℕ → ℕ = λ row. done plan mcus pads header scan trailer shape_is is (plan.across * row) in
    let h = length header in
    let none = none_done plan mcus pads header scan trailer shape_is is in
    let all = all_done plan mcus pads header scan trailer shape_is is in
    let whole = rows_are_scan plan mcus pads header scan trailer shape_is is in
    let at : (row : ℕ) → d row ≡ (h + d row) - (h + d 0) = λ row. omega (arith, none) in
    record {
      first = omega (arith, none);
      rises = λ row under.
          let up : row ≤ row + 1 = omega arith in
          let rise = done_rises plan mcus pads header scan trailer shape_is is (plan.across * row)
          (plan.across * (row + 1)) (mul-le-mul_left plan.across up) in
          omega (arith, rise);
      each = λ i j low high.
          ap₂ (λ (m n : ℕ). slice m n scan) (at i) (at j)
          ∙ ap (slice ((h + d i) - (h + d 0)) ((h + d j) - (h + d 0))) (sym whole);
      all = let long = ap length whole in omega (arith, long, none, all);
    }

-- ---- segments

rise : (d cut : ℕ → ℕ) (count i : ℕ) → ((j : ℕ) → j < i + count → d (cut j) ≤ d (cut (j + 1)))
    → d (cut i) ≤ d (cut (i + count))
rise d cut zero i up =
    let e : i ≡ i + 0 = omega arith in subst (λ (n : ℕ). d (cut i) ≤ d (cut n)) e (omega arith)
rise d cut (suc count) i up =
    let one = up i (omega arith) in
    let more = rise d cut count (i + 1) (λ j h. up j (omega (arith, h))) in
    let e : (i + 1) + count ≡ i + suc count = omega arith in
    subst (λ (n : ℕ). d (cut i) ≤ d (cut n)) e (omega (arith, one, more))

slices_joined : (d cut : ℕ → ℕ) (scan : List ℕ) (count i : ℕ)
    → ((j : ℕ) → j < i + count → d (cut j) ≤ d (cut (j + 1)))
    → flat_map (λ (bytes : List ℕ). bytes) (slices (λ from to. slice (d from) (d to) scan) cut i count)
    ≡ slice (d (cut i)) (d (cut (i + count))) scan
slices_joined d cut scan zero i up =
    let e : i ≡ i + 0 = omega arith in
    sym (no_slice (d (cut i)) scan) ∙ ap (λ (n : ℕ). slice (d (cut i)) (d (cut n)) scan) e
slices_joined d cut scan (suc count) i up =
    let e : (i + 1) + count ≡ i + suc count = omega arith in
    let later : (j : ℕ) → j < (i + 1) + count → d (cut j) ≤ d (cut (j + 1)) =
    λ j h. up j (omega (arith, h)) in
    ap (λ (l : List ℕ). slice (d (cut i)) (d (cut (i + 1))) scan ++ l)
    (slices_joined d cut scan count (i + 1) later)
    ∙ slices_join (d (cut i)) (d (cut (i + 1))) (d (cut ((i + 1) + count))) scan
    (up i (omega arith)) (rise d cut count (i + 1) later)
    ∙ ap (λ (n : ℕ). slice (d (cut i)) (d (cut n)) scan) e

rows_rise : (i height segments : ℕ) → 0 < segments
    → i * height / segments ≤ (i + 1) * height / segments
rows_rise i height segments some =
    let a = div-mul-le_self (i * height) segments in
    let b : (i + 1) * height ≡ i * height + height = omega arith in
    (le-div_iff_mul-le {k = segments} {x = i * height / segments} {y = (i + 1) * height} some).1 (omega (arith, a, b))

pub segments_are_the_rows : SegmentsAreTheRows
segments_are_the_rows plan mcus pads header scan trailer rows most shape_is is some order within =
    let cut = rows_cut plan rows most in
    let d : ℕ → ℕ = bytes_done (shape_of plan) (pad_at pads) mcus in
    let height = rows.to - rows.from in
    let k : ℕ = min most height in
    let has : 0 < k = omega (arith, some, order) in
    let up : (j : ℕ) → j < 0 + k → d (first_mcu cut j) ≤ d (first_mcu cut (j + 1)) =
    λ j h.
    let r = rows_rise j height k has in
    let rows_up : row_of cut j ≤ row_of cut (j + 1) = omega (arith, r) in
    done_rises plan mcus pads header scan trailer shape_is is (first_mcu cut j) (first_mcu cut (j + 1))
    (mul-le-mul_left plan.across rows_up) in
    let low : row_of cut 0 ≡ rows.from =
    ap (λ (n : ℕ). rows.from + n) (ap (λ (n : ℕ). n / k) (zero-mul height) ∙ zero-div k)
    ∙ (let e : rows.from + 0 ≡ rows.from = omega arith in e) in
    let high : row_of cut (0 + k) ≡ rows.to =
    ap (λ (n : ℕ). rows.from + n * height / k) (zero-add k)
    ∙ ap (λ (n : ℕ). rows.from + n) (mul-div_cancel_left height has)
    ∙ (let e : rows.from + height ≡ rows.to = omega (arith, order) in e) in
    slices_joined d (first_mcu cut) scan k 0 up
    ∙ ap₂ (λ (m n : ℕ). slice (d (plan.across * m)) (d (plan.across * n)) scan) low high
