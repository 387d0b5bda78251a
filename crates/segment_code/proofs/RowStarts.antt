-- Each row of MCUs as a segment of its own.
use Rattle.std.proofs.Common.{◌≡◌, ℕ, ◌+◌, ◌-◌, ◌*◌, ◌/◌, ◌<◌, ap, ◌∙◌, arith}
use Rattle.std.specs.Prelude.{map, min}
use Rattle.std.proofs.Math.Nat.{mul-div_cancel}
use Rattle.std.proofs.lemmas.List.{map-id}
use Rattle.std.specs.List.{range_with_len}
use Rattle.cut_spec.specs.Cuts.{cut_of, row_of}
use Rattle.container_spec.proofs.Numbered.{mapped_same}

-- of as many segments as rows, the i-th starts at row i
pub own_row : (across down i : ℕ) → 0 < down → row_of (cut_of across down down) i ≡ i
own_row across down i some =
    let e : min down down ≡ down = omega arith in
    let same : down - 0 ≡ down = omega arith in
    let none : 0 + i * (down - 0) / down ≡ i * (down - 0) / down = omega arith in
    rw e (none ∙ rw same (mul-div_cancel i some))

pub own_rows : (across down : ℕ) → 0 < down
    → map (row_of (cut_of across down down)) (range_with_len 0 (cut_of across down down).segments)
    ≡ range_with_len 0 down
own_rows across down some =
    let e : min down down ≡ down = omega arith in
    mapped_same (row_of (cut_of across down down)) (λ i. i) 0 (min down down)
    (λ k from to. own_row across down k some)
    ∙ map-id (range_with_len 0 (min down down)) ∙ ap (range_with_len 0) e
