use Rattle.std.proofs.Common.{◌≡◌, ◌∙◌, ◌++◌, ◌+◌, ◌-◌, ℕ, List, length, take, drop, ap₂, arith}
use Rattle.std.specs.Vec.{vec_len}
use Rattle.std.proofs.Math.Seq.{drop-append_seam, take-append_seam}
use Rattle.lepton_encode.proofs.container.put_before.Goals as goal

-- what was appended comes first
turned : (old front whole : List ℕ) (n : ℕ) → whole ≡ old ++ front → n ≡ length old + length front
    → drop (n - length front) whole ++ take (n - length front) whole ≡ front ++ old
turned old front whole n is count =
    let seam : n - length front ≡ length old = omega (arith, count) in
    ap₂ (λ (i : ℕ) (l : List ℕ). drop i l ++ take i l) seam is
    ∙ ap₂ (λ (a b : List ℕ). a ++ b) (drop-append_seam old front) (take-append_seam old front)

pub returns : goal.returns
returns c =
    let old = c.args.list.now.items in
    let front = c.args.front.now in
    let count : vec_len c.extend_from_slice.new.list ≡ length old + length front =
    omega (arith, c.in_ok-extend_from_slice.ensures.len) in
    c.rotate_right.ensures.items
    ∙ turned old front _ _ c.in_ok-extend_from_slice.ensures.items count
