-- The longest prefix that two lists share.
use Rattle.std.proofs.Common.{◌≡◌, ℕ, ◌≤◌, List, drop, length, min, arith, length-drop}
use Rattle.std.proofs.lemmas.List.Sums.{common_prefix_len-le}
use Rattle.std.specs.Prelude.{◌==◌}
use Rattle.outside_core.specs.Memory.{shared_prefix}

-- past the end of one of them nothing agrees
pub shared_prefix-past : (xs ys : List ℕ) (i : ℕ) → min (length xs) (length ys) ≤ i → shared_prefix (drop i xs) (drop i ys) ≡ 0
shared_prefix-past xs ys i h =
    let within = common_prefix_len-le (λ (x y : ℕ). x == y) (drop i xs) (drop i ys) in
    omega (arith, length-drop i xs, length-drop i ys, within)
