use Rattle.std.proofs.Common.{◌≡◌, ℕ, ◌≤◌, refl, true, arith}
use Rattle.std.specs.Prelude.{◌==◌, slice_index}
use Rattle.std.proofs.lemmas.Bool.{agree_below_at, eqb-true}
use Rattle.coef_block.specs.Categories.{category}
use Rattle.block_code.specs.declared.neighbours.TheConstants.{COUNT_BITS}
use Rattle.block_code.proofs.neighbours.bits_of_count.Goals as goal

entry : (count : ℕ) → count ≤ 49 → slice_index COUNT_BITS count ≡ category count
entry count few = eqb-true _ _ (agree_below_at (λ n. slice_index COUNT_BITS n == category n) (λ _. true) 50 count refl (omega arith))

pub returns : goal.returns
returns c = rw c.from.ensures (entry c.args.count c.requires)
