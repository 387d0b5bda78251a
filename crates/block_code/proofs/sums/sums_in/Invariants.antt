use Rattle.std.proofs.Common.{◌≡◌, ℕ, ◌<◌, ◌≤◌, ◌+◌, length, slice_index, unsigned_abs}
use Rattle.block_spec.specs.Around.{value_at}
use Rattle.block_code.specs.SumsAround.{inner_sum}
use Rattle.block_code.proofs.sums.sums_in.Given as goal

abbrev pub invariant-loop-position : goal.invariant-loop-position
invariant-loop-position l = record {
  long_inner : length l.inner ≡ 64;
  long_edge : length l.edge ≡ 64;
  inner : (k : ℕ) → k < l.position → 0 < k → slice_index l.inner k
      ≡ inner_sum (unsigned_abs (value_at l.above k)) (unsigned_abs (value_at l.left k)) (unsigned_abs (value_at l.diagonal k));
  edge : (k : ℕ) → k < l.position → 0 < k → slice_index l.edge k ≡ unsigned_abs (value_at l.above k) + unsigned_abs (value_at l.left k);
  small_inner : (k : ℕ) → k < l.position → 0 < k → slice_index l.inner k ≤ 32736;
  small_edge : (k : ℕ) → k < l.position → 0 < k → slice_index l.edge k ≤ 2046;
}
