use Rattle.std.proofs.Common.{◌≡◌, ◌+◌, ◌*◌, ◌/◌, ◌≤◌, [], ◌++◌, length}
use Rattle.bit_list.specs.Bits.{low_bits, bytes_after, stuffed}
use Rattle.bit_list.proofs.bit_buffer.put_one_by_one.Given as goal

abbrev pub invariant-loop-left : goal.invariant-loop-left
invariant-loop-left l = record {
  few : l.left ≤ 32;
  room : length l.out + 2 * (l.left / 8) ≤ length l.fn.out + 2 * (l.fn.count / 8);
  bytes : l.out ++ stuffed (bytes_after [] (low_bits l.left l.fn.number)) ≡ l.fn.out ++ stuffed (bytes_after [] (low_bits l.fn.count l.fn.number));
}

abbrev pub decreases-loop-left : goal.decreases-loop-left
decreases-loop-left l = l.left
