use Rattle.std.proofs.Common.{◌≡◌, ◌≤◌, ◌++◌}
use Rattle.bit_list.specs.Bits.{low_bits}
use Rattle.scan_spec.proofs.plain.put_bits.Given as goal

-- with the bits that are left, what there is in the end
abbrev pub invariant-loop-left : goal.invariant-loop-left
invariant-loop-left l = record { within : l.left ≤ l.count; whole : l.bits.items ++ low_bits l.left l.number ≡ l.fn.bits.items ++ low_bits l.count l.number }

abbrev pub decreases-loop-left : goal.decreases-loop-left
decreases-loop-left l = l.left
