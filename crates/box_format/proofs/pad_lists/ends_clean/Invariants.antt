use Rattle.std.proofs.Common.{◌≡◌, drop}
use Rattle.bit_list.specs.Bits.{bits_of}
use Rattle.box_format.proofs.CleanBits.{are_clean}
use Rattle.box_format.proofs.pad_lists.ends_clean.Given as goal

abbrev pub invariant-loop-i : goal.invariant-loop-i
invariant-loop-i l = record {
  left : are_clean (drop l.i (bits_of l.list)) ≡ are_clean (drop l.count (bits_of l.list));
}
