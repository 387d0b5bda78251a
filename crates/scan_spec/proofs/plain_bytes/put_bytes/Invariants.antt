use Rattle.std.proofs.Common.{◌≡◌, ◌++◌, [], length}
use Rattle.bit_list.specs.Bits.{bytes_after, stuffed}
use Rattle.scan_spec.proofs.plain_bytes.put_bytes.Given as goal

abbrev pub invariant-loop-rest : goal.invariant-loop-rest
invariant-loop-rest l =
    l.out.items ++ stuffed (bytes_after [] l.rest) ≡ l.initial.out.items ++ stuffed (bytes_after [] l.bits)

abbrev pub decreases-loop-rest : goal.decreases-loop-rest
decreases-loop-rest l = length l.rest
