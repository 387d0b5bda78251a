use Rattle.std.proofs.Common.{◌≡◌, ◌++◌, replicate}
use Rattle.scan_spec.proofs.plain_bytes.pad_up.Given as goal

abbrev pub invariant-loop-i : goal.invariant-loop-i
invariant-loop-i l = l.bits.items ≡ l.initial.bits.items ++ replicate l.i l.pad
