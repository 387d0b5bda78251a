use Rattle.std.proofs.Common.{◌≡◌, take}
use Rattle.bit_list.specs.Bits.{number_of}
use Rattle.scan_spec.proofs.plain_bytes.number_of.Given as goal

abbrev pub invariant-loop-bit : goal.invariant-loop-bit
invariant-loop-bit l = l.number ≡ number_of (take l.bit-index l.bits)
