use Rattle.std.proofs.Common.{◌-◌}
use Rattle.scan_spec.specs.BlockBits.{zeros_text}
use Rattle.scan_spec.specs.PlainWriting.{HasPutPrefix}
use Rattle.scan_spec.proofs.plain.put_zeros.Given as goal

abbrev pub invariant-loop : goal.invariant-loop
invariant-loop l = HasPutPrefix (zeros_text l.codes l.sixteens) l.fn.bits.items l.bits.items (zeros_text l.codes (l.sixteens - l.counter))
