use Rattle.std.proofs.Common.{◌≡◌}
use Rattle.scan_spec.specs.PlainScans.{slots_times}
use Rattle.scan_spec.proofs.plain_bytes.repeated.Given as goal

abbrev pub invariant-loop-i : goal.invariant-loop-i
invariant-loop-i l = l.all.items ≡ slots_times l.i l.slots
