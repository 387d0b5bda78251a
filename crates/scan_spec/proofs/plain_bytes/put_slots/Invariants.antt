use Rattle.std.proofs.Common.{◌≡◌, ◌++◌, take}
use Rattle.scan_spec.proofs.plain_bytes.put_slots.Given as goal

abbrev pub invariant-loop-slot : goal.invariant-loop-slot
invariant-loop-slot l = l.all.items ≡ l.initial.all.items ++ take l.slot-index l.slots
