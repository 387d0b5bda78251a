use Rattle.std.proofs.Common.{◌≡◌, ◌+◌, ◌++◌, take, length, replicate}
use Rattle.scan_spec.proofs.scan_shape.add.Given as goal

abbrev pub invariant-loop-i : goal.invariant-loop-i
invariant-loop-i l = record {
  long : length l.slots ≡ 10;
  text : take (l.count + l.i) l.slots ≡ take l.count l.fn.slots ++ replicate l.i l.component;
}
