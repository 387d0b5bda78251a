use Rattle.std.proofs.Common.{◌≡◌, drop, length}
use Rattle.box_format.proofs.Coded.{zeroed}
use Rattle.box_format.proofs.starts.are_unused_zeros.Given as goal

abbrev pub invariant-loop-component : goal.invariant-loop-component
invariant-loop-component l = record {
  long : length l.unused ≡ 4;
  rest : zeroed l.unused (drop l.component-index l.components) ≡ zeroed l.initial.unused l.components;
}
