use Rattle.std.proofs.Common.{◌≡◌, drop, length, replicate}
use Rattle.jpeg_marker.specs.declared.component.Component.{Component}
use Rattle.huff_table.proofs.FrameComponents.{put_all}
use Rattle.segment_code.proofs.grid.ones.Given as goal

abbrev pub invariant-loop-component : goal.invariant-loop-component
invariant-loop-component l = record {
  long : length l.ones ≡ 4;
  rest : put_all (λ (part : Component). 1) l.ones (drop l.component-index l.components) ≡ put_all (λ (part : Component). 1) (replicate 4 0) l.components;
}
