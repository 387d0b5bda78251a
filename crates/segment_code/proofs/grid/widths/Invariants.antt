use Rattle.std.proofs.Common.{◌≡◌, drop, length, replicate}
use Rattle.jpeg_marker.specs.declared.component.Component.{Component}
use Rattle.huff_table.proofs.FrameComponents.{put_all}
use Rattle.segment_code.proofs.grid.widths.Given as goal

abbrev pub invariant-loop-component : goal.invariant-loop-component
invariant-loop-component l = record {
  long : length l.widths ≡ 4;
  rest : put_all (λ (part : Component). part.h) l.widths (drop l.component-index l.components) ≡ put_all (λ (part : Component). part.h) (replicate 4 0) l.components;
}
