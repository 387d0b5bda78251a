use Rattle.std.proofs.Common.{◌≡◌, List, ℕ, Bool, IsTrue}
use Rattle.coef_block.specs.Block.{IsBlock}
use Rattle.block_code.specs.Edges.{edges_so_far}
use Rattle.block_code.specs.NeighbourBlocks.{around_of}
use Rattle.block_code.proofs.parts_code.code_edges.Given as goal

abbrev pub invariant-loop-edge : goal.invariant-loop-edge
invariant-loop-edge g l = record {
  room : g.C.Coder.room l.coder ≡ g.C.Coder.room l.initial.coder;
  block : IsBlock l.out;
  far : edges_so_far (λ (es : List (ℕ × Bool)). g.C.Coder.codes l.initial.coder es l.coder) (IsTrue g.C.Coder.given) l.class (around_of l.neighbours) l.inner l.initial.out l.wanted l.out l.edge;
}
