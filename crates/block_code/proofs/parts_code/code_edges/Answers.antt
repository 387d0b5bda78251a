use Rattle.std.proofs.Common.{List, ℕ, Bool, IsTrue, arith, ◌<◌, ◌∙◌}
use Rattle.block_code.specs.NeighbourBlocks.{around_of}
use Rattle.block_code.proofs.EdgesInTurn.{edge_empty, edge_more}
use Rattle.block_code.proofs.parts_code.code_edges.Goals as goal

pub code_edge-requires-clause-zeros : goal.code_edge-requires-clause-zeros
code_edge-requires-clause-zeros g c =
    let few : c.loop-edge.edge < 2 = omega arith in
    edge_empty (λ (es : List (ℕ × Bool)). g.C.Coder.codes c.args.coder.now es c.loop-edge.coder) (IsTrue g.C.Coder.given) c.args.class (around_of c.args.neighbours) c.args.inner c.args.out.now c.args.wanted.now c.loop-edge.out c.loop-edge.edge few
    c.requires.row c.requires.column c.loop-edge.invariant.far

pub loop-edge-preserved : goal.loop-edge-preserved
loop-edge-preserved g c =
    let few : c.loop-edge.edge < 2 = omega arith in
    let coded = c.in_ok-code_edge.ensures.coded in
    record {
      room = g.met.C.Coder.keeps _ _ _ coded ∙ c.loop-edge.invariant.room;
      block = c.in_ok-code_edge.ensures.block;
      far = edge_more (λ (es : List (ℕ × Bool)). g.C.Coder.codes c.args.coder.now es c.loop-edge.coder) (λ (es : List (ℕ × Bool)). g.C.Coder.codes c.loop-edge.coder es c.code_edge.new.coder)
          (λ (es : List (ℕ × Bool)). g.C.Coder.codes c.args.coder.now es c.code_edge.new.coder) (IsTrue g.C.Coder.given) c.args.class (around_of c.args.neighbours) c.args.inner c.args.out.now c.args.wanted.now c.loop-edge.out c.code_edge.new.out
          c.loop-edge.edge few (λ es fs first second. g.met.C.Coder.joined _ _ _ _ _ first second) coded c.in_ok-code_edge.ensures.others c.in_ok-code_edge.ensures.same c.loop-edge.invariant.far;
    }
