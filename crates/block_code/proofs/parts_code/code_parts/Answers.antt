use Rattle.std.proofs.Common.{ap, sym, ◌∙◌, List, ℕ, Bool, Some, FitsSigned, w32, rules}
use Rattle.std.proofs.lemmas.Int.{to_z-of_z}
use Rattle.block_spec.specs.Values.{nonzeros}
use Rattle.block_code.specs.NeighbourBlocks.{around_of}
use Rattle.block_code.proofs.BlockCoefficients.{zeros_are_a_block}
use Rattle.block_code.proofs.BlocksOfBands.{all_same, bands_coded, column_empty, inner_stays, row_empty}
use Rattle.block_code.proofs.Placing.{zeros_none}
use Rattle.block_code.proofs.parts_code.code_parts.Goals as goal

pub code_inner-inner-requires-clause-block : goal.code_inner-inner-requires-clause-block
code_inner-inner-requires-clause-block g c = rw c.requires.zeros zeros_are_a_block

pub code_inner-inner-requires-clause-zeros : goal.code_inner-inner-requires-clause-zeros
code_inner-inner-requires-clause-zeros g c = rw c.requires.zeros zeros_none.0

pub code_edges-edges-requires-clause-row : goal.code_edges-edges-requires-clause-row
code_edges-edges-requires-clause-row g c = row_empty c.args.out.now c.code_inner-inner.new.out c.requires.zeros c.in-Ok-inner.ensures.others

pub code_edges-edges-requires-clause-column : goal.code_edges-edges-requires-clause-column
code_edges-edges-requires-clause-column g c = column_empty c.args.out.now c.code_inner-inner.new.out c.requires.zeros c.in-Ok-inner.ensures.others

pub returns-clause-coded : goal.returns-clause-coded
returns-clause-coded g c =
    let fits : FitsSigned w32 c.in_ok-residue.residue = search rules in
    let e = c.in-Ok-edges.ensures.coded in
    let acs = bands_coded (λ (es : List (ℕ × Bool)). g.L.Coder.codes c.code_inner_count.new.coder es c.code_edges-edges.new.coder) c.args.class c.in-Ok.count (around_of c.args.neighbours) c.code_inner-inner.new.out e.row c.code_edges-edges.new.out
    e.row_others e.column_others c.in-Ok-inner.ensures.count (g.met.L.Coder.joined _ _ _ _ _ c.in-Ok-inner.ensures.coded e.coded) in
    let stays = ap nonzeros (inner_stays c.code_inner-inner.new.out e.row c.code_edges-edges.new.out e.row_others e.column_others) ∙ c.in-Ok-inner.ensures.count in
    let dc = c.in_ok-residue.ensures.coded (around_of c.args.neighbours) (sym c.spread.ensures.value) in
    let counted = rw c.guess-guess.ensures.value at c.in-Ok.ensures.coded in
    let local = g.met.L.Coder.joined _ _ _ _ _ counted (g.met.L.Coder.joined _ _ _ _ _ acs dc) in
    rw (to_z-of_z w32 c.in_ok-residue.residue fits, stays) (c.back-2.ensures.coded c.args.held.now c.moved-coder.result _ c.moved-coder.ensures.moved local)

pub returns-clause-same : goal.returns-clause-same
returns-clause-same g c = λ is.
    let fits : FitsSigned w32 c.in_ok-residue.residue = search rules in
    let given : FitsSigned w32 c.args.residue = search rules in
    let e = c.in-Ok-edges.ensures.coded in (
      rw (to_z-of_z w32 c.in_ok-residue.residue fits) (ap Some (rw (to_z-of_z w32 c.args.residue given) at (c.in_ok-residue.ensures.same is))),
      all_same c.code_inner-inner.new.out e.row c.code_edges-edges.new.out c.args.wanted.now e.row_others e.column_others (c.in-Ok-inner.ensures.same is) (e.row_same is) (e.column_same is),
    )
