use Rattle.std.proofs.Common.{rules, refl, List, ℕ, Bool, FitsSigned, w32}
use Rattle.std.proofs.lemmas.Int.{to_z-of_z}
use Rattle.adapt_bins.specs.PutEvents.{PutsEvents}
use Rattle.block_code.proofs.BlocksOfBands.{wanted_coded}
use Rattle.block_code.proofs.block.put_block.Goals as goal

pub returns-clause-coded : goal.returns-clause-coded
returns-clause-coded c =
    let fits : FitsSigned w32 c.residue_of-residue.result = search rules in
    let fp : FitsSigned w32 c.prediction.result = search rules in
    let residue = rw (to_z-of_z w32 c.prediction.result fp) at c.residue_of-residue.ensures.value in
    let same = rw (to_z-of_z w32 c.residue_of-residue.result fits, residue) at (c.in_ok-code_parts.ensures.same refl) in
    let coded = rw same.0 at c.in_ok-code_parts.ensures.coded in
    rw (← c.neighbours_in-neighbours.ensures.around)
    (wanted_coded (λ (es : List (ℕ × Bool)). PutsEvents c.args.coder.now es c.code_parts.new.held) c.args.class _ c.code_parts.new.out c.args.block.now c.prediction.result c.prediction.ensures.value
    same.1 coded)
