use Rattle.std.proofs.Common.{rules, ◌≡◌, arith, refl, FitsSigned, w16, w32}
use Rattle.std.specs.Prelude.{◌+ℤ◌, unsigned_abs}
use Rattle.std.proofs.lemmas.Int.{to_z-of_z, fits_signed_from_abs}
use Rattle.coef_block.specs.Block.{IsDc}
use Rattle.block_code.proofs.BlockCoefficients.{residue_below, set_dc, sum_fits}
use Rattle.block_code.proofs.coefficients.with_dc.Goals as goal

pub overflow_add-dc : goal.overflow_add-dc
overflow_add-dc c =
    let fp : FitsSigned w32 c.args.prediction = search rules in
    let fr : FitsSigned w32 c.args.residue = search rules in
    let few = residue_below c.args.residue c.requires.residue in
    rw (to_z-of_z w32 c.args.prediction fp, to_z-of_z w32 c.args.residue fr) (sum_fits c.args.prediction c.args.residue c.requires.prediction few)

pub returns-then-unsigned_abs-gt-MOST_DC-clause-fault :
    goal.returns-then-unsigned_abs-gt-MOST_DC-clause-fault
returns-then-unsigned_abs-gt-MOST_DC-clause-fault c =
    let fp : FitsSigned w32 c.args.prediction = search rules in
    let fr : FitsSigned w32 c.args.residue = search rules in
    let few = residue_below c.args.residue c.requires.residue in
    let dc = c.args.prediction +ℤ c.args.residue in
    let fs = sum_fits c.args.prediction c.args.residue c.requires.prediction few in
    let sum : c.unsigned_abs.result ≡ unsigned_abs dc = rw (to_z-of_z w32 c.args.prediction fp, to_z-of_z w32 c.args.residue fr, to_z-of_z w32 dc fs) at c.unsigned_abs.ensures.value in
    (refl, λ is. omega (arith, is, sum, c.if-unsigned_abs-gt-MOST_DC.true))

pub returns-clause-dc : goal.returns-clause-dc
returns-clause-dc c =
    let fp : FitsSigned w32 c.args.prediction = search rules in
    let fr : FitsSigned w32 c.args.residue = search rules in
    let few = residue_below c.args.residue c.requires.residue in
    let dc = c.args.prediction +ℤ c.args.residue in
    let fs = sum_fits c.args.prediction c.args.residue c.requires.prediction few in
    let sum : c.unsigned_abs.result ≡ unsigned_abs dc = rw (to_z-of_z w32 c.args.prediction fp, to_z-of_z w32 c.args.residue fr, to_z-of_z w32 dc fs) at c.unsigned_abs.ensures.value in
    let small : IsDc dc = omega (arith, sum, c.if-unsigned_abs-gt-MOST_DC.false) in
    let fw : FitsSigned w16 dc = fits_signed_from_abs w16 dc (omega (arith, small)) in
    rw (to_z-of_z w32 c.args.prediction fp, to_z-of_z w32 c.args.residue fr, to_z-of_z w32 dc fs, to_z-of_z w16 dc fw) at c.set.ensures

pub returns-clause-block : goal.returns-clause-block
returns-clause-block c =
    let fp : FitsSigned w32 c.args.prediction = search rules in
    let fr : FitsSigned w32 c.args.residue = search rules in
    let few = residue_below c.args.residue c.requires.residue in
    let dc = c.args.prediction +ℤ c.args.residue in
    let fs = sum_fits c.args.prediction c.args.residue c.requires.prediction few in
    let sum : c.unsigned_abs.result ≡ unsigned_abs dc = rw (to_z-of_z w32 c.args.prediction fp, to_z-of_z w32 c.args.residue fr, to_z-of_z w32 dc fs) at c.unsigned_abs.ensures.value in
    let small : IsDc dc = omega (arith, sum, c.if-unsigned_abs-gt-MOST_DC.false) in
    rw (returns-clause-dc c) (set_dc c.args.block.now dc c.requires.block small)
