use Rattle.std.proofs.Common.{rules, refl, ◌≡◌, ◌∙◌, sym, FitsSigned, w16, w32, arith}
use Rattle.std.specs.Prelude.{◌-ℤ◌}
use Rattle.std.proofs.lemmas.Int.{to_z-of_z, fits_signed_from_abs}
use Rattle.coef_block.specs.Block.{IsDc}
use Rattle.block_spec.specs.Around.{value_at}
use Rattle.block_code.proofs.BlockCoefficients.{apart, got, sixteen}
use Rattle.block_code.proofs.coefficients.residue_of.Goals as goal

pub returns-clause-value : goal.returns-clause-value
returns-clause-value c =
    let fp : FitsSigned w32 c.args.prediction = search rules in
    let fg : FitsSigned w16 c.get.result = search rules in
    let ff : FitsSigned w32 c.from.result = search rules in
    let e = rw (to_z-of_z w16 c.get.result fg) at c.from.ensures in
    let there : c.from.result ≡ value_at c.args.block.now 0 = e ∙ sym (got c.args.block.now 0 c.get.result c.get.ensures.value) in
    let dc : IsDc (value_at c.args.block.now 0) = c.get.ensures.block.coefficients 0 (omega arith) in
    let near = apart (value_at c.args.block.now 0) c.args.prediction dc c.requires in
    let fd : FitsSigned w32 (value_at c.args.block.now 0 -ℤ c.args.prediction) = fits_signed_from_abs w32 _ (omega (arith, near)) in
    rw (to_z-of_z w32 c.from.result ff, to_z-of_z w32 c.args.prediction fp, there, to_z-of_z w32 (value_at c.args.block.now 0 -ℤ c.args.prediction) fd) refl

pub returns-clause-small : goal.returns-clause-small
returns-clause-small c =
    let dc : IsDc (value_at c.args.block.now 0) = c.get.ensures.block.coefficients 0 (omega arith) in
    rw (returns-clause-value c) (sixteen (value_at c.args.block.now 0) c.args.prediction dc c.requires)
