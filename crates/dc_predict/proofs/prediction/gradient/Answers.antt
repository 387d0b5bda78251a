use Rattle.std.proofs.Common.{rules, ◌≡◌, ◌∙◌, arith, FitsSigned, w32}
use Rattle.std.specs.Prelude.{◌+ℤ◌, ◌-ℤ◌}
use Rattle.std.specs.Int.{int_max, int_min}
use Rattle.std.proofs.lemmas.Int.{to_z-of_z, fits_signed_from_abs}
use Rattle.dc_predict.specs.DcPrediction.{greatest, least}
use Rattle.dc_predict.proofs.Nearest.{nearest_is}
use Rattle.dc_predict.proofs.prediction.gradient.Goals as goal

pub returns-clause-value : goal.returns-clause-value
returns-clause-value c =
    let fits : FitsSigned w32 c.clamped.result = search rules in
    let fa : FitsSigned w32 c.args.above = search rules in
    let fl : FitsSigned w32 c.args.left = search rules in
    let fd : FitsSigned w32 c.args.diagonal = search rules in
    let fp : FitsSigned w32 c.plane.result = search rules in
    let low = c.in_order-least.result.0 in
    let high = c.in_order-least.result.1 in
    let is_low : low ≡ least c.args.above c.args.left = rw (to_z-of_z w32 c.args.above fa, to_z-of_z w32 c.args.left fl) at c.in_order-least.ensures.least in
    let is_high : high ≡ greatest c.args.above c.args.left = rw (to_z-of_z w32 c.args.above fa, to_z-of_z w32 c.args.left fl) at c.in_order-least.ensures.greatest in
    let both = (rw (to_z-of_z w32 c.args.above fa, to_z-of_z w32 c.args.left fl) at c.in_order-least.ensures.within) c.requires.above c.requires.left in
    let f0 : FitsSigned w32 low = fits_signed_from_abs w32 low (omega (arith, both.0)) in
    let f1 : FitsSigned w32 high = fits_signed_from_abs w32 high (omega (arith, both.1)) in
    let sum : c.plane.result ≡ c.args.above +ℤ c.args.left -ℤ c.args.diagonal = rw (to_z-of_z w32 c.args.above fa, to_z-of_z w32 c.args.left fl, to_z-of_z w32 c.args.diagonal fd) at c.plane.ensures.value in
    let value : c.clamped.result ≡ int_min (int_max low c.plane.result) high = rw (to_z-of_z w32 c.plane.result fp, to_z-of_z w32 c.in_order-least.result.0 f0, to_z-of_z w32 c.in_order-least.result.1 f1) at c.clamped.ensures.value in
    rw (to_z-of_z w32 c.clamped.result fits) ((rw (is_low, is_high, sum) at value) ∙ nearest_is c.args.above c.args.left c.args.diagonal)

pub returns-clause-within : goal.returns-clause-within
returns-clause-within c =
    let fits : FitsSigned w32 c.clamped.result = search rules in
    let fa : FitsSigned w32 c.args.above = search rules in
    let fl : FitsSigned w32 c.args.left = search rules in
    let low = c.in_order-least.result.0 in
    let high = c.in_order-least.result.1 in
    let both = (rw (to_z-of_z w32 c.args.above fa, to_z-of_z w32 c.args.left fl) at c.in_order-least.ensures.within) c.requires.above c.requires.left in
    let f0 : FitsSigned w32 low = fits_signed_from_abs w32 low (omega (arith, both.0)) in
    let f1 : FitsSigned w32 high = fits_signed_from_abs w32 high (omega (arith, both.1)) in
    rw (to_z-of_z w32 c.clamped.result fits) ((rw (to_z-of_z w32 c.in_order-least.result.0 f0, to_z-of_z w32 c.in_order-least.result.1 f1) at c.clamped.ensures.within) both.0 both.1 c.in_order-least.ensures.order)
