use Rattle.std.proofs.Common.{ap, of_z, w16, w32}
use Rattle.std.specs.Prelude.{unsigned_abs, slice_index}
use Rattle.coef_block.specs.Zigzag.{zigzag}
use Rattle.std.proofs.lemmas.Int.{to_z-of_z}
use Rattle.block_code.proofs.BlockCoefficients.{abs_some, abs_ten, ten_fits, within_limit}
use Rattle.block_code.proofs.coefficients.put_coefficient.Goals as goal

pub overflow_cast-value : goal.overflow_cast-value
overflow_cast-value c = rw (to_z-of_z w32 c.args.value c.ranges.value) (ten_fits c.args.value c.requires.ac)

pub put_in_zigzag-requires-clause-coefficient : goal.put_in_zigzag-requires-clause-coefficient
put_in_zigzag-requires-clause-coefficient c =
    rw (to_z-of_z w32 c.args.value c.ranges.value, to_z-of_z w16 c.args.value (ten_fits c.args.value c.requires.ac))
    (within_limit (slice_index zigzag c.args.index) (unsigned_abs c.args.value) (abs_ten c.args.value c.requires.ac))

pub put_in_zigzag-requires-clause-some : goal.put_in_zigzag-requires-clause-some
put_in_zigzag-requires-clause-some c =
    rw (to_z-of_z w32 c.args.value c.ranges.value, to_z-of_z w16 c.args.value (ten_fits c.args.value c.requires.ac)) (abs_some c.args.value (λ e. c.if-value-ne0.true (ap (of_z w32) e)))

pub returns-then-value-ne0 : goal.returns-then-value-ne0
returns-then-value-ne0 c = rw (to_z-of_z w32 c.args.value c.ranges.value, to_z-of_z w16 c.args.value (ten_fits c.args.value c.requires.ac)) at c.put_in_zigzag.ensures
