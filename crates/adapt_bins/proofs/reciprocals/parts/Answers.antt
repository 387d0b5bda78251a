use Rattle.std.proofs.Common.{◌≡◌, ◌+◌, arith}
use Rattle.adapt_bins.specs.Reciprocals.{reciprocal}
use Rattle.adapt_bins.proofs.Quotients.{parts_are, product_fits}
use Rattle.adapt_bins.proofs.reciprocals.parts.Goals as goal

pub returns : goal.returns
returns c =
    rw (c.from-3.ensures, c.reciprocal-reciprocal.ensures, c.from.ensures, c.from-2.ensures)
    (parts_are c.args.zeros c.args.ones (omega arith) (omega arith))

pub overflow_mul-result : goal.overflow_mul-result
overflow_mul-result c =
    let by : c.reciprocal-reciprocal.result ≡ reciprocal (c.args.zeros + c.args.ones) =
    rw (← c.from.ensures, ← c.from-2.ensures) c.reciprocal-reciprocal.ensures in
    let small = product_fits c.args.zeros c.args.ones (omega arith) (omega arith) in
    rw (c.from-3.ensures, by) (omega (arith, small))
