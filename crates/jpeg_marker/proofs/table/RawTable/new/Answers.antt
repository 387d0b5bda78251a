use Rattle.std.proofs.Common.{◌≡◌, true, sym, ◌∙◌, arith}
use Rattle.jpeg_marker.specs.HuffmanTables.{distinct}
use Rattle.jpeg_marker.proofs.KeptPlans.{kept_fields}
use Rattle.jpeg_marker.proofs.table.RawTable.new.Goals as goal

pub invariant_of-result : goal.invariant_of-result
invariant_of-result c =
    let once : distinct c.args.values.now ≡ true = sym c.distinct.ensures.value ∙ c.if-not-distinct.false in
    kept_fields c.args.counts.now c.args.values.now c.with_zeros.result c.told-counts c.requires once (omega (arith, c.if-code_space.false, c.code_space.ensures)) c.with_zeros.ensures
