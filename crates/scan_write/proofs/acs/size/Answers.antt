use Rattle.std.proofs.Common.{unsigned_abs, ap, ◌∙◌, arith}
use Rattle.std.specs.Int.{w32}
use Rattle.std.proofs.lemmas.Int.{to_z-of_z}
use Rattle.coef_block.specs.Categories.{category}
use Rattle.scan_spec.proofs.ValueLemmas.{small_size}
use Rattle.scan_write.proofs.SmallNumbers.{set_category}
use Rattle.scan_write.proofs.acs.size.Goals as goal

pub returns-clause-category : goal.returns-clause-category
returns-clause-category c =
    let magnitude = c.unsigned_abs.ensures.value ∙ ap unsigned_abs (to_z-of_z w32 c.args.number c.ranges.number) in
    set_category c.unsigned_abs.result (omega (arith, magnitude, c.requires.some)) c.unsigned_abs.type_inv ∙ ap category magnitude

pub returns-clause-no_more : goal.returns-clause-no_more
returns-clause-no_more c =
    let magnitude = c.unsigned_abs.ensures.value ∙ ap unsigned_abs (to_z-of_z w32 c.args.number c.ranges.number) in
    let is = set_category c.unsigned_abs.result (omega (arith, magnitude, c.requires.some)) c.unsigned_abs.type_inv ∙ ap category magnitude in
    λ bits below. rw is (small_size bits (unsigned_abs c.args.number) below)
