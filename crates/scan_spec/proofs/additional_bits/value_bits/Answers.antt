use Rattle.std.proofs.Common.{pos, unsigned_abs, ap, sym, ◌∙◌, arith}
use Rattle.std.specs.Int.{w32}
use Rattle.std.specs.Int.Signed.{le_z}
use Rattle.std.proofs.lemmas.Int.{to_z-of_z}
use Rattle.scan_spec.proofs.ValueLemmas.{mag_negative}
use Rattle.scan_spec.proofs.SmallValues.{small}
use Rattle.scan_spec.proofs.additional_bits.value_bits.Goals as goal

pub overflow_shl-result : goal.overflow_shl-result
overflow_shl-result c = let s = small (unsigned_abs c.args.value) c.args.size c.requires.small c.requires.size in omega arith

pub overflow_sub-result : goal.overflow_sub-result
overflow_sub-result c = let s = small (unsigned_abs c.args.value) c.args.size c.requires.small c.requires.size in omega arith

pub overflow_sub-result-else-value-ge0 : goal.overflow_sub-result-else-value-ge0
overflow_sub-result-else-value-ge0 c =
    let magnitude = c.unsigned_abs-else-value-ge0.ensures.value ∙ ap unsigned_abs (to_z-of_z w32 c.args.value c.ranges.value) in
    let s = small (unsigned_abs c.args.value) c.args.size c.requires.small c.requires.size in
    omega arith

pub overflow_cast-result-else-value-ge0-2 : goal.overflow_cast-result-else-value-ge0-2
overflow_cast-result-else-value-ge0-2 c = let s = small (unsigned_abs c.args.value) c.args.size c.requires.small c.requires.size in omega arith

pub returns-then-value-ge0-clause-below : goal.returns-then-value-ge0-clause-below
returns-then-value-ge0-clause-below c =
    let magnitude = c.unsigned_abs.ensures.value ∙ ap unsigned_abs (to_z-of_z w32 c.args.value c.ranges.value) in
    let s = small (unsigned_abs c.args.value) c.args.size c.requires.small c.requires.size in
    omega arith

pub returns-then-value-ge0-clause-few : goal.returns-then-value-ge0-clause-few
returns-then-value-ge0-clause-few c = let s = small (unsigned_abs c.args.value) c.args.size c.requires.small c.requires.size in s.few

pub returns-else-value-ge0-clause-bits : goal.returns-else-value-ge0-clause-bits
returns-else-value-ge0-clause-bits c =
    let same = to_z-of_z w32 c.args.value c.ranges.value in
    let magnitude = c.unsigned_abs-else-value-ge0.ensures.value ∙ ap unsigned_abs same in
    let s = small (unsigned_abs c.args.value) c.args.size c.requires.small c.requires.size in
    let negative = sym (ap (le_z (pos 0)) same) ∙ c.if-value-ge0.false in
    rw (s.shifted, magnitude) (mag_negative c.args.value c.args.size negative c.requires.size)

pub returns-else-value-ge0-clause-few : goal.returns-else-value-ge0-clause-few
returns-else-value-ge0-clause-few c = let s = small (unsigned_abs c.args.value) c.args.size c.requires.small c.requires.size in s.few
