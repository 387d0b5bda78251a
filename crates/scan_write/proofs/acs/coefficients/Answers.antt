use Rattle.std.proofs.Common.{◌-◌, drop, slice_index, subst, arith}
use Rattle.std.proofs.lemmas.Result.{err_from_is_err_and}
use Rattle.coef_block.specs.Zigzag.{zigzag}
use Rattle.scan_spec.specs.BlockBits.{Text, ac_text, ac_values, coefficient_at, coefficient_text}
use Rattle.scan_write.specs.Outputs.{output_with}
use Rattle.scan_write.specs.Appending.{HasAppended}
use Rattle.scan_write.proofs.AppendedTexts.{texts_more, texts_stop}
use Rattle.scan_write.proofs.Runs.{none_after, later_is, found, due, left_after, no_bit}
use Rattle.scan_write.proofs.acs.coefficients.Goals as goal

pub after-requires-clause-some : goal.after-requires-clause-some
after-requires-clause-some c =
    let l = c.loop-left in
    let lowest = c.lowest-index.ensures in
    let index = c.lowest-index.result in
    let later = later_is l.left l.last index c.args.block.now l.invariant.left lowest.below lowest.here in
    found l.left l.last index c.args.block.now l.invariant.left lowest.below lowest.here later lowest.within

pub returns-in_err-after-clause-err : goal.returns-in_err-after-clause-err
returns-in_err-after-clause-err c =
    let codes = c.args.codes.now in
    let block = c.args.block.now in
    let l = c.loop-left in
    let index = c.lowest-index.result in
    let lowest = c.lowest-index.ensures in
    let whole = ac_text codes 0 (ac_values block) in
    let old = output_with c.args.output.now c.args.out.now in
    let now = output_with l.output l.out in
    let new = output_with c.after.new.output c.after.new.out in
    let text = coefficient_text codes (index - l.last - 1) (coefficient_at block (slice_index zigzag index)) in
    let rest = ac_text codes 0 (drop index (ac_values block)) in
    let next = due l.left l.last index block l.invariant.left lowest.below codes whole old now lowest.here lowest.within
    l.invariant.going in
    let p = err_from_is_err_and c.from_residual.result c.from_residual.ensures.1 in
    rw (p.1, p.2) (texts_stop whole old now new text rest c.in_err-after.field-0.0 next c.in_err-after.ensures.is)

pub loop-left-preserved : goal.loop-left-preserved
loop-left-preserved c =
    let codes = c.args.codes.now in
    let block = c.args.block.now in
    let l = c.loop-left in
    let index = c.lowest-index.result in
    let lowest = c.lowest-index.ensures in
    let left = c.without_lowest-left in
    let cleared = left.ensures index lowest.here lowest.below in
    let whole = ac_text codes 0 (ac_values block) in
    let old = output_with c.args.output.now c.args.out.now in
    let now = output_with l.output l.out in
    let new = output_with c.after.new.output c.after.new.out in
    let text = coefficient_text codes (index - l.last - 1) (coefficient_at block (slice_index zigzag index)) in
    let rest = ac_text codes 0 (drop index (ac_values block)) in
    let later = later_is l.left l.last index block l.invariant.left lowest.below lowest.here in
    let next = due l.left l.last index block l.invariant.left lowest.below codes whole old now lowest.here lowest.within
    l.invariant.going in
    record {
      few = lowest.within;
      left = left_after l.left l.last index block l.invariant.left lowest.below left.result lowest.within later cleared.0
          (λ other within apart. cleared.1 other apart);
      spent = omega (arith, c.after.ensures.spent, l.invariant.spent);
      going = texts_more whole old now new text rest next c.in_ok-after.ensures.is;
    }

pub returns-clause-ok : goal.returns-clause-ok
returns-clause-ok c =
    let codes = c.args.codes.now in
    let block = c.args.block.now in
    let l = c.loop-left in
    let whole = ac_text codes 0 (ac_values block) in
    let old = output_with c.args.output.now c.args.out.now in
    let now = output_with l.output l.out in
    let none = no_bit l.left l.last block l.invariant.left c.loop-left-test.false in
    subst (λ (t : Text). HasAppended whole old now t) (none_after codes block l.last l.invariant.few none) l.invariant.going
