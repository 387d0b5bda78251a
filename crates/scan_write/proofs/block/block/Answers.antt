use Rattle.std.proofs.lemmas.Result.{err_from_is_err_and}
use Rattle.scan_spec.specs.BlockBits.{dc_text, ac_text, ac_values, block_text}
use Rattle.scan_write.specs.Outputs.{output_with}
use Rattle.scan_write.proofs.AppendedTexts.{texts_more, texts_stop, texts_last_stop, texts_whole}
use Rattle.scan_write.proofs.DueTexts.{dc_due}
use Rattle.scan_write.proofs.SmallNumbers.{half}
use Rattle.scan_write.proofs.block.block.Goals as goal

pub returns-in_err-dc-clause-is : goal.returns-in_err-dc-clause-is
returns-in_err-dc-clause-is c =
    let codes = c.args.codes.now in
    let block = c.args.block.now in
    let whole = block_text codes c.args.before block in
    let old = output_with c.args.output.now c.args.out.now in
    let new = output_with c.dc.new.output c.dc.new.out in
    let text = dc_text codes.dc (half c.args.before) (half c.get-value.result) in
    let rest = ac_text codes.ac 0 (ac_values block) in
    let due = dc_due codes c.args.before c.get-value.result block old c.requires.before c.get-value.ensures.value c.get-value.ensures.coefficient in
    let p = err_from_is_err_and c.from_residual.result c.from_residual.ensures.1 in
    rw (p.1, p.2) (texts_stop whole old old new text rest c.in_err-dc.field-0.0 due c.in_err-dc.ensures.is)

pub returns-in_err-acs-clause-is : goal.returns-in_err-acs-clause-is
returns-in_err-acs-clause-is c =
    let codes = c.args.codes.now in
    let block = c.args.block.now in
    let whole = block_text codes c.args.before block in
    let old = output_with c.args.output.now c.args.out.now in
    let now = output_with c.dc.new.output c.dc.new.out in
    let new = output_with c.acs.new.output c.acs.new.out in
    let text = dc_text codes.dc (half c.args.before) (half c.get-value.result) in
    let rest = ac_text codes.ac 0 (ac_values block) in
    let due = dc_due codes c.args.before c.get-value.result block old c.requires.before c.get-value.ensures.value c.get-value.ensures.coefficient in
    let p = err_from_is_err_and c.from_residual-in_err-acs.result c.from_residual-in_err-acs.ensures.1 in
    rw (p.1, p.2) (texts_last_stop whole old now new rest c.in_err-acs.field-0.0 (texts_more whole old old now text rest due c.in_ok-dc.ensures.is) c.in_err-acs.ensures.is)

pub returns-clause-is : goal.returns-clause-is
returns-clause-is c =
    let codes = c.args.codes.now in
    let block = c.args.block.now in
    let whole = block_text codes c.args.before block in
    let old = output_with c.args.output.now c.args.out.now in
    let now = output_with c.dc.new.output c.dc.new.out in
    let text = dc_text codes.dc (half c.args.before) (half c.get-value.result) in
    let rest = ac_text codes.ac 0 (ac_values block) in
    let due = dc_due codes c.args.before c.get-value.result block old c.requires.before c.get-value.ensures.value c.get-value.ensures.coefficient in
    texts_whole whole old now (output_with c.acs.new.output c.acs.new.out) rest (texts_more whole old old now text rest due c.in_ok-dc.ensures.is) c.in_ok-acs.ensures.is
