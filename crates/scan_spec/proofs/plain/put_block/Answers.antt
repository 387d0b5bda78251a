use Rattle.std.proofs.Common.{Err, Ok, sym, ap₂, ◌∙◌, subst}
use Rattle.std.proofs.lemmas.Result.{err_from_is_err_and}
use Rattle.scan_spec.specs.BlockBits.{Text, dc_text, ac_text, ac_values, coefficient_at, block_text}
use Rattle.scan_spec.specs.PlainWriting.{HasPutPrefix, IsWritten}
use Rattle.scan_spec.proofs.SignedValues.{widened}
use Rattle.scan_spec.proofs.Texts.{goes_start, goes_more, goes_stop, goes_last}
use Rattle.scan_spec.proofs.Words.{block_is, value_is, dc_small}
use Rattle.scan_spec.proofs.plain.put_block.Goals as goal

pub returns-in_err-put_dc : goal.returns-in_err-put_dc
returns-in_err-put_dc c =
    let codes = c.args.codes.now in
    let block = c.args.block.now in
    let old = c.args.bits.now.items in
    let whole = block_text codes c.args.before block in
    let before = widened c.args.before c.from.result c.requires c.from.ensures in
    let dc = widened c.get.result c.from-2.result (dc_small c.get.result c.get.ensures.coefficient) c.from-2.ensures ∙ sym (value_is block 0 c.get.result c.get.ensures.value) in
    let text = dc_text codes.dc c.args.before (coefficient_at block 0) in
    let rest = ac_text codes.ac 0 (ac_values block) in
    let at = subst (λ (t : Text). HasPutPrefix whole old old t) (block_is codes c.args.before block) (goes_start whole old) in
    let wrote = subst (λ (t : Text). IsWritten (Err c.in_err-put_dc.field-0.0) old c.put_dc.new.bits.items t) (ap₂ (dc_text codes.dc) before dc) c.in_err-put_dc.ensures in
    let p = err_from_is_err_and c.from_residual.result c.from_residual.ensures.1 in
    rw (p.1, p.2) (goes_stop whole old old c.put_dc.new.bits.items text rest c.in_err-put_dc.field-0.0 at wrote)

pub returns : goal.returns
returns c =
    let codes = c.args.codes.now in
    let block = c.args.block.now in
    let old = c.args.bits.now.items in
    let whole = block_text codes c.args.before block in
    let before = widened c.args.before c.from.result c.requires c.from.ensures in
    let dc = widened c.get.result c.from-2.result (dc_small c.get.result c.get.ensures.coefficient) c.from-2.ensures ∙ sym (value_is block 0 c.get.result c.get.ensures.value) in
    let text = dc_text codes.dc c.args.before (coefficient_at block 0) in
    let rest = ac_text codes.ac 0 (ac_values block) in
    let at = subst (λ (t : Text). HasPutPrefix whole old old t) (block_is codes c.args.before block) (goes_start whole old) in
    let wrote = subst (λ (t : Text). IsWritten (Ok tt) old c.put_dc.new.bits.items t) (ap₂ (dc_text codes.dc) before dc) c.in_ok-put_dc.ensures in
    goes_last whole old c.put_dc.new.bits.items c.put_acs.new.bits.items rest c.put_acs.result (goes_more whole old old c.put_dc.new.bits.items text rest tt at wrote) c.put_acs.ensures
