use Rattle.std.proofs.Common.{ℤ, false, refl, ap, ◌∙◌}
use Rattle.std.proofs.lemmas.Result.{err_from_is_err_and}
use Rattle.scan_spec.specs.ScanReading.{acs_at, dc_at}
use Rattle.scan_spec.proofs.SignedValues.{kept_half}
use Rattle.scan_decode.proofs.DcThenAcs.{coded, first_is}
use Rattle.scan_decode.proofs.skip.skip_block.Goals as goal

pub returns-in_err-skip_acs-clause-is : goal.returns-in_err-skip_acs-clause-is
returns-in_err-skip_acs-clause-is c =
    let dc = c.in_ok-value.value in
    let later = c.dc.new.input in
    let read = c.in_err-skip_acs.ensures.is dc in
    let there = c.in_ok-value.ensures.is ∙ ap (λ (z : ℤ). dc_at c.args.codes.now.dc z c.args.input.now.bytes c.args.input.now.cursor) (kept_half c.args.before c.requires.before) in
    let whole = coded c.args.codes.now c.args.before dc dc c.args.input.now.bytes later.bytes c.args.input.now.cursor later.cursor there c.dc.ensures.bytes refl in
    let p = err_from_is_err_and c.from_residual-in_err-skip_acs.result c.from_residual-in_err-skip_acs.ensures.1 in
    rw (p.1, p.2) (read.0, read.1 ∙ whole, tt)

pub returns-clause-is : goal.returns-clause-is
returns-clause-is c =
    let dc = c.in_ok-value.value in
    let later = c.dc.new.input in
    let codes = c.args.codes.now in
    let read = c.in_ok-skip_acs.ensures.is dc in
    let there = c.in_ok-value.ensures.is ∙ ap (λ (z : ℤ). dc_at c.args.codes.now.dc z c.args.input.now.bytes c.args.input.now.cursor) (kept_half c.args.before c.requires.before) in
    let whole = coded codes c.args.before dc dc c.args.input.now.bytes later.bytes c.args.input.now.cursor later.cursor there c.dc.ensures.bytes refl in
    (read.0, read.1 ∙ whole, kept_half dc c.in_ok-value.ensures.small ∙ first_is read.0 dc c.skip_acs.new.input.cursor (acs_at 63 codes.ac 63 false later.bytes later.cursor) read.1)
