use Rattle.std.proofs.Common.{◌≡◌, ◌≤◌, ◌<◌, ◌+ℤ◌, List, ℕ, ℤ, unsigned_abs, Ok, Err, ap, subst, ◌∙◌, arith}
use Rattle.std.proofs.lemmas.Result.{err_from_is_err_and}
use Rattle.scan_spec.specs.ScanReading.{extended_at}
use Rattle.scan_spec.proofs.SignedValues.{kept_half}
use Rattle.std.specs.Int.{w16}
use mir.Val.{to_z, of_z}
use Rattle.scan_spec.specs.declared.refusal.ScanRefusal.TheVariants as refusals
use Rattle.scan_spec.proofs.MachineValues.{dc_sum, few_bits}
use Rattle.scan_decode.proofs.DcReading.{no_size, large_size, no_difference, large_dc, dc_there}
use Rattle.scan_decode.proofs.dc.dc.Goals as goal

pub returns-in_err-size-clause-is : goal.returns-in_err-size-clause-is
returns-in_err-size-clause-is c =
    let p = err_from_is_err_and c.from_residual.result c.from_residual.ensures.1 in
    rw (p.1, p.2) (no_size c.args.codes.now c.args.before c.args.input.now.bytes c.args.input.now.cursor _ c.in_err-size.ensures.is)

pub returns-then-size-gt11-clause-is : goal.returns-then-size-gt11-clause-is
returns-then-size-gt11-clause-is c =
    ap (λ (n : ℕ). Err (refusals.SymbolBad n)) c.place.ensures
    ∙ large_size c.args.codes.now c.args.before c.args.input.now.bytes c.args.input.now.cursor c.symbol.new.input.cursor c.in_ok-size.size c.in_ok-size.ensures.is c.if-size-gt11.true

pub returns-in_err-difference-clause-is : goal.returns-in_err-difference-clause-is
returns-in_err-difference-clause-is c =
    let p = err_from_is_err_and c.from_residual-in_err-difference.result c.from_residual-in_err-difference.ensures.1 in
    rw (p.1, p.2) (no_difference c.args.codes.now c.args.before c.args.input.now.bytes c.args.input.now.cursor c.symbol.new.input.cursor c.in_ok-size.size _ c.in_ok-size.ensures.is c.if-size-gt11.false
    (subst (λ (bytes : List ℕ). Err c.in_err-difference.field-0.0 ≡ extended_at c.in_ok-size.size bytes c.symbol.new.input.cursor) c.symbol.ensures.bytes c.in_err-difference.ensures.is))

pub returns-then-unsigned_abs-gt-MOST_DC-clause-is : goal.returns-then-unsigned_abs-gt-MOST_DC-clause-is
returns-then-unsigned_abs-gt-MOST_DC-clause-is c =
    let v = c.in_ok-difference.difference in
    let there = subst (λ (bytes : List ℕ). Ok (v, c.extended.new.input.cursor) ≡ extended_at c.in_ok-size.size bytes c.symbol.new.input.cursor) c.symbol.ensures.bytes c.in_ok-difference.ensures.is in
    let sum = dc_sum c.args.before v c.from.result c.requires (few_bits c.in_ok-size.size v c.if-size-gt11.false c.in_ok-difference.ensures.small) (c.from.ensures ∙ kept_half c.args.before c.requires) in
    let large : 32767 < unsigned_abs (c.args.before +ℤ v) = omega (arith, c.unsigned_abs.ensures.value ∙ ap unsigned_abs sum, c.if-unsigned_abs-gt-MOST_DC.true) in
    ap (λ (n : ℕ). Err (refusals.DcRange n)) c.place-then-unsigned_abs-gt-MOST_DC.ensures
    ∙ large_dc c.args.codes.now c.args.before c.args.input.now.bytes c.args.input.now.cursor c.symbol.new.input.cursor c.extended.new.input.cursor c.in_ok-size.size v c.in_ok-size.ensures.is c.if-size-gt11.false there large

pub returns-clause-is : goal.returns-clause-is
returns-clause-is c =
    let v = c.in_ok-difference.difference in
    let there = subst (λ (bytes : List ℕ). Ok (v, c.extended.new.input.cursor) ≡ extended_at c.in_ok-size.size bytes c.symbol.new.input.cursor) c.symbol.ensures.bytes c.in_ok-difference.ensures.is in
    let sum = dc_sum c.args.before v c.from.result c.requires (few_bits c.in_ok-size.size v c.if-size-gt11.false c.in_ok-difference.ensures.small) (c.from.ensures ∙ kept_half c.args.before c.requires) in
    let small : unsigned_abs (c.args.before +ℤ v) ≤ 32767 = omega (arith, c.unsigned_abs.ensures.value ∙ ap unsigned_abs sum, c.if-unsigned_abs-gt-MOST_DC.false) in
    ap (λ (z : ℤ). Ok (z, c.extended.new.input.cursor)) (ap (λ (z : ℤ). to_z w16 (of_z w16 z)) sum ∙ kept_half (c.args.before +ℤ v) small)
    ∙ dc_there c.args.codes.now c.args.before c.args.input.now.bytes c.args.input.now.cursor c.symbol.new.input.cursor c.extended.new.input.cursor c.in_ok-size.size v c.in_ok-size.ensures.is c.if-size-gt11.false there small
