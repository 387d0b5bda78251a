use Rattle.std.proofs.Common.{◌≡◌, ℕ, ◌+◌, ◌-◌, ◌%◌, ◌^◌, sym, ap, ◌∙◌, arith}
use Rattle.std.proofs.lemmas.Result.{err_from_is_err_and}
use Rattle.bit_list.specs.NumbersOfBits.{length-low_bits}
use Rattle.bit_list.specs.BitsInside.{cursor_of}
use Rattle.bit_list.proofs.Cursors.{filled_already}
use Rattle.bit_list.proofs.Machine.{masked, fill_made, fill_fault}
use Rattle.bit_list.proofs.window.fill.Goals as goal

pub returns-then-at-gt0-clause-ok : goal.returns-then-at-gt0-clause-ok
returns-then-at-gt0-clause-ok c =
    let len = length-low_bits c.args.at.count c.args.at.number in
    filled_already c.args.bytes.now (cursor_of c.args.at) (omega arith)

pub returns-in_err-number-clause-err : goal.returns-in_err-number-clause-err
returns-in_err-number-clause-err c =
    let p = err_from_is_err_and c.from_residual.result c.from_residual.ensures.1 in
    let len = length-low_bits c.args.at.count c.args.at.number in
    rw (p.1, p.2) (fill_fault c.args.bytes.now (cursor_of c.args.at) _ (omega arith) (sym c.in_err-number.ensures))

pub returns-clause-ok : goal.returns-clause-ok
returns-clause-ok c =
    let count = 8 - c.args.at.skip in
    let skip : c.args.at.skip + count ≡ 8 = omega (arith, c.requires.skip) in
    let len = length-low_bits c.args.at.count c.args.at.number in
    fill_made c.args.bytes.now (cursor_of c.args.at) c.in_ok-number.number c.in_ok-number.next count _ (omega arith) (sym c.in_ok-number.ensures) skip
    (masked c.from.result count 16 (omega arith) ∙ ap (λ (n : ℕ). n % 2 ^ count) c.from.ensures)
