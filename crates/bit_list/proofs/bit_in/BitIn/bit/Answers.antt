use Rattle.std.proofs.lemmas.Result.{err_from_is_err_and}
use Rattle.bit_list.proofs.Ahead.{bit_of_bits, fault_of_bits}
use Rattle.bit_list.proofs.bit_in.BitIn.bit.Goals as goal

pub returns-in_err-number-clause-err : goal.returns-in_err-number-clause-err
returns-in_err-number-clause-err c =
    let p = err_from_is_err_and c.from_residual.result c.from_residual.ensures.1 in
    rw (p.1, p.2) (fault_of_bits c.args.self.now.bytes c.args.self.now.cursor _ c.in_err-number.ensures.err)

pub returns-clause-ok : goal.returns-clause-ok
returns-clause-ok c =
    bit_of_bits c.args.self.now.bytes c.args.self.now.cursor _ c.in_ok-number.number c.in_ok-number.ensures.ok.0 c.in_ok-number.ensures.ok.1
