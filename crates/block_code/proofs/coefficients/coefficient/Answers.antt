use Rattle.std.proofs.Common.{rules, ◌≡◌, ◌∙◌, FitsSigned, w16, w32}
use Rattle.std.proofs.lemmas.Int.{to_z-of_z}
use Rattle.block_code.proofs.BlockCoefficients.{ten_of}
use Rattle.block_code.proofs.coefficients.coefficient.Goals as goal

pub returns-clause-ac : goal.returns-clause-ac
returns-clause-ac c =
    let fits : FitsSigned w32 c.from.result = search rules in
    let small : FitsSigned w16 c.get.result = search rules in
    let read : c.from.result ≡ c.get.result = c.from.ensures ∙ to_z-of_z w16 c.get.result small in
    rw (to_z-of_z w32 c.from.result fits, read) (ten_of c.args.position c.get.result c.requires c.get.ensures.coefficient)
