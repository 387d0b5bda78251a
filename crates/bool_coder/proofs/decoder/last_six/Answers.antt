use Rattle.std.proofs.Common.{arith, rules}
use Rattle.bool_coder.proofs.FirstBits.{prefix_six, all_bytes}
use Rattle.bool_coder.proofs.decoder.last_six.Goals as goal

pub returns : goal.returns
returns c =
    let six = prefix_six c.args.bytes.now c.args.fetched (all_bytes c.args.bytes.now (λ i. let h = c.type_inv.bytes i in search rules)) in
    omega (arith, six)
