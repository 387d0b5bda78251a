use Rattle.std.proofs.Common.{◌-◌, arith}
use Rattle.bit_list.proofs.Machine.{masked, split_off}
use Rattle.bit_list.proofs.window.split.Goals as goal

pub returns-clause-below : goal.returns-clause-below
returns-clause-below c =
    let left = c.args.at.count - c.args.count in
    let few = c.requires.window.bits.few in
    (split_off c.args.at.count c.args.at.number c.args.count left _ (omega arith) c.requires.window.bits.below (masked c.args.at.number left 8 (omega arith))).0

pub returns-clause-bits : goal.returns-clause-bits
returns-clause-bits c =
    let left = c.args.at.count - c.args.count in
    let few = c.requires.window.bits.few in
    (split_off c.args.at.count c.args.at.number c.args.count left _ (omega arith) c.requires.window.bits.below (masked c.args.at.number left 8 (omega arith))).2
