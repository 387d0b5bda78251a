use Rattle.std.proofs.Common.{arith}
use Rattle.scan_spec.proofs.MachineValues.{extended}
use Rattle.scan_spec.proofs.additional_bits.extend.Goals as goal

pub returns-clause-value : goal.returns-clause-value
returns-clause-value c =
    extended c.args.bits c.args.size c.less.result c.from.result c.from-2.result (omega arith) c.requires.few c.requires.below c.from.ensures c.from-2.ensures c.less.ensures.low c.less.ensures.high
