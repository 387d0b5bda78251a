use Rattle.scan_spec.proofs.MachineValues.{ones_less}
use Rattle.scan_spec.proofs.additional_bits.less.Goals as goal

pub returns-clause-low : goal.returns-clause-low
returns-clause-low c = λ under. ones_less c.args.bits c.args.size c.requires.few under
