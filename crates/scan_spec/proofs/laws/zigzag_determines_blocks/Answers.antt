use Rattle.scan_spec.proofs.ZigzagLaws.{zigzag_tells, set_in_zigzag}
use Rattle.scan_spec.proofs.laws.zigzag_determines_blocks.Goals as goal

pub returns-clause-determined : goal.returns-clause-determined
returns-clause-determined c = zigzag_tells

pub returns-clause-set : goal.returns-clause-set
returns-clause-set c = set_in_zigzag
