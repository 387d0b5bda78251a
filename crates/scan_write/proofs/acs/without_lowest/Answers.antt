use Rattle.scan_write.proofs.LowestBit.{cleared}
use Rattle.scan_write.proofs.acs.without_lowest.Goals as goal

pub returns : goal.returns
returns c = λ index here none. cleared c.args.mask index here none
