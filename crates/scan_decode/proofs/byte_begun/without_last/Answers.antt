use Rattle.scan_decode.proofs.BytesBegun.{cleared}
use Rattle.scan_decode.proofs.byte_begun.without_last.Goals as goal

pub returns-clause-partial : goal.returns-clause-partial
returns-clause-partial c = cleared c.args.byte c.args.last c.from.result c.requires c.ranges.byte.fits c.from.ensures
