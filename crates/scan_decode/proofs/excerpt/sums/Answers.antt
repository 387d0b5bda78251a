use Rattle.scan_decode.proofs.ExcerptReading.{sums_in_halves}
use Rattle.scan_decode.proofs.excerpt.sums.Goals as goal

pub returns : goal.returns
returns c = sums_in_halves c.args.dcs.now c.args.change.now c.told-dcs c.told-change c.requires.near c.requires.change
