use Rattle.bit_list.proofs.Stuffing.{unit_plain}
use Rattle.bit_list.proofs.fetched.fetch_plain.Goals as goal

pub fetch-requires-clause-unit : goal.fetch-requires-clause-unit
fetch-requires-clause-unit c = unit_plain c.args.bytes.now c.args.at.now.end c.requires.within c.requires.plain
