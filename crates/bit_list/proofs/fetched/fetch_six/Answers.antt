use Rattle.bit_list.proofs.Fetching.{six_more}
use Rattle.bit_list.proofs.fetched.fetch_six.Goals as goal

pub returns-clause-cursor : goal.returns-clause-cursor
returns-clause-cursor c = (six_more c.args.bytes.now c.args.at.now c.args.six c.requires.kept c.requires.fresh c.requires.room c.requires.plain).cursor

pub returns-clause-kept : goal.returns-clause-kept
returns-clause-kept c = (six_more c.args.bytes.now c.args.at.now c.args.six c.requires.kept c.requires.fresh c.requires.room c.requires.plain).kept
