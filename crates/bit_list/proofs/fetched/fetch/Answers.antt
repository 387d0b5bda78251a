use Rattle.std.proofs.Common.{arith}
use Rattle.bit_list.proofs.Fetching.{one_more}
use Rattle.bit_list.proofs.fetched.fetch.Goals as goal

pub returns-clause-cursor : goal.returns-clause-cursor
returns-clause-cursor c =
    rw c.from.ensures (one_more c.args.bytes.now c.args.at.now c.args.byte c.args.next c.requires.kept c.requires.fresh c.requires.room (omega arith) c.requires.unit).cursor

pub returns-clause-kept : goal.returns-clause-kept
returns-clause-kept c =
    rw c.from.ensures (one_more c.args.bytes.now c.args.at.now c.args.byte c.args.next c.requires.kept c.requires.fresh c.requires.room (omega arith) c.requires.unit).kept
