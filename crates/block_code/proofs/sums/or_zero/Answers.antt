use Rattle.std.proofs.Common.{ap, pos, unsigned_abs}
use Rattle.std.proofs.lemmas.List.{get_or-replicate}
use Rattle.block_code.proofs.sums.or_zero.Goals as goal

pub returns-in-None : goal.returns-in-None
returns-in-None c = λ position within. rw (c.requires, c.in-None.is) (ap unsigned_abs (get_or-replicate 64 position (pos 0) (pos 0) within))
