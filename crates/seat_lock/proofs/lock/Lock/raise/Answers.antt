use Rattle.std.proofs.Common.{rules}
use Rattle.seat_lock.proofs.TurnKept.{rings}
use Rattle.seat_lock.proofs.lock.Lock.raise.Goals as goal

pub fetch_add-requires : goal.fetch_add-requires
fetch_add-requires g c = (search rules, search rules, rings _ g.L.Rule.fits _ _ _)
