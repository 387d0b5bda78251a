use Rattle.std.proofs.Common.{rules}
use Rattle.seat_lock.proofs.TurnKept.{splits}
use Rattle.seat_lock.proofs.lock.Lock.split.Goals as goal

pub split_seat-seat-requires : goal.split_seat-seat-requires
split_seat-seat-requires g c =
    let rule = g.L.Rule in
    let asked = c.requires in
    let law = splits _ rule.fits rule.left rule.right rule.may_split rule.splits in
    (search rules, search rules, law _ _ asked.first asked.ready.0 asked.allowed)
