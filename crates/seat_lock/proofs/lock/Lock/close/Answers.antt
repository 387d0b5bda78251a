use Rattle.std.proofs.Common.{sym, ◌∙◌, subst, ◌∷◌, []}
use Rattle.seat_lock.proofs.TurnKept.{closed_home, home_of}
use Rattle.seat_lock.proofs.lock.Lock.close.Goals as goal

pub unreachable-requires : goal.unreachable-requires
unreachable-requires g c =
    let asked = c.requires in
    let final = c.close_with-closed.ensures.values.2 in
    let taken = c.take-slot.ensures.value in
    let home = closed_home _ g.L.Rule.fits _ _ _ _ _ final taken asked.first asked.alone asked.ready.0 in
    c.in_default.not-Home home.0 home.1

pub returns : goal.returns
returns g c =
    let asked = c.requires in
    let final = c.close_with-closed.ensures.values.2 in
    let taken = c.take-slot.ensures.value in
    let home = closed_home _ g.L.Rule.fits _ _ _ _ _ final taken asked.first asked.alone asked.ready.0 in
    let same = home_of home.0 c.in-Home.value (sym home.1 ∙ c.in-Home.is) in
    record { fits = subst (λ x. g.L.Rule.fits x (c.args.pass.seat.me.0.view ∷ [])) same home.2 }
