use Rattle.std.proofs.Common.{rules, ap}
use Rattle.seat_lock.proofs.TurnKept.{tells_note, told_is, gives_left, again_at}
use Rattle.seat_lock.proofs.held.Held.release.Goals as goal

pub store-requires : goal.store-requires
store-requires g c =
    let noted = c.exchange-slot.ensures.3 in
    let holds = c.requires.holds in
    let me = c.args.self.pass.now.seat.me in
    let at_note = c.exchange-slot.new.seat.me in
    (search rules, search rules, tells_note _ g.L.Rule.fits g.L.Rule.after _ _ _ _ _ _ me at_note noted holds.1 holds.0)

pub exchange-slot-requires-2 : goal.exchange-slot-requires-2
exchange-slot-requires-2 g c =
    let noted = c.exchange-slot.ensures.3 in
    let holds = c.requires.holds in
    let me = c.args.self.pass.now.seat.me in
    let at_note = c.exchange-slot.new.seat.me in
    let at_told = c.store.new.seat.me in
    let stored = c.store.ensures.2 in
    let told = told_is _ g.L.Rule.fits g.L.Rule.after _ _ _ _ me at_note at_told noted holds.1 holds.0 stored in
    (search rules, again_at _ _ (ap (λ m. m.1) told))

pub store-requires-2 : goal.store-requires-2
store-requires-2 g c =
    let noted = c.exchange-slot.ensures.3 in
    let holds = c.requires.holds in
    let me = c.args.self.pass.now.seat.me in
    let at_note = c.exchange-slot.new.seat.me in
    let at_told = c.store.new.seat.me in
    let stored = c.store.ensures.2 in
    let told = told_is _ g.L.Rule.fits g.L.Rule.after _ _ _ _ me at_note at_told noted holds.1 holds.0 stored in
    let at_home = c.exchange-slot-2.new.seat.me in
    let home = c.exchange-slot-2.ensures.3 in (
      search rules,
      search rules,
      gives_left _ g.L.Rule.fits g.L.Rule.after _ _ _ _ _ _ me at_told at_home _ told home c.requires.keeps,
    )
