use Rattle.std.proofs.Common.{rules, sym, ap, ◌∙◌, ◌∷◌}
use Rattle.atomic_table.specs.Table.{rest}
use Rattle.seat_lock.specs.declared.known.Slot.TheVariants.{Home}
use Rattle.seat_lock.proofs.TurnKept.{tries}
use Rattle.seat_lock.proofs.lock.Lock.hold.Goals as goal

pub compare_exchange-turn-requires : goal.compare_exchange-turn-requires
compare_exchange-turn-requires g c =
    (search rules, search rules, tries _ _ _ _ _ (ap (λ m. m.0.stage) c.loop.invariant.2 ∙ c.requires.ready.0))

pub exchange-slot-requires : goal.exchange-slot-requires
exchange-slot-requires g c =
    let taken = c.compare_exchange-turn.ensures.2.free c.if-turn-eq-FREE.true in
    let slots = ap (λ m. m.1) taken.seat in
    (search rules, (Home taken.found, slots ∙ ap (λ l. (0, Home taken.found) ∷ rest l) (sym slots)))
