-- View: a handover's fields as the program keeps them, and back (own).
use Rattle.handover.specs.Handovers.{HandoverFields}
use Rattle.handover.specs.declared.handover.Handover.TheInside.{Inside}

-- the fields that clauses see
abbrev pub handover_fields : Inside → HandoverFields
handover_fields h =
    record { partial = h.partial; bits = h.bits; preds = h.preds; restarts = h.restarts }

-- the fields that the program keeps
abbrev pub handover_inside : HandoverFields → Inside
handover_inside h =
    record { partial = h.partial; bits = h.bits; preds = h.preds; restarts = h.restarts }
