-- Statement: what restart intervals were padded with (docs/FORMAT.md, Pad bits).
use Rattle.std.specs.Prelude.{false, ◌||◌}
use Rattle.handover.specs.declared.pads.PadSum.{PadSum}

-- no interval
abbrev pub no_pads : PadSum
no_pads = record { zero = false; one = false; vain = false }

-- some intervals and others
abbrev pub pads_with : PadSum → PadSum → PadSum
pads_with a b =
    record { zero = a.zero || b.zero; one = a.one || b.one; vain = a.vain || b.vain }
