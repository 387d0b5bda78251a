use Rattle.std.proofs.Common.{arith}
use Rattle.byte_window.specs.Slices.{has_place}
use Rattle.byte_window.proofs.Covers.{cover_fits}
use Rattle.byte_window.proofs.parts.parts_within.Goals as goal

pub returns-clause-order : goal.returns-clause-order
returns-clause-order g c =
    let fits = cover_fits (has_place (g.P.Places.place c.args.places.now) c.args.from c.args.to) c.loop-part.part in
    let order = fits.0 in
    let first = c.loop-part.invariant.first in
    let past = c.loop-part.invariant.past in
    omega (arith, order, first, past)

pub returns-clause-within : goal.returns-clause-within
returns-clause-within g c =
    let fits = cover_fits (has_place (g.P.Places.place c.args.places.now) c.args.from c.args.to) c.loop-part.part in
    let within = fits.1 in
    let past = c.loop-part.invariant.past in
    let test = c.loop-part-test.false in
    let end = c.loop-part.auto.part-end in
    let count = c.count-part-end.ensures in
    omega (arith, within, past, test, end, count)
