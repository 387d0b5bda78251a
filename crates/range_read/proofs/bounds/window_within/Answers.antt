use Rattle.std.proofs.Common.{◌∙◌, arith}
use Rattle.byte_window.proofs.PartedFacts.{parts_are_in_file}
use Rattle.container_spec.specs.RangeMeanings.{placed_file}
use Rattle.range_read.proofs.bounds.window_within.Goals as goal

pub window_within-requires-clause-order : goal.window_within-requires-clause-order
window_within-requires-clause-order c =
    let f = placed_file c.args.view.now.plan c.args.view.now.parts in
    let order = (parts_are_in_file f c.args.from c.args.to).0 in
    let first = c.from.ensures ∙ c.requires.first in
    let past = c.from-2.ensures ∙ c.requires.past in
    omega (arith, order, first, past)

pub window_within-requires-clause-within : goal.window_within-requires-clause-within
window_within-requires-clause-within c =
    let f = placed_file c.args.view.now.plan c.args.view.now.parts in
    let within = (parts_are_in_file f c.args.from c.args.to).1 in
    let past = c.from-2.ensures ∙ c.requires.past in
    omega (arith, within, past)
