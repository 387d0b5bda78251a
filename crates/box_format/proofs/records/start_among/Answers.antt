use Rattle.std.proofs.Common.{rules, ◌+◌, ◌<◌, ◌^◌, arith}
use Rattle.box_format.proofs.Sliced.{lengths_few, lengths_more}
use Rattle.box_format.proofs.records.start_among.Goals as goal

pub overflow_add-place : goal.overflow_add-place
overflow_add-place c =
    let more = lengths_more c.args.version c.args.records.now c.loop-i.i in
    let few = lengths_few c.args.version c.args.records.now c.loop-i.i c.args.segment c.loop-i-test.true in
    let fits = c.requires.fits in
    let before = c.loop-i.invariant in
    let long = c.length_among.ensures in
    let h : c.loop-i.place + c.length_among.result < 2 ^ 64 = omega (arith, more, few, fits, before, long) in
    search rules

pub loop-i-preserved : goal.loop-i-preserved
loop-i-preserved c =
    let more = lengths_more c.args.version c.args.records.now c.loop-i.i in
    let before = c.loop-i.invariant in
    let long = c.length_among.ensures in
    omega (arith, more, before, long)
