use Rattle.std.proofs.Common.{rules, ◌≤◌, length, sum, arith}
use Rattle.box_format.specs.Slices.{lengths_in}
use Rattle.box_format.proofs.Sliced.{lengths_more}
use Rattle.box_format.proofs.records.stream_among.Goals as goal

pub start_among-requires-clause-fits : goal.start_among-requires-clause-fits
start_among-requires-clause-fits c =
    let more = lengths_more c.args.version c.args.records.now c.args.segment in
    let all = c.requires.all in
    let few : sum (lengths_in c.args.version c.args.segment c.args.records.now)
    ≤ length c.args.streams.now = omega (arith, more, all) in
    search rules

pub split_at-requires : goal.split_at-requires
split_at-requires c =
    let more = lengths_more c.args.version c.args.records.now c.args.segment in
    let all = c.requires.all in
    let start = c.start_among.ensures in
    omega (arith, more, all, start)

pub split_at-requires-2 : goal.split_at-requires-2
split_at-requires-2 c =
    let more = lengths_more c.args.version c.args.records.now c.args.segment in
    let all = c.requires.all in
    let start = c.start_among.ensures in
    let long = c.length_among.ensures in
    let rest = c.split_at.ensures.back_len in
    omega (arith, more, all, start, long, rest)
