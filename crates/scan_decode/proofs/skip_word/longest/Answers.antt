use Rattle.std.proofs.Common.{◌<◌, length, arith}
use Rattle.scan_decode.proofs.skip_word.longest.Goals as goal

pub longer-pair-requires-clause-word : goal.longer-pair-requires-clause-word
longer-pair-requires-clause-word c =
    let below : c.args.index < length c.args.singles.now = let long = c.requires.size in omega (arith, long, c.requires.index) in
    c.requires.skips c.args.index below
