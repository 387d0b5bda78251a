use Rattle.std.proofs.Common.{arith}
use Rattle.std.proofs.lemmas.Nat.{shl_whole}
use Rattle.bool_coder.proofs.DecoderWindow.{window_filled}
use Rattle.bool_coder.proofs.decoder.fill.Goals as goal

pub returns-then-bits-lt-MOST-clause-window : goal.returns-then-bits-lt-MOST-clause-window
returns-then-bits-lt-MOST-clause-window c =
    λ range w. rw (shl_whole c.args.value 15 48 64 (c.requires.small c.if-bits-lt-MOST.true) (omega arith))
    (window_filled c.args.bytes.now c.args.fetched c.args.value c.args.bits range c.next_six-six.result c.six_on-fetched.result w c.if-bits-lt-MOST.true
    c.next_six-six.ensures c.six_on-fetched.ensures.moved c.six_on-fetched.ensures.still).0

pub returns-then-bits-lt-MOST-clause-same : goal.returns-then-bits-lt-MOST-clause-same
returns-then-bits-lt-MOST-clause-same c =
    λ range w. rw (shl_whole c.args.value 15 48 64 (c.requires.small c.if-bits-lt-MOST.true) (omega arith))
    (window_filled c.args.bytes.now c.args.fetched c.args.value c.args.bits range c.next_six-six.result c.six_on-fetched.result w c.if-bits-lt-MOST.true
    c.next_six-six.ensures c.six_on-fetched.ensures.moved c.six_on-fetched.ensures.still).1
