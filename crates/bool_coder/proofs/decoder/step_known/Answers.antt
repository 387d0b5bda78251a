use Rattle.std.proofs.Common.{arith}
use Rattle.bool_coder.proofs.DecoderWindow.{window_taken}
use Rattle.bool_coder.proofs.decoder.step_known.Goals as goal

pub returns-clause-window : goal.returns-clause-window
returns-clause-window c =
    λ bytes fetched w. rw c.doublings-shift.ensures.less (window_taken bytes fetched c.args.value c.args.bits c.doublings-shift.result.0 c.args.range c.args.prob _ _ c.args.bit (omega arith) (omega arith) w
    c.requires.bit c.choose_known-value.ensures.value c.choose_known-value.ensures.range
    (record { few = c.doublings-shift.ensures.few; enough = c.doublings-shift.ensures.enough; no_more = c.doublings-shift.ensures.no_more })).0

pub returns-clause-step : goal.returns-clause-step
returns-clause-step c =
    λ bytes fetched w. rw c.doublings-shift.ensures.less (window_taken bytes fetched c.args.value c.args.bits c.doublings-shift.result.0 c.args.range c.args.prob _ _ c.args.bit (omega arith) (omega arith) w
    c.requires.bit c.choose_known-value.ensures.value c.choose_known-value.ensures.range
    (record { few = c.doublings-shift.ensures.few; enough = c.doublings-shift.ensures.enough; no_more = c.doublings-shift.ensures.no_more })).1
