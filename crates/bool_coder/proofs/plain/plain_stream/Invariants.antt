use Rattle.std.proofs.Common.{◌≡◌, take}
use Rattle.bool_coder.specs.BoolStream.{coded}
use Rattle.bool_coder.specs.PlainLine.{interval}
use Rattle.bool_coder.proofs.plain.plain_stream.Given as goal

abbrev pub invariant-loop-prob : goal.invariant-loop-prob
invariant-loop-prob l = interval l.line ≡ coded (take l.prob-index l.bools)
