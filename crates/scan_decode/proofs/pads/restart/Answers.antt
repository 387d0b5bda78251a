use Rattle.std.proofs.Common.{arith}
use Rattle.scan_decode.proofs.RestartMarkers.{past_end, half_marker, one_other, marker_there, no_marker, wrong_marker}
use Rattle.scan_decode.proofs.pads.restart.Goals as goal
use Rattle.scan_decode.proofs.pads.restart.Goals.{else-first-2-via-then-first-2+else-bytes-place, else-first-2-via-else-first-2}

pub returns-then-place-bytes : goal.returns-then-place-bytes
returns-then-place-bytes c = past_end c.args.bytes.now c.args.number c.args.place c.if-place-bytes.true

pub returns-then-first : goal.returns-then-first
returns-then-first c = half_marker c.args.bytes.now c.args.number c.args.place (omega (arith, c.if-place-bytes-2.true)) c.if-first.true

pub returns-then-place-bytes-2 : goal.returns-then-place-bytes-2
returns-then-place-bytes-2 c = one_other c.args.bytes.now c.args.number c.args.place (omega (arith, c.if-place-bytes-2.true)) c.if-first.false

pub returns-then-bytes-place : goal.returns-then-bytes-place
returns-then-bytes-place c = marker_there c.args.bytes.now c.args.number c.args.place (omega (arith, c.if-place-bytes.false, c.if-place-bytes-2.false)) c.if-first-2.true (omega (arith, c.if-bytes-place.true))

pub returns : goal.returns
returns c =
    elim c.else-first-2.branch [
      | else-first-2-via-then-first-2+else-bytes-place w ↦ wrong_marker c.args.bytes.now c.args.number c.args.place (omega (arith, c.if-place-bytes.false, c.if-place-bytes-2.false)) (λ e. w.if-bytes-place.false (omega (arith, e)))
      | else-first-2-via-else-first-2 w ↦ no_marker c.args.bytes.now c.args.number c.args.place (omega (arith, c.if-place-bytes.false, c.if-place-bytes-2.false)) w.if-first-2.false
    ]
