use Rattle.std.proofs.Common.{◌≡◌, drop}
use Rattle.container_spec.specs.ScansJoined.{all_spelled}
use Rattle.lepton_decode.proofs.around.are_all_spelled.Given as goal

abbrev pub invariant-loop-scan : goal.invariant-loop-scan
invariant-loop-scan l = all_spelled l.scan (drop l.scan l.view) l.pads ≡ all_spelled 0 l.view l.pads
