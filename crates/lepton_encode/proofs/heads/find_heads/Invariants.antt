use Rattle.std.proofs.Common.{◌-◌, length}
use Rattle.lepton_encode.proofs.HeadsFound.{AreBefore}
use Rattle.lepton_encode.proofs.heads.find_heads.Given as goal

abbrev pub invariant-headers : goal.invariant-headers
invariant-headers l = AreBefore l.bytes l.heads.items l.head

abbrev pub decreases-headers : goal.decreases-headers
decreases-headers l = 4 - length l.heads.items
