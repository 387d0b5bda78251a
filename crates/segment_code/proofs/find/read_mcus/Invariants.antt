use Rattle.std.proofs.Common.{length, ◌-◌, ◌≡◌, ◌+◌, ◌≤◌, ℤ, List}
use Rattle.segment_code.specs.CodedMcus.{AreReadOn}
use Rattle.segment_code.specs.FoundPads.{pads_through}
use Rattle.segment_code.proofs.find.read_mcus.Given as goal

abbrev pub invariant-loop-next : goal.invariant-loop-next
invariant-loop-next l = record { next : l.initial.next ≤ l.next }

abbrev pub decreases-loop-next : goal.decreases-loop-next
decreases-loop-next l = length l.excerpts - l.next

abbrev pub invariant-loop-left : goal.invariant-loop-left
invariant-loop-left l = record {
  left : l.left ≤ l.mcus;
  read : (read : List (List (List ℤ))) × AreReadOn (l.mcus - l.left) l.initial.reader l.reader read;
  pads : l.pads ≡ pads_through (l.mcus - l.left) l.initial.reader l.initial.pads;
}

-- an MCU less is left, or an excerpt less, which may have none
abbrev pub decreases-loop-left : goal.decreases-loop-left
decreases-loop-left l = l.left + (length l.excerpts - l.next)
