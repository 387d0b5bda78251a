use Rattle.std.proofs.Common.{◌≡◌, ◌*◌, ◌≤◌, take, sum_by}
use Rattle.jpeg_marker.specs.Frames.{area}
use Rattle.jpeg_marker.proofs.frame.blocks_in.Given as goal

abbrev pub invariant-loop-part : goal.invariant-loop-part
invariant-loop-part l = (l.blocks ≡ sum_by area (take l.part-index l.parts)) × (l.blocks ≤ 65025 * l.part-index)
