use Rattle.std.proofs.Common.{◌≡◌, All, replicate}
use Rattle.board_core.specs.BoardStates.{unclaimed_segment}
use Rattle.board_core.specs.CoreInside.{states_of, IsKept}
use Rattle.board_core.proofs.board.Core.new.Given as goal

abbrev pub invariant-loop : goal.invariant-loop
invariant-loop l = (states_of l.segments.items ≡ replicate l.counter unclaimed_segment)
    × All (IsKept l.capacity) l.segments.items
