use Rattle.std.proofs.Common.{◌≡◌}
use Rattle.std.specs.List.{All}
use Rattle.segment_encode.specs.Scouting.{new_scout}
use Rattle.segment_encode.proofs.scouts.scouts_of.Given as goal

abbrev pub invariant-loop : goal.invariant-loop
invariant-loop l = All (λ scout. scout ≡ new_scout l.tables l.bytes) l.scouts.items
