use Rattle.std.proofs.Common.{◌≡◌, ◌+◌, length}
use Rattle.jpeg_marker.specs.TableFaults.{tables_fault}
use Rattle.jpeg_marker.proofs.TableLists.{Held}
use Rattle.jpeg_marker.proofs.tables.read_tables.Given as goal

abbrev pub invariant-loop-rest : goal.invariant-loop-rest
invariant-loop-rest l = record {
  fault : tables_fault l.at l.place 0 l.rest ≡ tables_fault l.at (l.at + 2) 0 l.body;
  room : l.place + length l.rest ≡ l.at + 2 + length l.body;
  held : Held l.initial.tables l.tables l.body l.rest;
}

abbrev pub decreases-loop-rest : goal.decreases-loop-rest
decreases-loop-rest l = length l.rest
