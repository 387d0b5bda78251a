use Rattle.std.proofs.Common.{◌≡◌, ◌+◌, ◌-◌, ◌*◌, ◌++◌, length, take, map, replicate}
use Rattle.jpeg_marker.specs.Frames.{parts_of, no_part}
use Rattle.jpeg_marker.proofs.frame.list_parts.Given as goal

abbrev pub invariant-loop-rest : goal.invariant-loop-rest
invariant-loop-rest l = record {
  room : 3 * l.count + length l.rest ≡ length l.fields;
  parts : take l.count l.parts ++ parts_of l.rest ≡ parts_of l.fields;
  ids : take l.count l.ids ≡ map (λ p. p.id) (take l.count l.parts);
  parts_size : length l.parts ≡ 4;
  blank : l.parts ≡ take l.count l.parts ++ replicate (4 - l.count) no_part;
  ids_size : length l.ids ≡ 4;
}

abbrev pub decreases-loop-rest : goal.decreases-loop-rest
decreases-loop-rest l = length l.rest
