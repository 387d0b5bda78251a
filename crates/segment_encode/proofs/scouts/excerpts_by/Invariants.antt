use Rattle.std.specs.List.{All}
use Rattle.scan_decode.specs.Excerpts.{IsExcerpt}
use Rattle.segment_encode.proofs.ScoutsBack.{IsScoutOf}
use Rattle.segment_encode.proofs.scouts.excerpts_by.Given as goal

abbrev pub invariant-loop-scout : goal.invariant-loop-scout
invariant-loop-scout g l = record {
  left : All (IsScoutOf l.tables l.bytes) l.scout-iterator.rest.items;
  found : All (IsExcerpt l.tables l.bytes) l.excerpts.items;
}
