use Rattle.std.proofs.Common.{◌≡◌, ◌++◌, List}
use Rattle.scan_decode.specs.Excerpts.{ExcerptFields}
use Rattle.scan_decode.specs.ScoutInside.{IsScout}
use Rattle.scan_decode.proofs.scout.Scout.run.Given as goal

abbrev pub invariant-loop : goal.invariant-loop
invariant-loop l = record {
  is : IsScout l.self-inside;
  shape : l.self-inside.tables.now ≡ l.fn.self.shape;
  bytes : l.self-inside.bytes.now ≡ l.fn.self.bytes;
  more : (more : List ExcerptFields) × (l.self-inside.excerpts.items ≡ l.fn.self.excerpts ++ more);
}
