use Rattle.std.proofs.Common.{◌≡◌, ◌++◌, drop, flat_map}
use Rattle.std.specs.List.{AllByRecursion}
use Rattle.box_format.specs.Given.{parts_given}
use Rattle.box_format.specs.declared.parts.Parts.{Parts}
use Rattle.box_format.specs.Containers.{scan_fields}
use Rattle.box_format.specs.Given.{CanGive, all_given}
use Rattle.box_format.proofs.writing.put_all_fields.Given as goal

abbrev pub invariant-loop-scan : goal.invariant-loop-scan
invariant-loop-scan l = record {
  can : AllByRecursion (λ (p : Parts). CanGive (parts_given p)) (drop l.scan-index l.scans);
  put : l.bytes.items ++ flat_map scan_fields (all_given (drop l.scan-index l.scans))
      ≡ l.fn.bytes.items ++ flat_map scan_fields (all_given l.scans);
}
