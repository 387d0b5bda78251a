use Rattle.std.proofs.Common.{◌≡◌, ◌++◌, drop, flat_map}
use Rattle.box_format.specs.Containers.{scan_header}
use Rattle.box_format.specs.Given.{all_given}
use Rattle.box_format.proofs.writing.put_headers.Given as goal

abbrev pub invariant-loop-scan : goal.invariant-loop-scan
invariant-loop-scan l =
    l.bytes.items ++ flat_map scan_header (all_given (drop l.scan-index l.scans))
    ≡ l.fn.bytes.items ++ flat_map scan_header (all_given l.scans)
