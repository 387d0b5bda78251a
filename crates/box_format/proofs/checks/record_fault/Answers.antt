use Rattle.std.proofs.Common.{refl, sym, ◌∙◌}
use Rattle.std.specs.Prelude.{Some}
use Rattle.box_format.specs.Fields.{scan_raw}
use Rattle.box_format.proofs.ScansFaults.{records_fault_is}
use Rattle.box_format.proofs.checks.record_fault.Goals as goal

pub returns-in-Some : goal.returns-in-Some
returns-in-Some c =
    records_fault_is c.args.first c.args.plan.now (scan_raw c.args.version c.args.bytes.now c.args.scan)
    (Some c.in-Some.segment) _ (sym c.bad_segment.ensures.value ∙ c.in-Some.is) refl
