use Rattle.std.proofs.Common.{refl}
use Rattle.handover.specs.HandoverBytes.{handover_bytes, handover_in}
use Rattle.box_format.specs.Containers.{container_bytes}
use Rattle.box_format.specs.Fields.{scan_raw}
use Rattle.box_format.specs.Checks.{early_fault, late_fault}
use Rattle.box_format.proofs.TwoScans.{two_are_scans, second_again, second_long}
use Rattle.box_format.proofs.laws.rows_of_scans_containers.Goals as goal

pub returns-clause-laid_out : goal.returns-clause-laid_out
unfolding handover_bytes handover_in container_bytes scan_raw early_fault late_fault
returns-clause-laid_out c = (refl, refl, refl, refl, refl, refl, refl)

pub returns-clause-early : goal.returns-clause-early
unfolding handover_bytes handover_in container_bytes scan_raw early_fault late_fault
returns-clause-early c = (refl, refl, refl, refl, refl, refl, refl, refl)

pub returns-clause-late : goal.returns-clause-late
unfolding handover_bytes handover_in container_bytes scan_raw early_fault late_fault
returns-clause-late c = (refl, refl, refl, refl, refl, refl, refl, refl, refl, refl, refl, refl, refl, refl)

pub returns-clause-prefixes : goal.returns-clause-prefixes
unfolding handover_bytes handover_in container_bytes scan_raw early_fault late_fault
returns-clause-prefixes c = refl

pub returns-clause-scans : goal.returns-clause-scans
returns-clause-scans c = two_are_scans

pub returns-clause-headers : goal.returns-clause-headers
returns-clause-headers c = (second_again, second_long)
