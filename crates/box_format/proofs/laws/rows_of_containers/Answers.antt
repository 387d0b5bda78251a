use Rattle.std.proofs.Common.{refl, [], ◌∷◌, inl, inr}
use Rattle.handover.specs.HandoverBytes.{handover_bytes, handover_in}
use Rattle.box_format.specs.Containers.{container_bytes}
use Rattle.box_format.specs.Fields.{scan_raw}
use Rattle.box_format.specs.Checks.{early_fault, late_fault}
use Rattle.box_format.specs.Rows.{partial_plan}
use Rattle.box_format.proofs.PartialHeaders.{begins_partial}
use Rattle.box_format.proofs.laws.rows_of_containers.Goals as goal

pub returns-clause-laid_out : goal.returns-clause-laid_out
unfolding handover_bytes handover_in container_bytes scan_raw early_fault late_fault
returns-clause-laid_out c = (refl, refl, refl, refl, refl, refl, refl, refl, refl, refl, refl, refl, refl, refl, refl, refl, refl)

pub returns-clause-early : goal.returns-clause-early
unfolding handover_bytes handover_in container_bytes scan_raw early_fault late_fault
returns-clause-early c = (refl, refl, refl, refl, refl, refl, refl, refl, refl, refl)

pub returns-clause-late : goal.returns-clause-late
unfolding handover_bytes handover_in container_bytes scan_raw early_fault late_fault
returns-clause-late c = (refl, refl, refl, refl, refl, refl, refl, refl, refl, refl)

pub returns-clause-chunks : goal.returns-clause-chunks
unfolding handover_bytes handover_in container_bytes scan_raw early_fault late_fault
returns-clause-chunks c = (refl, refl, refl, refl, refl, refl, refl, refl, refl, refl, refl, refl, refl, refl, refl, refl, refl)

pub returns-clause-places : goal.returns-clause-places
unfolding handover_bytes handover_in container_bytes scan_raw early_fault late_fault
returns-clause-places c = (refl, refl, refl, refl, refl, refl, refl, refl, refl, refl, refl, refl, refl, refl, refl, refl, refl)

pub returns-clause-prefixes : goal.returns-clause-prefixes
unfolding handover_bytes handover_in container_bytes scan_raw early_fault late_fault
returns-clause-prefixes c = refl

pub returns-clause-several : goal.returns-clause-several
unfolding handover_bytes handover_in container_bytes scan_raw early_fault late_fault
returns-clause-several c = (
  refl,
  inr (refl, inr (partial_plan ∷ [], (begins_partial [], refl, tt), refl)),
  inr (refl, inr (partial_plan ∷ [], (begins_partial [], refl, tt), refl)),
  inr (refl, inl (inr (partial_plan, begins_partial (0xff ∷ []), inl (refl, refl)))),
  refl,
  refl,
)
