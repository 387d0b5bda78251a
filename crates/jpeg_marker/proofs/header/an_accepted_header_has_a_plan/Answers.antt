use Rattle.jpeg_marker.proofs.HeadersTaken.{begun_has_plan, opened_has_plan, next_has_plan}
use Rattle.jpeg_marker.proofs.header.an_accepted_header_has_a_plan.Goals as goal

pub returns : goal.returns
returns c = record { any = begun_has_plan; first = opened_has_plan; next = next_has_plan }
