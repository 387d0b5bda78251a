use Rattle.jpeg_marker.proofs.HeaderLaws.{one_list, one_opening, one_opening_refusal, never_both_opening, one_next_plan, one_next_refusal, never_both_next}
use Rattle.jpeg_marker.proofs.header.header_has_one_plan.Goals as goal

pub returns : goal.returns
returns c = record {
  segments = one_list;
  plan = one_opening;
  refusal = one_opening_refusal;
  apart = never_both_opening;
  next_plan = one_next_plan;
  next_refusal = one_next_refusal;
  next_apart = never_both_next;
}
