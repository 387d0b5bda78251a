use Rattle.std.proofs.Common.{◌≡◌}
use Rattle.box_format.specs.Containers.{all_plans}
use Rattle.run_examples.proofs.scans.file_of.Given as goal

abbrev pub invariant-loop-segment : goal.invariant-loop-segment
invariant-loop-segment l = record {
  plans : l.decoder.plans ≡ all_plans l.view;
  begun : l.decoder.begun ≡ l.segment;
}
