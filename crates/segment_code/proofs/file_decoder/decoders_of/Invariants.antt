use Rattle.std.proofs.Common.{◌≡◌, ◌≤◌, take, All}
use Rattle.segment_code.specs.FileDecoding.{plans_of}
use Rattle.segment_code.proofs.file_decoder.decoders_of.Given as goal

abbrev pub invariant-loop-plan : goal.invariant-loop-plan
invariant-loop-plan l = record {
  plans : plans_of l.decoders.items ≡ take l.plan-index l.plans;
  begun : All (λ d. d.begun ≤ 0) l.decoders.items;
}
