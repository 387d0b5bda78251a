use Rattle.std.proofs.Common.{◌-◌, ◌+◌, ◌*◌, ◌≤◌}
use Rattle.scan_spec.specs.BlockBits.{zeros_text}
use Rattle.scan_write.specs.Outputs.{output_with}
use Rattle.scan_spec.specs.TextBounds.{quarters, word_bits}
use Rattle.scan_write.specs.Appending.{HasAppended}
use Rattle.scan_write.proofs.acs.sixteens.Given as goal

abbrev pub invariant-loop : goal.invariant-loop
invariant-loop l = record {
  spent : quarters l.output l.out ≤ word_bits * l.counter + quarters l.fn.output l.fn.out;
  going : HasAppended (zeros_text l.codes l.count) (output_with l.fn.output l.fn.out) (output_with l.output l.out) (zeros_text l.codes (l.count - l.counter));
}
