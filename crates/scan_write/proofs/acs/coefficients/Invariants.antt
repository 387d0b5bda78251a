use Rattle.std.proofs.Common.{◌-◌, ◌+◌, ◌*◌, ◌<◌, ◌≤◌, drop}
use Rattle.scan_spec.specs.BlockBits.{ac_text, ac_values}
use Rattle.scan_write.proofs.LeftInBlock.{AreLeft}
use Rattle.scan_write.specs.Outputs.{output_with}
use Rattle.scan_spec.specs.TextBounds.{quarters, coefficient_bits}
use Rattle.scan_write.specs.Appending.{HasAppended}
use Rattle.scan_write.proofs.acs.coefficients.Given as goal

abbrev pub invariant-loop-left : goal.invariant-loop-left
invariant-loop-left l = record {
  few : l.last < 64;
  left : AreLeft l.left l.last l.block;
  spent : quarters l.output l.out ≤ coefficient_bits * l.last + quarters l.fn.output l.fn.out;
  going : HasAppended (ac_text l.codes 0 (ac_values l.block)) (output_with l.fn.output l.fn.out) (output_with l.output l.out) (ac_text l.codes 0 (drop l.last (ac_values l.block)));
}

abbrev pub decreases-loop-left : goal.decreases-loop-left
decreases-loop-left l = 64 - l.last
