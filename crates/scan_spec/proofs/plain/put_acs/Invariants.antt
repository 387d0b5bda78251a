use Rattle.std.proofs.Common.{◌-◌, ◌≤◌, drop}
use Rattle.scan_spec.specs.BlockBits.{ac_text, ac_values}
use Rattle.scan_spec.specs.PlainWriting.{HasPutPrefix}
use Rattle.scan_spec.proofs.plain.put_acs.Given as goal

abbrev pub invariant-loop-index : goal.invariant-loop-index
invariant-loop-index l = record {
  few : l.zeros ≤ l.index - 1;
  goes : HasPutPrefix (ac_text l.codes 0 (ac_values l.block)) l.fn.bits.items l.bits.items (ac_text l.codes l.zeros (drop (l.index - 1) (ac_values l.block)));
}
