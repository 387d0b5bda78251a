use Rattle.std.proofs.Common.{[], sym, ap₂, ◌∙◌}
use Rattle.bit_list.specs.Bits.{low_bits}
use Rattle.scan_write.specs.Outputs.{output_of}
use Rattle.scan_write.proofs.OutputLemmas.{appended_twice}
use Rattle.scan_write.proofs.values.put.Goals as goal

pub returns-clause-is : goal.returns-clause-is
returns-clause-is c =
    ap₂ output_of c.put.ensures.begun c.put.ensures.bytes
    ∙ sym (appended_twice (output_of [] c.args.out.now) c.args.output.now (low_bits c.args.count c.args.code))
