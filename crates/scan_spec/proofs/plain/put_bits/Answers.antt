use Rattle.std.proofs.Common.{◌++◌, arith}
use Rattle.bit_list.specs.Bits.{low_bits}
use Rattle.scan_spec.proofs.Words.{one_bit_more}
use Rattle.scan_spec.proofs.plain.put_bits.Goals as goal

pub loop-left-preserved : goal.loop-left-preserved
loop-left-preserved c = record {
  within = omega arith;
  whole = one_bit_more c.loop-left.bits.items c.push.new.self.items (c.args.bits.now.items ++ low_bits c.args.count c.args.number) c.loop-left.left c.args.number c.loop-left-test.true c.in_ok-push.ensures.items c.loop-left.invariant.whole;
}
