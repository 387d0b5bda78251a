use Rattle.std.proofs.Common.{◌<◌, ◌≤◌, arith}
use Rattle.block_code.proofs.BitSteps.{bits_down, low_more, high_more, same_more}
use Rattle.block_code.proofs.bits.code_bits.Goals as goal

pub loop-bit-preserved : goal.loop-bit-preserved
loop-bit-preserved g c =
    let some : 0 < c.loop-bit.bit = omega arith in
    let within : c.loop-bit.bit ≤ c.args.bits = omega arith in
    let joined = g.met.C.Coder.joined _ _ _ _ _ c.loop-bit.invariant.codes (rw c.bin.ensures.value at c.in_ok-one.ensures.coded) in
    rw c.from.ensures
    record {
      codes = rw (bits_down (g.B.BitBins.at c.args.bins.now) c.args.bits c.loop-bit.bit c.loop-bit.above c.in_ok-one.one some within) at joined;
      low = low_more c.args.bits c.loop-bit.bit c.loop-bit.above c.in_ok-one.one some within c.loop-bit.invariant.low;
      high = high_more c.args.bits c.loop-bit.bit c.loop-bit.above c.in_ok-one.one some within c.loop-bit.invariant.high;
      given = λ is. same_more c.args.number c.loop-bit.bit c.loop-bit.above c.in_ok-one.one some (rw c.bit_of.ensures at c.in_ok-one.ensures.same is) (c.loop-bit.invariant.given is);
    }
