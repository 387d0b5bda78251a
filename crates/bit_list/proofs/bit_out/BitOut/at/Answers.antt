use Rattle.std.proofs.Common.{ℕ, ◌-◌, ◌/◌, ◌^◌, ap₂, ◌∙◌, arith}
use Rattle.bit_list.specs.Bits.{low_bits}
use Rattle.bit_list.proofs.Machine.{first_bits}
use Rattle.bit_list.proofs.bit_out.BitOut.at.Goals as goal

pub invariant_of-result : goal.invariant_of-result
invariant_of-result c = record {
  few = omega (arith, c.from-2.ensures, c.requires.bits);
  below = rw (c.from.ensures, c.from-2.ensures) (first_bits c.args.partial c.args.bits (8 - c.args.bits) (omega arith) c.ranges.partial.fits).0;
}

pub returns : goal.returns
returns c =
    ap₂ (λ (k n : ℕ). low_bits k (n / 2 ^ (8 - c.args.bits))) c.from-2.ensures c.from.ensures
    ∙ (first_bits c.args.partial c.args.bits (8 - c.args.bits) (omega arith) c.ranges.partial.fits).1
