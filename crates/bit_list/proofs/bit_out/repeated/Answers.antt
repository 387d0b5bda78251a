use Rattle.std.proofs.Common.{ℕ, ◌-◌, Bool, replicate, sym, ap, ◌∙◌, arith}
use Rattle.std.proofs.lemmas.Nat.{one_shl}
use Rattle.bit_list.specs.Bits.{low_bits}
use Rattle.bit_list.proofs.Machine.{zeros_are, ones_are}
use Rattle.bit_list.proofs.bit_out.repeated.Goals as goal

pub returns-then-bit-clause-bits : goal.returns-then-bit-clause-bits
returns-then-bit-clause-bits c =
    ap (λ (p : ℕ). low_bits c.args.count (p - 1)) (one_shl c.args.count 32 (omega (arith, c.requires))) ∙ ones_are c.args.count c.args.count (omega arith)
    ∙ ap (λ (b : Bool). replicate c.args.count b) (sym c.if-bit.true)

pub returns-else-bit-clause-bits : goal.returns-else-bit-clause-bits
returns-else-bit-clause-bits c = zeros_are c.args.count ∙ ap (λ (b : Bool). replicate c.args.count b) (sym c.if-bit.false)
