use Rattle.std.proofs.Common.{true, ℕ, ◌-◌, ◌/◌, ◌%◌, get_or, nat_eq, sym, ap, ◌∙◌}
use Rattle.std.proofs.lemmas.Nat.Bits.{shr_and_one}
use Rattle.scan_spec.proofs.ListedBits.{bit_of}
use Rattle.box_format.proofs.pad_lists.bit_in.Goals as goal

pub returns : goal.returns
returns c =
    ap (λ (n : ℕ). nat_eq n 1) (shr_and_one (get_or c.args.bytes.now (c.args.number / 8) 0)
    (7 - c.args.number % 8))
    ∙ sym (bit_of c.args.bytes.now c.args.number true c.requires)
