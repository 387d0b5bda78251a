use Rattle.std.proofs.Common.{rules, ◌∙◌, ap, ℕ}
use Rattle.byteorder.specs.Endian.{big_bytes}
use Rattle.handover.proofs.FieldBytes.{all_of, last_again}
use Rattle.store_run.proofs.calls.number_in.Goals as goal

pub returns : goal.returns
returns c =
    ap (λ (n : ℕ). big_bytes 4 n) c.read_u32.ensures
    ∙ last_again c.args.field.now c.requires
    (all_of c.args.field.now (λ i. let h = c.type_inv.field i in search rules))
