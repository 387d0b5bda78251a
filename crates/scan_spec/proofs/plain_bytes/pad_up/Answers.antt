use Rattle.std.proofs.Common.{◌≡◌, ℕ, ◌-◌, ◌%◌, ◌++◌, [], length, replicate, ap, ◌∙◌, arith}
use Rattle.bit_list.specs.Bits.{begun_after}
use Rattle.bit_list.proofs.Wholes.{begun_count}
use Rattle.scan_spec.proofs.plain_bytes.pad_up.Goals as goal

pub returns : goal.returns
returns c =
    let bits = c.args.bits.now.items in
    let begun = begun_count [] bits (omega arith) in
    let all : c.loop-i.i ≡ (8 - length (begun_after [] bits)) % 8 = omega arith in
    c.loop-i.invariant ∙ ap (λ (n : ℕ). bits ++ replicate n c.args.pad) all
