use Rattle.std.proofs.Common.{ℕ, ◌-◌, ◌*◌, ◌^◌, ◌%◌, bit_and, count_ones, ap, ◌∙◌, arith}
use Rattle.bit_list.proofs.Machine.{masked}
use Rattle.bit_list.proofs.fetched.before.Goals as goal

pub returns : goal.returns
returns c =
    let n = c.args.n in
    let counted = ap count_ones (ap (λ (s : ℕ). bit_and s (1 * 2 ^ n % 2 ^ 32 - 1)) c.from.ensures ∙ masked c.args.at.now.stuffed n 32 (omega arith)) in
    omega (arith, c.saturating_sub.ensures, c.from-2.ensures, counted)
