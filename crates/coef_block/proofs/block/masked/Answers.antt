use Rattle.std.proofs.Common.{◌≡◌, ℕ, ◌==◌, not, unsigned_abs, ap, ◌∙◌}
use Rattle.std.specs.Int.{w16}
use Rattle.std.proofs.lemmas.Int.{to_z-of_z}
use Rattle.coef_block.proofs.Masks.{bit_of, byte_is_bit, bit_small, written_same, written_other}
use Rattle.coef_block.proofs.block.masked.Goals as goal

bit_is : (c : goal.After-from) → c.from.result ≡ bit_of (not (unsigned_abs c.args.value == 0))
bit_is c =
    c.from.ensures ∙ byte_is_bit (not (c.unsigned_abs.result == 0))
    ∙ ap (λ (n : ℕ). bit_of (not (n == 0))) (c.unsigned_abs.ensures.value ∙ ap unsigned_abs (to_z-of_z w16 c.args.value c.ranges.value))

pub returns-clause-here : goal.returns-clause-here
returns-clause-here c =
    let some = not (unsigned_abs c.args.value == 0) in
    rw (bit_is c) (written_same c.args.mask c.args.index (bit_of some) (bit_small some) c.requires)

pub returns-clause-others : goal.returns-clause-others
returns-clause-others c = λ other inside apart.
    let some = not (unsigned_abs c.args.value == 0) in
    rw (bit_is c) (written_other c.args.mask c.args.index (bit_of some) other (bit_small some) c.requires inside apart)
