use Rattle.std.proofs.Common.{◌≡◌, ◌==◌, ℕ, not, false}
use Rattle.std.proofs.lemmas.Bool.{eqb-true, not-false}
use Rattle.bit_list.proofs.FullBytes.{none_full}
use Rattle.bit_list.proofs.bit_buffer.may_have_full_byte.Goals as goal

no_bits : (n : ℕ) → not (n == 0) ≡ false → n ≡ 0
no_bits n e = eqb-true n 0 (not-false (n == 0) e)

pub returns : goal.returns
returns c = λ none. none_full c.args.eight c.ranges.eight.fits (no_bits _ none)
