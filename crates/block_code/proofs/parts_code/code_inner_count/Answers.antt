use Rattle.std.proofs.Common.{ℕ, arith, subst}
use Rattle.block_spec.specs.Values.{count_events}
use Rattle.block_spec.specs.BlockEvents.{inner_count_events}
use Rattle.block_spec.proofs.CategoryBits.{category_at_most}
use Rattle.block_code.proofs.parts_code.code_inner_count.Goals as goal

pub inner_count_base-base-requires-clause-bits : goal.inner_count_base-base-requires-clause-bits
inner_count_base-base-requires-clause-bits g c = rw (c.bits_of.ensures, c.from.ensures) (let h = category_at_most 6 c.args.guess (omega (arith, c.requires.guess)) in omega (arith, h))

pub returns-clause-coded : goal.returns-clause-coded
unfolding inner_count_events
returns-clause-coded g c =
    let sized = rw (c.bits_of.ensures, c.from.ensures) at c.inner_count_base-base.ensures.bins in
    subst (λ (f : ℕ → ℕ). g.C.Coder.codes c.args.coder.now (count_events f 6 c.in_ok-n.n) c.code_six_bits.new.coder) sized c.in_ok-n.ensures.coded
