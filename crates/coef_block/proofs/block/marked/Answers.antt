use Rattle.std.specs.Int.{w64}
use Rattle.std.proofs.lemmas.Nat.Bits.{bit_at_set_same, bit_at_set_other}
use Rattle.coef_block.proofs.block.marked.Goals as goal

pub returns-clause-here : goal.returns-clause-here
returns-clause-here c = bit_at_set_same w64 c.args.mask c.args.index c.requires

pub returns-clause-others : goal.returns-clause-others
returns-clause-others c = λ other within apart. bit_at_set_other w64 c.args.mask c.args.index c.requires other apart
