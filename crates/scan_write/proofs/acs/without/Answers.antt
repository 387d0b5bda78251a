use Rattle.std.specs.Int.{w64}
use Rattle.std.proofs.lemmas.Nat.Bits.{bit_at_clear_same, bit_at_clear_other}
use Rattle.scan_write.proofs.acs.without.Goals as goal

pub returns-clause-here : goal.returns-clause-here
returns-clause-here c = bit_at_clear_same w64 c.args.mask c.args.index c.requires

pub returns-clause-others : goal.returns-clause-others
returns-clause-others c = λ other within apart. bit_at_clear_other w64 c.args.mask c.args.index c.requires other within apart
