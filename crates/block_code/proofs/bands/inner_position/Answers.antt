use Rattle.block_spec.specs.Around.{inner_positions}
use Rattle.std.proofs.lemmas.Bool.{and_parts, ltb-true}
use Rattle.block_code.proofs.Weights.{inner_within}
use Rattle.block_code.proofs.bands.inner_position.Goals as goal

pub returns-clause-value : goal.returns-clause-value
unfolding inner_positions
returns-clause-value c = c.from.ensures

pub returns-clause-ac : goal.returns-clause-ac
unfolding inner_positions
returns-clause-ac c =
    let within = and_parts _ _ (inner_within c.args.place c.requires) in
    rw c.from.ensures (ltb-true _ _ within.0, ltb-true _ _ within.1)
