-- View: the blocks around one, without where they lie in memory (own).
use Rattle.std.specs.Prelude.{option_map, ◌↔◌, IsSome}
use Rattle.block_spec.specs.Around.{Around}
use Rattle.block_code.specs.declared.neighbours.Neighbours.{Neighbours}

-- what clauses see of the neighbours (own)
abbrev pub around_of : Neighbours → Around
around_of neighbours = record {
  above = option_map (λ block. block.now) neighbours.above;
  left = option_map (λ block. block.now) neighbours.left;
  diagonal = option_map (λ block. block.now) neighbours.diagonal;
}

-- the diagonal block is there exactly if both others are (own)
abbrev pub HasCorner : Around → Type 0
HasCorner around = IsSome around.diagonal ↔ (IsSome around.above × IsSome around.left)
