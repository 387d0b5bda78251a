use Rattle.block_code.proofs.Placing.{inner_band}
use Rattle.block_code.proofs.bands.code_inner.Goals as goal

pub code_values-requires-clause-positions : goal.code_values-requires-clause-positions
code_values-requires-clause-positions g c = inner_band
