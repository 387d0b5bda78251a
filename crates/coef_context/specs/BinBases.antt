-- View: where the bins of a value begin (docs/FORMAT.md, Bins).
use Rattle.std.specs.Prelude.{◌+◌, ◌-◌, ◌≤◌}
use Rattle.coef_context.specs.BinNumbers.{rows_from}
use Rattle.coef_context.specs.Runs.{bin_count, dc_sizes, dc_low_bits}
use Rattle.coef_context.specs.ValueBins.{ValueBins}
use Rattle.coef_context.specs.declared.bin_bases.BinBases.{BinBases}

-- the bins of a value (own): one a step; one a category for the sign; and for each category from 2 on one a bit below
-- the highest
abbrev pub bins_at : BinBases → ValueBins
bins_at bases = record {
  step = λ step. bases.steps + step;
  sign = λ size. bases.signs + (size - 1);
  low = λ size bit. bases.lows + rows_from 1 (size - 2) + bit;
}

-- all bins of a value with the steps of a residue are there (own)
pub record AreBases (bases : BinBases) : Type 0 where
  pub steps : bases.steps + dc_sizes ≤ bin_count
  pub signs : bases.signs + dc_sizes ≤ bin_count
  pub lows : bases.lows + dc_low_bits ≤ bin_count
