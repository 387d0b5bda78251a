-- Statement: the bins of a value (docs/FORMAT.md, The events of a block).
use Rattle.std.specs.Prelude.{ℕ, Bool, true, false}
use Rattle.coef_context.specs.BinNumbers.{bin_number}
use Rattle.coef_context.specs.declared.context.Context.TheVariants.{Sign, Low}
use Rattle.coef_context.specs.declared.context.Kind.{Kind}
use Rattle.coef_context.specs.declared.context.Kind.TheVariants.{Row, Column}

-- the bins of a value (own): of each step; of the sign, by the category; of a lower bit, by the category and the bit's
-- index
pub record ValueBins : Type 0 where
  pub step : ℕ → ℕ
  pub sign : ℕ → ℕ
  pub low : ℕ → ℕ → ℕ

-- the bins of a value at a place, with those of its steps (own)
abbrev pub value_bins : ℕ → Kind → ℕ → (ℕ → ℕ) → ValueBins
value_bins class kind place steps = record {
  step = steps;
  sign = λ s. bin_number class (Sign kind place s);
  low = λ s bit. bin_number class (Low kind place s bit);
}

-- the kind of an edge: of the row, or of the column (own)
abbrev pub kind_of : Bool → Kind
kind_of false = Row
kind_of true = Column
