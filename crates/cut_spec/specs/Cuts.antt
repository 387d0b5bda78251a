-- Statement: which rows of MCUs a segment has (docs/FORMAT.md, Segments).
use Rattle.std.specs.Prelude.{ℕ, ◌+◌, ◌-◌, ◌*◌, ◌/◌, min}

-- rows of `across` MCUs each, from one row to before another, cut into segments (own)
pub record Cut : Type 0 where
  pub across : ℕ
  pub from : ℕ
  pub to : ℕ
  pub segments : ℕ

-- the row that segment i starts at (own); the rows end where the segment after the last would start
abbrev pub row_of : Cut → ℕ → ℕ
row_of cut i = cut.from + i * (cut.to - cut.from) / cut.segments

-- how many MCUs of the grid are before segment i (own)
abbrev pub first_mcu : Cut → ℕ → ℕ
first_mcu cut i = cut.across * row_of cut i

-- a whole grid of `down` rows in at most `most` segments (own)
abbrev pub cut_of : ℕ → ℕ → ℕ → Cut
cut_of across down most =
    record { across = across; from = 0; to = down; segments = min most down }
