-- View: how the plain program keeps an interval, and what holds of it between two bools (own).
use Rattle.std.specs.Prelude.{◌≤◌}
use Rattle.bool_coder.specs.BoolStream.{Interval, IsOnLine}
use Rattle.bool_coder.specs.declared.plain.Line.{Line}

-- the interval that it stands for
abbrev pub interval : Line → Interval
interval l = record { bottom = l.bottom; range = l.range; shifts = l.shifts }

-- wide enough for a split, in one byte, and on the line
pub record IsKept (i : Interval) : Type 0 where
  pub wide : 128 ≤ i.range
  pub byte : i.range ≤ 255
  pub on_line : IsOnLine i
