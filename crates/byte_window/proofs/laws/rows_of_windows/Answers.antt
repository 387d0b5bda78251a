use Rattle.std.proofs.Common.{refl}
use Rattle.byte_window.proofs.laws.rows_of_windows.Goals as goal

pub returns-clause-windows : goal.returns-clause-windows
returns-clause-windows c = (refl, refl, refl, refl, refl, refl, refl)

pub returns-clause-covers : goal.returns-clause-covers
returns-clause-covers c = (refl, refl, refl, refl, refl, refl, refl, refl, refl)
