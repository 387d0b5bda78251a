use Rattle.std.proofs.Common.{refl}
use Rattle.scan_spec.proofs.laws.rows_of_pads.Goals as goal

pub returns : goal.returns
returns c = record {
  listed = (refl, refl, refl, refl, refl, refl);
  summed = (refl, refl, refl, refl, refl);
  spelled = (refl, refl, refl, refl, refl, refl, refl, refl, refl);
}
