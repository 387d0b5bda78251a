-- View: the invariant of a container that is ready for one thread (own).
use Rattle.std.specs.Prelude.{◌≡◌, false}
use Rattle.box_format.specs.Containers.{all_plans}
use Rattle.lepton_decode.specs.Ends.{AloneSeen}
use Rattle.lepton_decode.specs.declared.alone.ReadyAlone.TheInside.{Inside}

-- its view, and whether it was decoded
abbrev pub alone_of : Inside → AloneSeen
alone_of r = record { scans = r.view; used = r.used }

-- until it is decoded, its decoder is one for its plans that began no segment
pub record IsReadyAlone (r : Inside) : Type 0 where
  pub plans : r.lone.decoder.plans ≡ all_plans r.view
  pub fresh : r.used ≡ false → r.lone.decoder.begun ≡ 0
