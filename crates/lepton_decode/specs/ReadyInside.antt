-- View: the value of a container that is ready, and its invariant (own).
use Rattle.std.specs.Prelude.{◌≡◌, false, IfNone, IfSome}
use Rattle.box_format.specs.Containers.{segment_count}
use Rattle.lepton_decode.specs.Played.{all_segments}
use Rattle.lepton_decode.specs.Ends.{ReadySeen}
use Rattle.lepton_decode.specs.declared.ready.Ready.TheInside.{Inside}

-- its view, and what is seen of its crew
abbrev pub ready_of : Inside → ReadySeen
ready_of r = record { scans = r.view; crew = r.crew; used = r.used }

-- without a crew it has no segment; a crew is for all segments, and until the container is decoded it isn't used
pub record IsReady (r : Inside) : Type 0 where
  pub none : IfNone r.crew (segment_count r.view ≡ 0)
  pub whole : IfSome r.crew (λ crew. crew.segments ≡ all_segments r.view)
  pub unused : r.used ≡ false → IfSome r.crew (λ crew. crew.used ≡ false)
