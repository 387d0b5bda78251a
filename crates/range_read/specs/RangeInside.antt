-- View: the value of a range that is ready, and its invariant (own).
use Rattle.std.specs.Prelude.{◌≡◌, false, is_some, IfSome, nat_lt}
use Rattle.container_spec.specs.RangeMeanings.{is_bad_range}
use Rattle.range_read.specs.RangeEnds.{RangeSeen, stretch_in}
use Rattle.range_read.specs.declared.ready.ReadyRange.TheInside.{Inside}

-- its container, its bounds, and what is seen of its crew
abbrev pub range_of : Inside → RangeSeen
range_of r = record {
  plan = r.scan.plan;
  parts = r.scan.parts;
  from = r.from;
  to = r.to;
  crew = r.crew;
  used = r.used;
}

-- the range is one of the file; there is a crew if a segment has a place in it, for these alone, and until it is read
-- it isn't used
pub record IsReadyRange (r : Inside) : Type 0 where
  pub good : is_bad_range r.scan.parts r.from r.to ≡ false
  pub some : is_some r.crew ≡ nat_lt 0 (stretch_in (range_of r)).count
  pub segments : IfSome r.crew (λ crew. crew.segments ≡ stretch_in (range_of r))
  pub unused : r.used ≡ false → IfSome r.crew (λ crew. crew.used ≡ false)
