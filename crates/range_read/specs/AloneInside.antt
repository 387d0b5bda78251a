-- View: the value of a range that is ready for one thread, and its invariant (own).
use Rattle.std.specs.Prelude.{◌≡◌, [], ◌∷◌, false, is_some, IfSome, nat_lt, option_map}
use Rattle.container_spec.specs.RangeMeanings.{is_bad_range}
use Rattle.range_read.specs.RangeEnds.{LoneRangeSeen, stretch_between}
use Rattle.range_read.specs.declared.alone.ReadyRangeAlone.TheInside.{Inside}

-- its container, its bounds, how many segments were begun, and whether it was read
abbrev pub lone_range_of : Inside → LoneRangeSeen
lone_range_of r = record {
  plan = r.scan.plan;
  parts = r.scan.parts;
  from = r.from;
  to = r.to;
  begun = option_map (λ lone. lone.decoder.begun) r.lone;
  used = r.used;
}

-- the range is one of the file; there is a decoder if a segment has a place in it, for its plan, and until the range is
-- read it began no segment
pub record IsReadyRangeAlone (r : Inside) : Type 0 where
  pub good : is_bad_range r.scan.parts r.from r.to ≡ false
  pub some : is_some r.lone ≡ nat_lt 0 (stretch_between r.scan r.from r.to).count
  pub plans : IfSome r.lone (λ lone. lone.decoder.plans ≡ r.scan.plan ∷ [])
  pub fresh : r.used ≡ false → IfSome r.lone (λ lone. lone.decoder.begun ≡ 0)
