-- View: the value of starts, and their invariant (own).
use Rattle.std.specs.Prelude.{ℕ, ◌^◌, ◌≤◌, ◌<◌, true, [], ◌∷◌, ◌++◌, length}
use Rattle.scan_spec.specs.Pads.{Same, told_by}
use Rattle.handover.specs.Handovers.{HandoverFields}
use Rattle.segment_code.specs.FileStarts.{StartsFields}
use Rattle.segment_code.specs.declared.starts.Starts.TheInside.{Inside}

-- their fields
abbrev pub starts_in : Inside → StartsFields
starts_in s = record {
  rows = s.rows.items;
  places = s.places.items;
  handovers = s.handovers.items;
  pads = told_by s.list.items s.sum;
  trailer = s.trailer;
}

-- a place and a handover for each row, and no more rows than a byte can count
pub record IsStarts (s : Inside) : Type 0 where
  pub places : length s.rows.items ≤ length s.places.items
  pub handovers : length s.rows.items ≤ length s.handovers.items
  pub few : length s.rows.items < 2 ^ 32

-- the starts of no segment
abbrev pub no_starts : StartsFields
no_starts = record { rows = []; places = []; handovers = []; pads = Same true; trailer = 0 }

-- with those of a segment more
abbrev pub starts_more : StartsFields → ℕ → ℕ → HandoverFields → StartsFields
starts_more s row place handover =
    record s {
      rows = s.rows ++ row ∷ [];
      places = s.places ++ place ∷ [];
      handovers = s.handovers ++ handover ∷ [];
    }
