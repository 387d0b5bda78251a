-- View: a scout's fields as the definitions have them, and what always holds of them (own).
use Rattle.std.specs.Prelude.{◌≡◌}
use Rattle.std.specs.List.{All}
use Rattle.scan_decode.specs.Excerpts.{IsExcerpt, ScoutFields}
use Rattle.scan_decode.specs.declared.scout.Scout.TheInside.{Inside}

abbrev pub scout_in : Inside → ScoutFields
scout_in s = record { shape = s.tables.now; bytes = s.bytes.now; excerpts = s.excerpts.items }

-- the scan has no restarts, the bits are those of its bytes, and the excerpts are some of it
pub record IsScout (s : Inside) : Type 0 where
  pub whole : s.tables.now.interval ≡ 0
  pub bytes : s.input.bytes ≡ s.bytes.now
  pub are : All (IsExcerpt s.tables.now s.bytes.now) s.excerpts.items
