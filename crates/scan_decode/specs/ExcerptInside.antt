-- View: an excerpt's fields as the definitions have them (own).
use Rattle.scan_decode.specs.Excerpts.{ExcerptFields}
use Rattle.scan_decode.specs.declared.excerpt.Excerpt.TheInside.{Inside}

abbrev pub excerpt_in : Inside → ExcerptFields
excerpt_in s = record { from = s.from; to = s.to; change = s.change; mcus = s.mcus }
