-- View: the values of a segment that is ready to be coded, and of what codes it (own).
use Rattle.std.specs.Prelude.{length}
use Rattle.segment_code.specs.ReadyParts.{EncoderSeen, ReadyFields}
use Rattle.segment_code.specs.declared.encoder.SegmentEncoder.TheInside.{Inside as EncoderInside}
use Rattle.segment_code.specs.declared.ready.ReadyPart.TheInside.{Inside as PartInside}

abbrev pub encoder_in : EncoderInside → EncoderSeen
encoder_in e = record { grid = e.segment.grid; bins = length e.bins }

abbrev pub ready_in : PartInside → ReadyFields
ready_in r = record { part = r.part; reader = r.reader; stream = r.stream.items }
