-- View: the value of a decoder of several scans, and its invariant (own).
use Rattle.std.specs.Prelude.{◌≤◌, All}
use Rattle.segment_code.specs.FileDecoding.{FileDecoderSeen, file_seen}
use Rattle.segment_code.specs.declared.file_decoder.FileDecoder.TheInside.{Inside}

-- its parts
abbrev pub file_decoder_of : Inside → FileDecoderSeen
file_decoder_of d = file_seen d.decoders.items d.begun d.scan d.number d.lead.now

-- no decoder began more segments than all of them
abbrev pub IsFileDecoder : Inside → Type 0
IsFileDecoder d = All (λ decoder. decoder.begun ≤ d.begun) d.decoders.items
