-- View: how the decoder keeps what it looks at: the offset, and the next bits of the bytes after it, in a word (own).
use Rattle.std.specs.Prelude.{◌≡◌, ℕ, ◌+◌, ◌-◌, ◌*◌, ◌/◌, ◌%◌, ◌^◌, ◌<◌, ◌≤◌, List, length, min}
use Rattle.std.specs.Int.Digits.{AllBelowBase}
use Rattle.bool_coder.specs.BoolReading.{first_bits}
use Rattle.bool_coder.specs.DecoderSeen.{Seen, end_position}
use Rattle.bool_coder.specs.declared.decoder.Decoder.TheInside.{Inside}

-- what contracts see: `fetched` bytes were fetched, and `bits` of their bits come after the offset
abbrev pub seen_in : List ℕ → ℕ → ℕ → ℕ → ℕ → Seen
seen_in bytes fetched value bits range =
    record {
      bytes = bytes;
      offset = value / 2 ^ bits;
      range = range;
      position = min (8 * fetched - 8 - bits) (end_position bytes);
    }

-- the word has the bytes' next bits, and before them an offset below the range
pub record IsWindow (bytes : List ℕ) (fetched value bits range : ℕ) : Type 0 where
  pub some : 0 < length bytes
  pub bytes_below : AllBelowBase 256 bytes
  pub wide : 128 ≤ range
  pub byte : range ≤ 255
  pub short : bits < 55
  pub begun : 8 + bits ≤ 8 * fetched
  pub within : fetched ≤ length bytes + 13
  pub below : value < range * 2 ^ bits
  pub next : value % 2 ^ bits ≡ first_bits bytes (8 * fetched) % 2 ^ bits

-- what contracts see of a decoder
abbrev pub seen_of : Inside → Seen
seen_of d = seen_in d.bytes.now d.fetched d.value d.bits (d.less + 1)

-- what always holds of one
abbrev pub IsDecoder : Inside → Type 0
IsDecoder d = IsWindow d.bytes.now d.fetched d.value d.bits (d.less + 1)
