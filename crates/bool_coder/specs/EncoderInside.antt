-- View: how the encoder keeps an interval: the bottom's whole bytes, and the bits after them in a word (own).
use Rattle.std.specs.Prelude.{ℕ, ◌≡◌, ◌+◌, ◌-◌, ◌*◌, ◌^◌, ◌<◌, ◌≤◌, Option, Some, None, List, length, is_some, if◌then◌else◌}
use lib.Count.{count_leading_zeros}
use Rattle.std.specs.Int.Digits.{number_from_digits}
use Rattle.bool_coder.specs.BoolStream.{Interval, IsOnLine}
use Rattle.bool_coder.specs.declared.encoder.Encoder.TheInside.{Inside}

-- how many bits of the bottom a word of 64 bits has: above them is the carry, and above that the word's highest one
unfoldable pub bits_of : ℕ → ℕ
bits_of word = 62 - count_leading_zeros 64 word

-- these bits and the carry, without that one
abbrev pub low_of : ℕ → ℕ
low_of word = word - 2 ^ (bits_of word + 1)

-- the interval of whole bytes and a word
abbrev pub kept : List ℕ → ℕ → ℕ → Interval
kept written word range = record {
  bottom = number_from_digits 256 written * 2 ^ bits_of word + low_of word;
  range = range;
  shifts = 8 * length written + bits_of word - 8;
}

-- nothing, once the encoder is spent
abbrev pub interval_of : Inside → Option Interval
interval_of e =
    if is_some e.spent then None
    else Some (kept e.written.items e.low (e.less + 1))

-- the word has from 8 to 39 bits, and above them at most one carry
pub record IsWord (written : List ℕ) (word range : ℕ) : Type 0 where
  pub wide : 128 ≤ range
  pub byte : range ≤ 255
  pub begun : 2 ^ 9 ≤ word
  pub short : word < 2 ^ 41
  pub one_carry : word + range ≤ 2 ^ (bits_of word + 2)
  pub on_line : IsOnLine (kept written word range)

-- after one more bool it may be longer, by seven bits at most, before four bytes of it are written
pub record IsLonger (written : List ℕ) (word range : ℕ) : Type 0 where
  pub wide : 128 ≤ range
  pub byte : range ≤ 255
  pub begun : 2 ^ 9 ≤ word
  pub long : word < 2 ^ 48
  pub one_carry : word + range ≤ 2 ^ (bits_of word + 2)
  pub on_line : IsOnLine (kept written word range)

-- these bytes and this word are the same interval, and the word isn't longer
pub record IsSameKept (before : List ℕ) (longer : ℕ) (after : List ℕ) (word range : ℕ) : Type 0 where
  pub is : IsWord after word range
  pub same : kept after word range ≡ kept before longer range

-- what holds of an encoder, a spent one too
abbrev pub IsSound : Inside → Type 0
IsSound e = IsWord e.written.items e.low (e.less + 1)
