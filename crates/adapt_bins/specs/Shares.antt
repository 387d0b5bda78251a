-- View: what a table of the shares of all counts holds (own).
use Rattle.std.specs.Prelude.{◌≡◌, ◌<◌, ℕ, ◌+◌, ◌*◌, ◌/◌, ◌%◌, List, length, get_or}

-- how many pairs of counts there are, from 0 to 255
abbrev pub pairs : ℕ
pairs = 65536

-- the share of the zeros, as parts of 256, of the count of zeros and 256 times that of ones: 0 if one of them is 0
abbrev pub share_at : ℕ → ℕ
share_at both = 256 * (both % 256) / (both % 256 + both / 256) % 256

-- a table has the share of each pair
pub record AreShares (table : List ℕ) : Type 0 where
  pub many : length table ≡ pairs
  pub each : (both : ℕ) → both < pairs → get_or table both 0 ≡ share_at both
