-- Statement: how much memory one call may ask for by a length that its caller gives (own).
use Rattle.std.specs.Prelude.{ℕ, ◌^◌}

-- in bytes: 256 GiB, room for the longest journal of a store, 2 ^ 32 entries of 48 bytes
abbrev pub most_at_once : ℕ
most_at_once = 2 ^ 38
