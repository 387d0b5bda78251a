-- View: the room of a piece (own).
use Rattle.std.specs.Prelude.{ℕ}

-- how many bytes a piece has room for
abbrev pub piece_room : ℕ
piece_room = 36864
