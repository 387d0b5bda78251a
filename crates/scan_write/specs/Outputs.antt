-- Steps: what was put out, bits of a byte begun and stuffed bytes, and the room for more (own).
use Rattle.std.specs.Prelude.{ℕ, ◌+◌, ◌/◌, ◌<◌, ◌≤◌, Bool, List, [], ◌++◌, length}
use Rattle.bit_list.specs.Bits.{bytes_after, begun_after, stuffed}
use Rattle.bit_list.specs.Pieces.{piece_room}
use Rattle.scan_spec.specs.TextBounds.{quarters}

-- the bits of a byte begun, and the bytes before it
pub record OutputState : Type 0 where
  pub begun : List Bool
  pub bytes : List ℕ

-- fewer bits than a byte has
abbrev pub IsBegun : List Bool → Type 0
IsBegun begun = length begun < 8

-- a byte begun and the bytes before it
abbrev pub output_of : List Bool → List ℕ → OutputState
output_of begun bytes = record { begun = begun; bytes = bytes }

-- the same with more bits (F.1.2.3)
abbrev pub appended : OutputState → List Bool → OutputState
appended output bits = record {
  begun = begun_after output.begun bits;
  bytes = output.bytes ++ stuffed (bytes_after output.begun bits);
}

-- bytes, and after them the bits that wait in a buffer
abbrev pub output_with : List Bool → List ℕ → OutputState
output_with waiting bytes = appended (output_of [] bytes) waiting

-- room for n more bits, and four bytes after them
abbrev pub HasRoom : ℕ → List Bool → List ℕ → Type 0
HasRoom n begun bytes = (n + quarters begun bytes) / 4 + 4 ≤ piece_room
