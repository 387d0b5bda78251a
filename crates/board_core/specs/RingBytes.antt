-- View: the bytes of a ring, as contracts see them (own).
use Rattle.std.specs.Prelude.{ℕ, List}

-- the bytes that wait, the oldest first, and how many may
pub record RingBytes : Type 0 where
  pub items : List ℕ
  pub capacity : ℕ

-- a ring by its parts
abbrev pub ring_bytes : List ℕ → ℕ → RingBytes
ring_bytes items capacity = record { items = items; capacity = capacity }
