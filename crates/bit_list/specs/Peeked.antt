-- Steps: the bits that come next, if none of them is read (own).
use Rattle.std.specs.Prelude.{ℕ, zero, suc, ◌+◌, Bool, false, List, [], ◌∷◌, replicate, Result, Ok, Err}
use Rattle.bit_list.specs.Units.{Cursor, bit_at}
use Rattle.bit_list.specs.declared.fault.BitFault.{BitFault}

-- a bit and then what follows it, or zeros only (own)
abbrev pub bit_or : ℕ → Result (Bool × Cursor) BitFault → (Cursor → List Bool) → List Bool
bit_or more (Ok first) rest = first.0 ∷ rest first.1
bit_or more (Err fault) rest = replicate (more + 1) false

-- the next bits, zeros for those that no unit gives (own; F.2.2.3 reads them one by one)
unfoldable pub peeked : ℕ → List ℕ → Cursor → List Bool
peeked zero bytes cursor = []
peeked (suc more) bytes cursor = bit_or more (bit_at bytes cursor) (λ next. peeked more bytes next)
