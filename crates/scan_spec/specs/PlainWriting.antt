-- Steps: what the plain program does with a list of bits (own).
use Rattle.std.specs.Prelude.{◌≡◌, Bool, List, ◌++◌, Result, Ok, Err}
use Rattle.scan_spec.specs.BlockBits.{Text, prefixed}
use Rattle.scan_spec.specs.declared.plain.PlainError.{PlainError}
use Rattle.scan_spec.specs.declared.plain.PlainError.TheVariants.{Stop, NoMemory}

-- a text was appended to bits, or there is none
abbrev pub IsWritten : Result (Prim.Unit {0}) PlainError → List Bool → List Bool → Text → Type 0
IsWritten (Ok done) old new text = (bits : List Bool) × (text ≡ Ok bits) × (new ≡ old ++ bits)
IsWritten (Err (Stop stop)) old new text = text ≡ Err stop
IsWritten (Err NoMemory) old new text = Prim.Unit {0}

-- a prefix of the whole text was appended to bits, and this is left
pub record HasPutPrefix (whole : Text) (old now : List Bool) (rest : Text) : Type 0 where
  pub prefix : List Bool
  pub put : now ≡ old ++ prefix
  pub parts : whole ≡ prefixed prefix rest
