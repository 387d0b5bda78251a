-- Steps: texts that are appended to what was put out (own).
use Rattle.std.specs.Prelude.{◌≡◌, Bool, List, Result, Ok, Err}
use Rattle.scan_spec.specs.BlockBits.{Text, prefixed}
use Rattle.scan_spec.specs.declared.stop.WriteStop.{WriteStop}
use Rattle.scan_write.specs.Outputs.{OutputState, appended}

-- a text was appended
abbrev pub IsAppended : OutputState → OutputState → Text → Type 0
IsAppended old new text = (bits : List Bool) × (text ≡ Ok bits) × (new ≡ appended old bits)

-- a text has a stop, and some bits were appended before it
abbrev pub IsStopped : WriteStop → OutputState → OutputState → Text → Type 0
IsStopped stop old new text =
    (bits : List Bool) × (text ≡ Err stop) × (new ≡ appended old bits)

-- a text was appended, or it has a stop
abbrev pub IsWritten : {A : Type 0} → Result A WriteStop → OutputState → OutputState → Text → Type 0
IsWritten (Ok done) old new text = IsAppended old new text
IsWritten (Err stop) old new text = IsStopped stop old new text

-- a prefix of the whole text was appended, and this is left
pub record HasAppended (whole : Text) (old now : OutputState) (rest : Text) : Type 0 where
  pub prefix : List Bool
  pub put : now ≡ appended old prefix
  pub parts : whole ≡ prefixed prefix rest
