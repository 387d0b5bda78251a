-- A line that was written, whole or up to a fault.
use Rattle.std.proofs.Common.{ℕ, List, length, take, Option, Result, Ok, Err, IfErr, OnOk, OnErr, sym, subst, arith}
use Rattle.std.proofs.lemmas.List.{take_all}
use Rattle.std.specs.Io.KnownBytes.{Appends}
use Rattle.outside_core.specs.Faults.{Rose}
use Rattle.outside_core.specs.declared.transfer.WriteFault.{WriteFault}
use Rattle.lepton_run.specs.Endings.{Notes}

pub notes_of : {N : Type 0} (held : N → Option (List ℕ)) (faults : N → ℕ) (full : N → Type 0)
    (old new : N) (line : List ℕ) (result : Result (Unit {0}) WriteFault)
    → OnOk result (Appends (held old) (held new) line)
    → IfErr result (λ fault. Appends (held old) (held new) (take fault.written line))
    → OnErr result (Rose faults full old new) → Notes held faults full old new line
notes_of held faults full old new line (Ok x) whole part failed = record {
  prefix = (
    length line,
    subst (Appends (held old) (held new)) (sym (take_all (length line) line (omega arith))) whole,
  );
  whole = λ _. whole;
}
notes_of held faults full old new line (Err fault) whole part failed =
    record { prefix = (fault.written, part); whole = λ calm. absurd (calm failed) }
