-- Statement: the endings of the top call, each with its status and its line, and what stderr gets of a line (README.md,
-- Use).
use Rattle.std.specs.Prelude.{ℕ, List, [], codes, take, Option, ◌==◌, if◌then◌else◌}
use Rattle.std.specs.Io.KnownBytes.{Appends}
use Rattle.outside_core.specs.Faults.{Rose}
use Rattle.lepton_run.specs.Lines.{line, refusal_line}
use Rattle.lepton_run.specs.Answers.{Answer, Made, Early, Late}
use Rattle.lepton_run.specs.declared.ending.Ending.{Ending}
use Rattle.lepton_run.specs.declared.ending.Ending.TheVariants.{Done, Refused, WordsRefused, ReadFailed, WriteFailed, NoMemory}

-- the status of an ending
abbrev pub status_at : Ending → ℕ
status_at Done = 0
status_at (Refused refusal) = 1
status_at WordsRefused = 2
status_at ReadFailed = 3
status_at WriteFailed = 4
status_at (NoMemory short) = 5

-- the line of a status that isn't a refusal's: nothing for 0
abbrev pub line_at : ℕ → List ℕ
line_at status =
    if status == 2 then line (codes "words refused") else
    (if status == 3 then line (codes "read failed") else
    (if status == 4 then line (codes "write failed") else
    (if status == 5 then line (codes "no memory") else [])))

-- the line of an ending
abbrev pub ending_line : Ending → List ℕ
ending_line Done = line_at 0
ending_line (Refused refusal) = refusal_line refusal
ending_line WordsRefused = line_at 2
ending_line ReadFailed = line_at 3
ending_line WriteFailed = line_at 4
ending_line (NoMemory short) = line_at 5

-- the ending that an answer is
abbrev pub ending_of : Answer → Ending
ending_of (Made bytes) = Done
ending_of (Early refusal) = Refused refusal
ending_of (Late bytes refusal) = Refused refusal

-- stderr got a prefix of this line, and all of it if its count of faults didn't rise
pub record Notes {Note : Type 0} (held : Note → Option (List ℕ)) (faults : Note → ℕ)
    (full : Note → Type 0) (old new : Note) (line : List ℕ) : Type 0 where
  pub prefix : (n : ℕ) × Appends (held old) (held new) (take n line)
  pub whole : ¬ Rose faults full old new → Appends (held old) (held new) line
