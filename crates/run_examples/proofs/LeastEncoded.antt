-- A sink that takes the container of the least file takes what encode makes of it.
use Rattle.std.proofs.Common.{◌≡◌, ℕ, List, [], Some, refl, sym, ap, subst, ◌∙◌}
use Rattle.box_format.specs.Rows.{second_box}
use Rattle.command_words.specs.Meaning.{Means}
use Rattle.command_words.specs.Rows.{encode_with, line}
use Rattle.command_words.specs.declared.command.Command.{Command}
use Rattle.command_words.specs.declared.command.Command.TheVariants.{Encode}
use Rattle.command_words.proofs.RowLemmas.{means_rows}
use Rattle.lepton_run.specs.Answers.{Made, MayTake, TakesAnswers, bytes_of}
use Rattle.lepton_run.specs.FileRows.{least_file}
use Rattle.lepton_run.proofs.CallEnds.{same_answer}
use Rattle.lepton_run.proofs.LeastFile.{least_answers}
use Rattle.run_examples.specs.Expected.{TakesRest}

pub least_taken : (words : List (List ℕ)) (file container : List ℕ)
    → words ≡ line (encode_with []) → file ≡ least_file → container ≡ second_box
    → (command : Command) (bytes : List ℕ) → Means words command
    → MayTake command (Some file) bytes
    → TakesAnswers TakesRest command bytes (record { text = container; written = 0 })
least_taken words file container are is has command bytes means may answer answers =
    let meant = subst (λ (l : List (List ℕ)). Means l (Encode 8)) (sym are) means_rows.0 in
    let taken = subst (λ (l : List ℕ). MayTake command (Some l) bytes) is may in
    ap bytes_of (same_answer words (Encode 8) command least_file bytes (Some least_file) taken.0
    (Made second_box) answer meant means refl taken.1 answers least_answers) ∙ sym has
