use Rattle.std.proofs.Common.{List, ℕ, Some, map, subst, sym}
use Rattle.std.specs.Prelude.{string_bytes}
use Rattle.lepton_run.specs.Answers.{MayTake, TakesAnswers}
use Rattle.run_examples.specs.Expected.{TakesRest}
use Rattle.run_examples.proofs.LeastEncoded.{least_taken}
use Rattle.run_examples.proofs.expecting.is_encoded.Goals as goal

pub run-ending-requires-clause-takes : goal.run-ending-requires-clause-takes
run-ending-requires-clause-takes g c κs within = λ command bytes means may.
    subst (TakesAnswers TakesRest command bytes) (sym c.new-sink.ensures)
    (least_taken (map string_bytes c.args.words.now) c.args.file.now c.args.container.now
    c.requires.words c.requires.file c.requires.container command bytes means
    (subst (λ (l : List ℕ). MayTake command (Some l) bytes) c.new-source.ensures may))
