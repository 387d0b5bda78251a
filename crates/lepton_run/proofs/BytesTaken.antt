-- What a source gave, and the answer to it.
use Rattle.std.proofs.Common.{◌≡◌, ℕ, ◌<◌, ◌≤◌, inl, inr, true, false, List, [], ◌++◌, length, Option, Some, None, refl, sym, ap, subst, ◌∙◌, append-nil, length-append, arith}
use Rattle.std.specs.Io.KnownBytes.{Consumes, IsAtEnd}
use Rattle.std.proofs.lemmas.Bool.{false≢true}
use Rattle.command_words.specs.declared.command.Command.{Command}
use Rattle.lepton_run.specs.Answers.{Answer, Answers, GaveUpTo, IsAllOf, IsInput, Took, TookAs, input_of, is_taken, limit_of, most_of, reads}
use Rattle.lepton_run.specs.declared.input.Input.{Input}
use Rattle.lepton_run.specs.declared.input.Input.TheVariants.{File, Container, Nothing}

-- what a source gave to its end is what it had
all_taken : (had : List ℕ) (new : Option (List ℕ)) (bytes : List ℕ)
    → Consumes (Some had) new bytes → IsAtEnd new → had ≡ bytes
all_taken had None bytes took end = absurd took
all_taken had (Some left) bytes took end = took ∙ ap (λ l. bytes ++ l) end ∙ append-nil bytes

-- a source had at least what it gave
taken_within : (had taken : List ℕ) (new : Option (List ℕ)) → Consumes (Some had) new taken
    → length taken ≤ length had
taken_within had taken None took = absurd took
taken_within had taken (Some left) took = omega (arith, ap length took, length-append taken left)

-- past the limit there is one answer, whatever the bytes
too_many : (command : Command) (had bytes : List ℕ) (answer : Answer)
    → limit_of command < length bytes → length bytes ≤ length had → Answers command bytes answer
    → Answers command had answer
too_many command had bytes answer past within (inl x) = inl (omega arith, x.1)
too_many command had bytes answer past within (inr x) = absurd (let h = x.short in omega arith)

-- the answer to what a source gave is the answer to what it had
answer_given : (command : Command) (had bytes : List ℕ) (new : Option (List ℕ)) (answer : Answer)
    → GaveUpTo (limit_of command) (Some had) new bytes → Answers command bytes answer
    → Answers command had answer
answer_given command had bytes new answer took is =
    elim took.1 [
      | inl end ↦ subst (λ (l : List ℕ). Answers command l answer)
          (sym (all_taken had new bytes took.0 end)) is
      | inr long ↦ too_many command had bytes answer (omega (arith, long))
          (taken_within had bytes new took.0) is
    ]

-- the answer to what was taken as an input is the answer to all of it
answer_of : (input : Input) (command : Command) (had bytes : List ℕ) (left new : Option (List ℕ))
    (answer : Answer) → input_of command ≡ input → IsAllOf input left had
    → TookAs input left new bytes → Answers command bytes answer → Answers command had answer
answer_of File command had bytes left new answer of all took is =
    answer_given command had bytes new answer
    (subst (λ (n : ℕ). GaveUpTo n (Some had) new bytes) (sym (ap most_of of))
    (subst (λ (l : Option (List ℕ)). GaveUpTo (most_of File) l new bytes) all took)) is
answer_of Container command had bytes left new answer of all took is =
    answer_given command had bytes new answer
    (subst (λ (n : ℕ). GaveUpTo n (Some had) new bytes) (sym (ap most_of of))
    (subst (λ (l : Option (List ℕ)). GaveUpTo (most_of Container) l new bytes) all took)) is
answer_of Nothing command had bytes left new answer of all took is =
    subst (λ (l : List ℕ). Answers command l answer) (took.1 ∙ sym all) is

-- the answer to what a command took is the answer to its input
pub answer_had : (command : Command) (had bytes : List ℕ) (left new : Option (List ℕ))
    (answer : Answer)
    → IsInput command left had → Took command left new bytes → Answers command bytes answer
    → Answers command had answer
answer_had command had bytes left new answer all took is =
    answer_of (input_of command) command had bytes left new answer refl all took is

-- what is taken of an input that is
taken_as : (input : Input) (old new : Option (List ℕ)) (bytes : List ℕ) → is_taken input ≡ true
    → GaveUpTo (most_of input) old new bytes → TookAs input old new bytes
taken_as File old new bytes is gave = gave
taken_as Container old new bytes is gave = gave
taken_as Nothing old new bytes is gave = absurd (false≢true is)

-- what a command takes that takes what there is
pub took_of : (command : Command) (old new : Option (List ℕ)) (bytes : List ℕ)
    → reads command ≡ true → GaveUpTo (limit_of command) old new bytes → Took command old new bytes
took_of command old new bytes is gave = taken_as (input_of command) old new bytes is gave

-- what is taken of one that isn't
none_taken : (input : Input) (old : Option (List ℕ)) → is_taken input ≡ false
    → TookAs input old old []
none_taken File old is = absurd (false≢true (sym is))
none_taken Container old is = absurd (false≢true (sym is))
none_taken Nothing old is = (refl, refl)

-- and one that takes none
pub took_none : (command : Command) (old : Option (List ℕ)) → reads command ≡ false
    → Took command old old []
took_none command old is = none_taken (input_of command) old is
