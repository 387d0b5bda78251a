-- View: a sink that takes one text alone, as contracts see it (own).
use Rattle.std.specs.Prelude.{ℕ, ◌≡◌, List, take, drop, Option, Some}

-- the text, and how many of its bytes were written
pub record Expected : Type 0 where
  pub text : List ℕ
  pub written : ℕ

-- those bytes
abbrev pub held_by : Expected → Option (List ℕ)
held_by sink = Some (take sink.written sink.text)

-- it takes the rest of the text, and nothing else
abbrev pub TakesRest : Expected → List ℕ → Type 0
TakesRest sink rest = rest ≡ drop sink.written sink.text
