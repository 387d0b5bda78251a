-- View: keepers in memory, as clauses see them (own).
use Rattle.std.specs.Prelude.{ℕ, List, []}

-- the blobs, the numbers of the calls that fail, how many calls there were, and how many failed
pub record FakeState : Type 0 where
  pub blobs : List (List ℕ)
  pub fails : List ℕ
  pub calls : ℕ
  pub faults : ℕ

-- a keeper before its first call, and the numbers of the calls that will fail
abbrev pub new_fake : List ℕ → FakeState
new_fake fails = record { blobs = []; fails = fails; calls = 0; faults = 0 }
