-- View: the source and the sink in memory, as contracts see them (own).
use Rattle.std.specs.Prelude.{◌≡◌, ℕ, ◌+◌, ◌-◌, ◌^◌, ◌<◌, ◌≤◌, List, [], min, length, drop, Contains, count_by, nat_le, if◌then◌else◌, ◌==◌}
use Rattle.std.specs.List.{common_prefix_len}

-- a source over bytes: those left, the most that a call gives, the numbers of the calls that fail, and the calls made
pub record Supply : Type 0 where
  pub left : List ℕ
  pub piece : ℕ
  pub fails : List ℕ
  pub calls : ℕ

-- a sink in memory: the bytes held, its room, the most that a call takes, the numbers of the calls that fail, the calls
-- made, and the writes refused since there was no room
pub record Store : Type 0 where
  pub held : List ℕ
  pub room : ℕ
  pub piece : ℕ
  pub fails : List ℕ
  pub calls : ℕ
  pub refused : ℕ

-- bytes that are still to agree, and how many have agreed
pub record Match : Type 0 where
  pub rest : List ℕ
  pub agreed : ℕ

-- how many of these numbers are of calls that were made
abbrev pub past_calls : List ℕ → ℕ → ℕ
past_calls fails calls = count_by (λ call. nat_le call calls) fails

-- the calls of a source that failed
abbrev pub supply_faults : Supply → ℕ
supply_faults source = past_calls source.fails source.calls

-- the calls of a sink that failed, and those that it refused
abbrev pub store_faults : Store → ℕ
store_faults sink = past_calls sink.fails sink.calls + sink.refused

-- no more refusals are counted
abbrev pub StoreFull : Store → Type 0
StoreFull sink = sink.refused ≡ 2 ^ 64 - 1

-- one more, up to the last number of 64 bits
abbrev pub counted : ℕ → ℕ
counted count = min (count + 1) (2 ^ 64 - 1)

-- the call after `calls` others is one that fails; past the last number none is
abbrev pub FailsNext : List ℕ → ℕ → Type 0
FailsNext fails calls = (calls < 2 ^ 64 - 1) × Contains fails (calls + 1)

-- there are bytes, and no room for the first of them
abbrev pub Refuses : Store → List ℕ → Type 0
Refuses sink bytes = (0 < length bytes) × (sink.room ≤ length sink.held)

-- how many bytes a read into `room` bytes gives
abbrev pub given : Supply → ℕ → ℕ
given source room = min source.piece (min room (length source.left))

-- how many of the bytes a write accepts
abbrev pub accepted : Store → List ℕ → ℕ
accepted sink bytes = min sink.piece (min (length bytes) (sink.room - length sink.held))

-- the length of the longest prefix that two lists share
abbrev pub shared_prefix : List ℕ → List ℕ → ℕ
shared_prefix xs ys = common_prefix_len (λ x y. x == y) xs ys

-- after these bytes too: after the first that differs none agrees
abbrev pub after_bytes : Match → List ℕ → Match
after_bytes old bytes =
    let same = shared_prefix old.rest bytes in
    record {
      rest = if same == length bytes then drop same old.rest else [];
      agreed = old.agreed + same;
    }
