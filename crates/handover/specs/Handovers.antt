-- Statement: what a segment of a scan starts from, by its fields (docs/FORMAT.md, Segments).
use Rattle.std.specs.Prelude.{ℕ, ◌-◌, ◌%◌, ◌^◌, ◌<◌, ◌≤◌, ◌≡◌, List, length, replicate, All, ℤ, pos}
use Rattle.coef_block.specs.Block.{IsDc}

-- the byte begun and how many of its bits are written, the last DC of each component in the order of the frame, and
-- the number of restart markers before
pub record HandoverFields : Type 0 where
  pub partial : ℕ
  pub bits : ℕ
  pub preds : List ℤ
  pub restarts : ℕ

-- the handover at the start of a scan
abbrev pub start : HandoverFields
start = record { partial = 0; bits = 0; preds = replicate 4 (pos 0); restarts = 0 }

-- what the type keeps: at most seven bits, zeros after them, four DCs, and numbers of 8 and 32 bits
pub record IsHandover (h : HandoverFields) : Type 0 where
  pub few : h.bits ≤ 7
  pub blank : h.partial % 2 ^ (8 - h.bits) ≡ 0
  pub range : All IsDc h.preds
  pub four : length h.preds ≡ 4
  pub byte : h.partial < 256
  pub count : h.restarts < 2 ^ 32
