-- A table whose checks hold, as it is kept.
use Rattle.std.proofs.Common.{◌≡◌, ℕ, ◌-◌, ◌^◌, ◌≤◌, true, List, ◌++◌, length, take, replicate, sum, refl, ap, ◌∙◌}
use Rattle.std.proofs.lemmas.List.{take_at}
use Rattle.jpeg_marker.specs.HuffmanTables.{distinct, code_space}
use Rattle.jpeg_marker.specs.TableInside.{AreFields}
use Rattle.jpeg_marker.proofs.Repeats.{IsDistinct-from_distinct}

pub kept_fields : (counts values all : List ℕ) → length counts ≡ 16 → length values ≡ sum counts → distinct values ≡ true → code_space counts ≤ 2 ^ 16 → all ≡ values ++ replicate (256 - length values) 0 → AreFields (record { counts = counts; values = all; length = length values })
kept_fields counts values all size whole once space is =
    let prefix : take (length values) all ≡ values = ap (take (length values)) is ∙ take_at values (replicate (256 - length values) 0) (length values) refl in
    record {
      table = record { lengths = size; whole = ap length prefix ∙ whole; distinct_values = rw prefix (IsDistinct-from_distinct values once); space = space };
      long = ap length prefix;
      blank = rw prefix is;
    }
