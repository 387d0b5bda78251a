-- Blocks counted scan by scan.
use Rattle.std.proofs.Common.{◌≡◌, ◌≤◌, ◌+◌, ℕ, List, ◌∷◌, length, drop, map, sym, ap, ap₂, ◌∙◌, drop-cons, add-one}
use Rattle.std.specs.Prelude.{Some, slice_get}
use Rattle.std.proofs.lemmas.List.{drop_all}
use Rattle.std.proofs.lemmas.Option.{slice_get_within, get_or_from_slice_get}
use Rattle.box_format.specs.Parts.{BoxSeen}
use Rattle.box_format.proofs.Lists.{sum_first}
use Rattle.segment_crew.specs.Worth.{blocks_had, blocks_in}

pub blocks_next : (scans : List BoxSeen) (j : ℕ) (s : BoxSeen) → slice_get scans j ≡ Some s
    → blocks_in (drop j scans) ≡ blocks_had s + blocks_in (drop (j + 1) scans)
blocks_next scans j s here =
    let below = slice_get_within scans j s here in
    let first : drop j scans ≡ s ∷ drop (j + 1) scans =
    drop-cons scans j s below
    ∙ ap₂ (λ (x : BoxSeen) (k : ℕ). x ∷ drop k scans) (get_or_from_slice_get scans j s s here)
    (sym (add-one j)) in
    ap blocks_in first ∙ sum_first (blocks_had s) (map blocks_had (drop (j + 1) scans))

pub blocks_end : (scans : List BoxSeen) (j : ℕ) → length scans ≤ j
    → blocks_in (drop j scans) ≡ 0
blocks_end scans j past = ap blocks_in (drop_all j scans past)
