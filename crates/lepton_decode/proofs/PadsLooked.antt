-- Whether the pad bits of each scan are spelled as a file's, scan after scan.
use Rattle.std.proofs.Common.{◌≡◌, ℕ, ◌+◌, Bool, ◌&&◌, List, ◌∷◌, drop, sym, ap, ap₂, ◌∙◌, drop-cons, add-one, Some}
use Rattle.std.specs.Prelude.{slice_get}
use Rattle.std.proofs.lemmas.Option.{slice_get_within, get_or_from_slice_get}
use Rattle.scan_spec.specs.Pads.{is_spelled}
use Rattle.box_format.specs.Parts.{BoxSeen}
use Rattle.handover.specs.ScanSums.{ScanPads, sum_in}
use Rattle.container_spec.specs.ScansJoined.{all_spelled}

-- those from one scan on, by that one's
pub spelled_next : (scans : List BoxSeen) (j : ℕ) (s : BoxSeen) (sums : ScanPads) (told : Bool)
    → slice_get scans j ≡ Some s → is_spelled s.parts.pads (sum_in sums j) ≡ told
    → all_spelled j (drop j scans) sums ≡ told && all_spelled (j + 1) (drop (j + 1) scans) sums
spelled_next scans j s sums told here e =
    let first : drop j scans ≡ s ∷ drop (j + 1) scans =
    drop-cons scans j s (slice_get_within scans j s here)
    ∙ ap₂ (λ (x : BoxSeen) (k : ℕ). x ∷ drop k scans) (get_or_from_slice_get scans j s s here)
    (sym (add-one j)) in
    ap (λ (l : List BoxSeen). all_spelled j l sums) first
    ∙ ap (λ (t : Bool). t && all_spelled (j + 1) (drop (j + 1) scans) sums) e
