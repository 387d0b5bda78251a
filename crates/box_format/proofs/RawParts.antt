-- What is looked up by a number.
use Rattle.std.proofs.Common.{◌≡◌, ◌<◌, ◌+◌, ◌-◌, ℕ, List, map, sym, ap, ◌∙◌, arith, true}
use Rattle.std.specs.Prelude.{None}
use Rattle.std.proofs.lemmas.Bool.{and_parts}
use Rattle.std.specs.List.{range_with_len}
use Rattle.scan_spec.specs.Slots.{Shape}
use Rattle.cut_spec.specs.Cuts.{Cut}
use Rattle.handover.specs.Handovers.{HandoverFields}
use Rattle.handover.specs.HandoverBytes.{is_handover}
use Rattle.box_format.specs.Parts.{bad_start}
use Rattle.box_format.specs.Raws.{Raw}
use Rattle.box_format.specs.Fields.{scan_raw, scans_in}
use Rattle.box_format.specs.Versions.{layout_of}
use Rattle.box_format.specs.declared.version.Version.{Version}
use Rattle.box_format.proofs.FirstBad.{each_starts}

-- the fields of the scans from one on
abbrev pub raws_from : Version → List ℕ → ℕ → List Raw
raws_from v bytes j =
    map (scan_raw v bytes) (range_with_len j (scans_in (layout_of v) bytes - j))

-- where all segments can start, each has a handover
pub starts_soundly : (shape : Shape) (cut : Cut) (f : ℕ → HandoverFields) (i n : ℕ)
    → bad_start shape cut 0 (map f (range_with_len 0 n)) ≡ None → i < n → is_handover (f i) ≡ true
starts_soundly shape cut f i n none below =
    let z : 0 + i ≡ i = omega arith in
    ap (λ (k : ℕ). is_handover (f k)) (sym z)
    ∙ (and_parts (is_handover (f (0 + i))) _ (each_starts shape cut f i 0 n none below)).0
