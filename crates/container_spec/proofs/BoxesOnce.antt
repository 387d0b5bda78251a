-- Bytes stand for one thing as a container.
use Rattle.std.proofs.Common.{◌≡◌, ℕ, List, inl, inr, [], ◌∷◌, refl, sym, ap, ◌∙◌}
use Rattle.jpeg_marker.specs.Plans.{PlanFields}
use Rattle.box_format.specs.Parts.{BoxParts}
use Rattle.box_format.specs.Single.{IsBoxOf}
use Rattle.box_format.specs.Versions.{decoded}
use Rattle.box_format.specs.declared.refusal.BoxRefusal.{BoxRefusal}
use Rattle.box_format.proofs.Layouts.{all_read}
use Rattle.box_format.proofs.Singles.{one_is_container}
use Rattle.box_format.proofs.Spelling.{one_list_of_scans, one_refusal, never_both}
use Rattle.container_spec.specs.Meanings.{Meaning, NoBox}
use Rattle.container_spec.specs.ScansMeaningLaws.{RefusedIsNone, StandsForOne}
use Rattle.container_spec.specs.Portions.{StandsFor, meaning_of, scans_meaning}

pub refused_is_none : RefusedIsNone
refused_is_none scans bytes refusal is = never_both decoded is.0 scans bytes refusal (all_read is.0) is.1

pub stands_for_one : StandsForOne
stands_for_one bytes a b (inl x) (inl y) =
    x.2 ∙ ap (λ (r : BoxRefusal). record { bytes = []; verdict = NoBox r })
    (one_refusal decoded bytes x.0 y.0 x.1 y.1) ∙ sym y.2
stands_for_one bytes a b (inl x) (inr y) = absurd (refused_is_none y.0 bytes x.0 y.1 x.1)
stands_for_one bytes a b (inr x) (inl y) = absurd (refused_is_none x.0 bytes y.0 x.1 y.1)
stands_for_one bytes a b (inr x) (inr y) =
    x.2 ∙ ap scans_meaning (one_list_of_scans x.0 y.0 bytes x.1 y.1) ∙ sym y.2

-- a container of one scan stands for what the scan does
pub meant_alone : (plan : PlanFields) (b : BoxParts) (bytes : List ℕ) (m : Meaning)
    → IsBoxOf plan b bytes → StandsFor bytes m → m ≡ meaning_of plan b
meant_alone plan b bytes m of stands =
    stands_for_one bytes m (meaning_of plan b) stands (inr (
      record { plan = plan; parts = b } ∷ [],
      (b.version, one_is_container (record { plan = plan; parts = b }) bytes of),
      refl,
    ))
