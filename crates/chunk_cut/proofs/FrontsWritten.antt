-- All of a chunk's container but the streams, by the parts of one scan.
use Rattle.std.proofs.Common.{◌≡◌, ℕ, List, [], ◌∷◌, ◌++◌, flat_map, refl, sym, ap, ◌∙◌, subst, append-nil}
use Rattle.jpeg_marker.specs.Plans.{PlanFields}
use Rattle.box_format.specs.Containers.{AreScans, container_bytes, scan_streams}
use Rattle.box_format.specs.Given.{AreGiven, all_given, parts_given}
use Rattle.box_format.specs.Parts.{BoxSeen}
use Rattle.box_format.specs.Single.{IsBox, box_bytes}
use Rattle.box_format.specs.Versions.{layout_of}
use Rattle.box_format.specs.declared.parts.Parts.{Parts}
use Rattle.box_format.specs.declared.version.Version.{Version}
use Rattle.box_format.specs.declared.version.Version.TheVariants.{Third}
use Rattle.box_format.proofs.Singles.{one_is_container}

module _ (ps : List Parts) (p : Parts) (same : ps ≡ p ∷ []) where
  pub one_given : (plan : PlanFields) → IsBox plan (parts_given p)
      → (parts_given p).version ≡ Third → AreGiven Third ps
  one_given plan is version =
      let s : BoxSeen = record { plan = plan; parts = parts_given p } in
      let one = one_is_container s (box_bytes (parts_given p))
      (record {
        box = is;
        one = ap (λ (v : Version). (layout_of v).several) version;
        text = refl;
      }) in (
        s ∷ [],
        subst (λ (v : Version). AreScans v (s ∷ [])) version one.are,
        ap all_given (sym same),
      )

  pub front_is : (front : List ℕ) → (parts_given p).version ≡ Third
      → front ++ flat_map scan_streams (all_given ps) ≡ container_bytes Third (all_given ps)
      → front ++ scan_streams (parts_given p) ≡ box_bytes (parts_given p)
  front_is front version is =
      ap (λ (l : List ℕ). front ++ l) (sym (append-nil (scan_streams (parts_given p))))
      ∙ subst (λ (l : List Parts).
      front ++ flat_map scan_streams (all_given l) ≡ container_bytes Third (all_given l)) same is
      ∙ ap (λ (v : Version). container_bytes v (parts_given p ∷ [])) (sym version)
