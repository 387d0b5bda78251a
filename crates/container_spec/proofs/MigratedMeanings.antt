-- A container in the second version stands for what the one that it was made of stands for.
use Rattle.std.proofs.Common.{◌≡◌, ℕ, false, List, [], ◌∷◌, inl, inr, refl, ap, sym, subst, ◌∙◌}
use Rattle.std.specs.Prelude.{Option, None}
use Rattle.jpeg_marker.specs.Plans.{PlanFields}
use Rattle.box_format.specs.Parts.{BoxParts, BoxSeen, migrated}
use Rattle.box_format.specs.Single.{IsBoxOf, box_bytes}
use Rattle.box_format.specs.Versions.{layout_of, decoded, migratable, IsRead}
use Rattle.box_format.specs.declared.version.Version.{Version}
use Rattle.box_format.specs.declared.version.Version.TheVariants.{First, Second, Third, Fourth, Fifth}
use Rattle.box_format.specs.declared.chunk.Chunk.{Chunk}
use Rattle.box_format.proofs.Layouts.{all_read}
use Rattle.box_format.proofs.SingleBytes.{no_chunk, no_places, migrated_is}
use Rattle.box_format.proofs.Singles.{box_or_refused, one_is_container}
use Rattle.box_format.proofs.Spelling.{one_list_of_scans}
use Rattle.container_spec.specs.Portions.{scans_meaning, meaning_of}
use Rattle.container_spec.specs.MeaningLaws.{MigratedMeansTheSame}

-- the version is no part of it
same_meaning : (plan : PlanFields) (b : BoxParts) → b.chunk ≡ None → b.places ≡ None
    → meaning_of plan b ≡ meaning_of plan (migrated b)
unfolding scans_meaning
same_meaning plan b none unplaced =
    subst
    (λ (c : Option Chunk). meaning_of plan (record b { chunk = c })
    ≡ meaning_of plan (migrated (record b { chunk = c }))) (sym none)
    (subst
    (λ (p : Option (List ℕ)). meaning_of plan (record b { chunk = None; places = p })
    ≡ meaning_of plan (migrated (record b { chunk = None; places = p }))) (sym unplaced) refl)

-- a version that is migrated has no chunk and no places
pub record IsPlain (v : Version) : Type 0 where
  pub chunked : (layout_of v).chunked ≡ false
  pub placed : (layout_of v).placed ≡ false

pub plain : (v : Version) → IsRead migratable v → IsPlain v
plain First is = record { chunked = refl; placed = refl }
plain Second is = record { chunked = refl; placed = refl }
plain Third is = absurd (cc)
plain Fourth is = absurd (cc)
plain Fifth is = absurd (cc)

pub migrated_means_the_same : MigratedMeansTheSame
migrated_means_the_same plan b bytes meaning are read is (inl x) =
    absurd (box_or_refused decoded bytes plan b x.0 (all_read b.version) is x.1)
migrated_means_the_same plan b bytes meaning are read is (inr (scans, of, e)) =
    let s : BoxSeen = record { plan = plan; parts = b } in
    let moved : BoxSeen = record { plan = plan; parts = migrated b } in
    let v = plain b.version read in
    let same = one_list_of_scans scans (s ∷ []) bytes of (b.version, one_is_container s bytes is) in
    let made : IsBoxOf plan (migrated b) (box_bytes (migrated b)) =
    record { box = migrated_is plan b v.chunked is.box; one = refl; text = refl } in
    inr (
      moved ∷ [],
      (Second, one_is_container moved (box_bytes (migrated b)) made),
      e ∙ ap scans_meaning same
          ∙ same_meaning plan b (no_chunk plan b v.chunked is.box) (no_places plan b v.placed is.box),
    )
