use Rattle.std.proofs.Common.{◌≡◌, ◌+◌, length, ap, ap₂, subst, sym, ◌∙◌, List, [], ◌∷◌, ℕ, Err}
use Rattle.std.proofs.lemmas.Result.{err_from_is_err_and}
use Rattle.std.specs.Prelude.{Some}
use Rattle.box_format.specs.Parts.{BoxSeen}
use Rattle.box_format.specs.Single.{box_bytes}
use Rattle.box_format.specs.declared.version.Version.TheVariants.{Fifth}
use Rattle.container_spec.specs.Indexed.{places_found}
use Rattle.container_spec.specs.Meanings.{Faulty, PadSpelled, Restored}
use Rattle.container_spec.specs.Portions.{scans_meaning}
use Rattle.range_read.specs.declared.error.IndexError.{IndexError}
use Rattle.range_read.specs.declared.error.IndexError.TheVariants.{Fault, PadSpelling}
use Rattle.range_read.proofs.FoundPlaces.{found_count}
use Rattle.range_read.proofs.indexing.index_by.Goals as goal

pub returns-in_err-places-clause-fault : goal.returns-in_err-places-clause-fault
returns-in_err-places-clause-fault c = λ bytes fault of read is.
    let p = err_from_is_err_and c.from_residual.result c.from_residual.ensures.1 in
    let same = p.2 in
    let cause : c.in_err-places.field-0.0 ≡ Fault fault = let e = p.1 in cc in (
      c.args.scan.now.plan,
      c.args.scan.now.parts,
      of,
      read,
      subst (λ (s : BoxSeen). (scans_meaning (s ∷ [])).verdict ≡ Faulty fault) c.view.ensures
          (c.in_err-places.ensures.fault fault (ap (λ (error : IndexError). Err error) cause)),
    )

pub returns-in_err-places-clause-spelling : goal.returns-in_err-places-clause-spelling
returns-in_err-places-clause-spelling c = λ bytes of read is.
    let p = err_from_is_err_and c.from_residual.result c.from_residual.ensures.1 in
    let same = p.2 in
    let cause : c.in_err-places.field-0.0 ≡ PadSpelling = let e = p.1 in cc in (
      c.args.scan.now.plan,
      c.args.scan.now.parts,
      of,
      read,
      subst (λ (s : BoxSeen). (scans_meaning (s ∷ [])).verdict ≡ PadSpelled) c.view.ensures
          (c.in_err-places.ensures.spelling (ap (λ (error : IndexError). Err error) cause)),
    )

pub write_placed-requires-clause-places : goal.write_placed-requires-clause-places
write_placed-requires-clause-places c =
    ap (λ (l : List ℕ). length l) (c.as_slice.ensures.value ∙ c.in_ok-places.ensures.places)
    ∙ found_count c.view.result.now.plan c.view.result.now.parts
    ∙ ap (λ (s : BoxSeen). length s.parts.handovers + 1) (c.view.ensures ∙ sym c.view-2.ensures)

pub returns-clause-made : goal.returns-clause-made
returns-clause-made c = λ bytes of read. (
  c.args.scan.now.plan,
  c.args.scan.now.parts,
  of,
  read,
  subst (λ (s : BoxSeen). (scans_meaning (s ∷ [])).verdict ≡ Restored) c.view.ensures
      c.in_ok-places.ensures.restored,
  c.in_ok-made.ensures
      ∙ ap₂ (λ (s : BoxSeen) (l : List ℕ). box_bytes (record s.parts { version = Fifth; places = Some l }))
      c.view-2.ensures (c.as_slice.ensures.value ∙ c.in_ok-places.ensures.places
      ∙ ap (λ (s : BoxSeen). places_found s.plan s.parts) c.view.ensures),
)
