use Rattle.std.proofs.Common.{◌∙◌, [], ◌∷◌, map, ap, refl, subst, sym}
use Rattle.std.specs.Prelude.{option_map}
use Rattle.scan_spec.specs.Pads.{pads_given}
use Rattle.box_format.specs.Given.{all_given}
use Rattle.box_format.specs.Parts.{BoxParts}
use Rattle.box_format.specs.Containers.{AreScans, container_bytes}
use Rattle.box_format.specs.Single.{box_bytes}
use Rattle.box_format.specs.declared.version.Version.{Version}
use Rattle.box_format.proofs.OneCuts.{parts_same}
use Rattle.box_format.proofs.Singles.{one_is_container}
use Rattle.container_examples.proofs.boxes.again.Goals as goal

pub write_container-requires : goal.write_container-requires
write_container-requires c =
    let seen = c.args.view.now in
    let handovers = c.as_slice-2.ensures.value ∙ c.in_ok-handovers.ensures in
    let streams = ap (λ vs. map (λ v. v.items) vs) c.as_slice-3.ensures.value
    ∙ c.in_ok-streams.ensures in
    let same = parts_same c.version-version.result c.chunk.result
    (option_map (λ kept. kept.now) c.kept_in.result) (pads_given c.pad.result)
    c.header.result.now c.trailer.result.now c.as_slice-2.result.now
    (map (λ v. v.items) c.as_slice-3.result.now) seen.parts c.version-version.ensures c.chunk.ensures
    c.kept_in.ensures c.pad.ensures.value c.header.ensures.bytes c.trailer.ensures.bytes handovers
    streams in
    let one = one_is_container seen (box_bytes seen.parts)
    (record { box = c.requires.parts; one = c.requires.one; text = refl }) in (
      seen ∷ [],
      subst (λ v. AreScans v (seen ∷ [])) (sym c.version-version.ensures) one.are,
      sym (ap all_given c.from_ref.ensures.value ∙ ap (λ (b : BoxParts). b ∷ []) same),
    )

pub returns : goal.returns
returns c =
    let seen = c.args.view.now in
    let handovers = c.as_slice-2.ensures.value ∙ c.in_ok-handovers.ensures in
    let streams = ap (λ vs. map (λ v. v.items) vs) c.as_slice-3.ensures.value
    ∙ c.in_ok-streams.ensures in
    let same = parts_same c.version-version.result c.chunk.result
    (option_map (λ kept. kept.now) c.kept_in.result) (pads_given c.pad.result)
    c.header.result.now c.trailer.result.now c.as_slice-2.result.now
    (map (λ v. v.items) c.as_slice-3.result.now) seen.parts c.version-version.ensures c.chunk.ensures
    c.kept_in.ensures c.pad.ensures.value c.header.ensures.bytes c.trailer.ensures.bytes handovers
    streams in
    c.in_ok-write_container.ensures
    ∙ ap (λ ps. container_bytes c.version-version.result (all_given ps)) c.from_ref.ensures.value
    ∙ ap (λ (b : BoxParts). container_bytes c.version-version.result (b ∷ [])) same
    ∙ ap (λ (v : Version). container_bytes v (seen.parts ∷ [])) c.version-version.ensures
