use Rattle.std.proofs.Common.{false, true, not, sym, ap, ◌∙◌}
use Rattle.std.proofs.lemmas.Bool.{eq-eqb, ne_eqb, not-false}
use Rattle.box_format.specs.declared.version.Layout.{Layout}
use Rattle.box_format.proofs.ScansFaults.{no_places, places_by}
use Rattle.box_format.proofs.checks.are_bad_places.Goals as goal
use Rattle.box_format.proofs.ScansSound.{not_true}

pub returns-then-not-layout : goal.returns-then-not-layout
returns-then-not-layout c =
    let unplaced = ap (λ (l : Layout). l.placed) (sym c.layout.ensures.value) ∙ not_true c.layout.result.placed c.if-not-layout.true in
    sym (no_places c.args.version c.args.bytes.now c.args.scan unplaced)

pub returns-then-place_in-from : goal.returns-then-place_in-from
returns-then-place_in-from c =
    let placed = ap (λ (l : Layout). l.placed) (sym c.layout.ensures.value) ∙ not-false c.layout.result.placed c.if-not-layout.false in
    let test = ne_eqb c.place_in.result c.from.result c.if-place_in-from.true in
    ap not test
    ∙ places_by c.args.version c.args.bytes.now c.args.scan c.fields_place-fields.result
    c.place_in.result c.from.result false c.requires.whole c.requires.scan placed
    c.fields_place-fields.ensures.value c.place_in.ensures
    (c.from.ensures ∙ c.header_length.ensures) test

pub returns-else-place_in-from : goal.returns-else-place_in-from
returns-else-place_in-from c =
    let placed = ap (λ (l : Layout). l.placed) (sym c.layout.ensures.value) ∙ not-false c.layout.result.placed c.if-not-layout.false in
    let test = eq-eqb c.place_in.result c.from.result c.if-place_in-from.false in
    ap not c.are_rising.ensures
    ∙ places_by c.args.version c.args.bytes.now c.args.scan c.fields_place-fields.result
    c.place_in.result c.from.result true c.requires.whole c.requires.scan placed
    c.fields_place-fields.ensures.value c.place_in.ensures
    (c.from.ensures ∙ c.header_length.ensures) test
