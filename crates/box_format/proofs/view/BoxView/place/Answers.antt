use Rattle.std.proofs.Common.{◌≡◌, ◌≤◌, Bool, false, if◌then◌else◌, nat_lt, ℕ, length, sym, ap, ◌∙◌, arith}
use Rattle.std.specs.Prelude.{Some, option_map, slice_index}
use Rattle.std.proofs.lemmas.Bool.{le-ltb, lt-ltb, not-false}
use Rattle.box_format.specs.declared.version.Layout.{Layout}
use Rattle.box_format.specs.Raws.{place_from}
use Rattle.box_format.specs.Slices.{place_among}
use Rattle.box_format.specs.Parts.{BoxSeen}
use Rattle.box_format.proofs.Sliced.{handovers_long, place_sliced}
use Rattle.box_format.proofs.view.BoxView.place.Goals as goal

pub returns-then-segment-self : goal.returns-then-segment-self
returns-then-segment-self c =
    let i = c.self.inside in
    let count = sym (ap (λ (s : BoxSeen). length s.parts.handovers) c.self.view_is)
    ∙ handovers_long i.version i.segments i.records.now in
    let within : c.args.segment ≤ i.segments = let h = c.requires in omega (arith, h, count) in
    let placed = ap (λ (l : Layout). l.placed) (sym c.layout.ensures.value) ∙ not-false c.layout.result.placed c.if-not-layout.false in
    let test = lt-ltb c.args.segment i.segments c.if-segment-self.true in
    ap (λ (n : ℕ). Some n) (c.place_at.ensures
    ∙ ap (place_from i.records.now) c.place_among.ensures.value)
    ∙ sym (ap (λ (b : Bool). Some (if b
    then place_from i.records.now (place_among i.version c.args.segment) else i.end)) test)
    ∙ sym (place_sliced i.version i.segments i.records.now i.end c.args.segment placed within)
    ∙ ap (λ (s : BoxSeen). option_map (λ places. slice_index places c.args.segment) s.parts.places)
    c.self.view_is

pub returns-else-segment-self : goal.returns-else-segment-self
returns-else-segment-self c =
    let i = c.self.inside in
    let count = sym (ap (λ (s : BoxSeen). length s.parts.handovers) c.self.view_is)
    ∙ handovers_long i.version i.segments i.records.now in
    let within : c.args.segment ≤ i.segments = let h = c.requires in omega (arith, h, count) in
    let placed = ap (λ (l : Layout). l.placed) (sym c.layout.ensures.value) ∙ not-false c.layout.result.placed c.if-not-layout.false in
    let past = c.if-segment-self.false in
    let test : nat_lt c.args.segment i.segments ≡ false = le-ltb c.args.segment i.segments (omega (arith, past)) in
    sym (ap (λ (b : Bool). Some (if b
    then place_from i.records.now (place_among i.version c.args.segment) else i.end)) test)
    ∙ sym (place_sliced i.version i.segments i.records.now i.end c.args.segment placed within)
    ∙ ap (λ (s : BoxSeen). option_map (λ places. slice_index places c.args.segment) s.parts.places)
    c.self.view_is
