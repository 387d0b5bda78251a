use Rattle.std.proofs.Common.{◌<◌, length, get_or, [], sym, ap, ◌∙◌, arith}
use Rattle.box_format.specs.Parts.{BoxSeen}
use Rattle.box_format.proofs.Sliced.{handovers_long, has_first, stream_sliced}
use Rattle.box_format.proofs.view.BoxView.stream.Goals as goal

pub stream_among-requires : goal.stream_among-requires
stream_among-requires c =
    let i = c.self.inside in
    let count = sym (ap (λ (s : BoxSeen). length s.parts.handovers) c.self.view_is)
    ∙ handovers_long i.version i.segments i.records.now in
    let below : c.args.segment < i.segments = let h = c.requires in omega (arith, h, count) in
    has_first i.version c.args.segment i.segments i.records.now i.streams.now below
    c.self.invariant.whole

pub returns : goal.returns
returns c =
    let i = c.self.inside in
    let count = sym (ap (λ (s : BoxSeen). length s.parts.handovers) c.self.view_is)
    ∙ handovers_long i.version i.segments i.records.now in
    let below : c.args.segment < i.segments = let h = c.requires in omega (arith, h, count) in
    c.stream_among.ensures
    ∙ sym (stream_sliced i.version i.segments i.records.now i.streams.now c.args.segment below)
    ∙ ap (λ (s : BoxSeen). get_or s.parts.streams c.args.segment []) c.self.view_is
