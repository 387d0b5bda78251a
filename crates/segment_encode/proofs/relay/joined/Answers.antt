use Rattle.std.proofs.Common.{map, ap, ◌∙◌}
use Rattle.std.proofs.lemmas.List.{map-append}
use Rattle.segment_encode.proofs.relay.joined.Goals as goal

pub returns-clause-made : goal.returns-clause-made
returns-clause-made c =
    ap (map (λ v. v.items)) c.in_ok-append.ensures ∙ map-append (λ v. v.items) c.args.streams.items c.args.others.items
