use Rattle.std.proofs.Common.{◌++◌, drop, length, replicate, ap, ◌∙◌}
use Rattle.std.proofs.lemmas.List.{drop-replicate}
use Rattle.jpeg_marker.proofs.table.with_zeros.Goals as goal

pub returns : goal.returns
returns c =
    let values = c.args.values.now in
    ap (λ prefix. prefix ++ drop (length values) (replicate 256 0)) c.copy_from_slice.ensures.after ∙ ap (λ zeros. values ++ zeros) (drop-replicate (length values) 256 0)
