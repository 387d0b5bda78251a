use Rattle.std.proofs.Common.{◌≡◌, ◌⊎◌, inl, inr, length, get_or, refl, sym, ◌∙◌, arith, rules}
use Rattle.std.proofs.lemmas.Bool.{eqb-true}
use Rattle.bool_coder.proofs.FirstBits.{prefix_start, all_bytes}
use Rattle.bool_coder.proofs.Beginnings.{no_stream}
use Rattle.bool_coder.proofs.decoder.Decoder.start.Goals as goal
use Rattle.bool_coder.proofs.decoder.Decoder.start.Goals.{then-is_empty, else-is_empty}

pub returns-else-bytes-clause-opened : goal.returns-else-bytes-clause-opened
returns-else-bytes-clause-opened c =
    let below = all_bytes c.args.bytes.now (λ i. let h = c.type_inv.bytes i in search rules) in
    let first = prefix_start c.args.bytes.now below in
    (refl, record { given = refl; range = refl; bottom = rw first (omega (arith, c.from.ensures)); position = refl; probs = tt })

pub returns-then-bytes-clause-no_stream : goal.returns-then-bytes-clause-no_stream
returns-then-bytes-clause-no_stream c =
    let below = all_bytes c.args.bytes.now (λ i. let h = c.type_inv.bytes i in search rules) in
    let start : (length c.args.bytes.now ≡ 0) ⊎ (get_or c.args.bytes.now 0 0 ≡ 255) = elim c.if-is_empty.branch [
      | then-is_empty w ↦ inl (eqb-true (length c.args.bytes.now) 0 (sym c.is_empty.ensures ∙ w.if-is_empty.true))
      | else-is_empty w ↦ inr (eqb-true (get_or c.args.bytes.now 0 0) 255 (sym w.value-is ∙ c.if-bytes.true))
    ] in
    λ bools all e. no_stream c.args.bytes.now bools below start all e
