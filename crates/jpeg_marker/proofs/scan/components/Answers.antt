use Rattle.std.proofs.Common.{arith, sym, ◌∙◌}
use Rattle.std.proofs.lemmas.List.{length-set}
use Rattle.jpeg_marker.specs.Frames.{no_part}
use Rattle.jpeg_marker.specs.HeldTables.{table_in}
use Rattle.jpeg_marker.proofs.Chosen.{components_more, components_none, blank_more, parts_more, indexes_more}
use Rattle.jpeg_marker.proofs.scan.components.Goals as goal

pub returns-in_err-found-clause-value : goal.returns-in_err-found-clause-value
returns-in_err-found-clause-value c =
    let i = c.loop-i in
    rw c.from_residual.ensures (components_none (table_in c.args.tables.now) c.args.indexes.now c.args.parts.now c.args.selectors.now i.found i.i 0 no_part (record { id = 0; dc = 0; ac = 0 }) (omega arith) c.loop-i-test.true (omega arith) i.invariant.value (sym c.component.ensures ∙ c.in_err-found.was))

pub loop-i-preserved : goal.loop-i-preserved
loop-i-preserved c =
    let i = c.loop-i in
    record {
      size = simp length-set i.invariant.size;
      value = components_more (table_in c.args.tables.now) c.args.indexes.now c.args.parts.now c.args.selectors.now i.found i.i 0 no_part (record { id = 0; dc = 0; ac = 0 }) _ (omega arith) c.loop-i-test.true (omega arith) (omega arith) i.invariant.value (sym c.component.ensures ∙ c.in_ok-found.was);
      theirs = parts_more c.args.parts.now i.found i.i _ no_part _ (table_in c.args.tables.now 0 _) (table_in c.args.tables.now 1 _) c.loop-i-test.true (omega arith) i.invariant.theirs (sym c.component.ensures ∙ c.in_ok-found.was);
      at = indexes_more c.args.indexes.now i.found i.i 0 _ _ (table_in c.args.tables.now 0 _) (table_in c.args.tables.now 1 _) (omega arith) (omega arith) i.invariant.at (sym c.component.ensures ∙ c.in_ok-found.was);
      blank = blank_more i.found i.i _ _ i.invariant.size (omega arith) i.invariant.blank;
    }
