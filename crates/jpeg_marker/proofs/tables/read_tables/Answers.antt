use Rattle.std.proofs.Common.{rules, ◌≡◌, ◌+◌, ◌-◌, ◌∷◌, length, get_or, take, drop, arith, ap, sym, refl, ◌∙◌}
use Rattle.std.proofs.lemmas.List.{take_all, length-drop}
use Rattle.jpeg_marker.specs.TableFaults.{tables_fault}
use Rattle.jpeg_marker.proofs.SegmentTexts.{prefix_is}
use Rattle.jpeg_marker.proofs.TableLists.{tables_fault-more, Held-start, Held-more, Held-all}
use Rattle.jpeg_marker.proofs.tables.read_tables.Goals as goal

pub loop-rest-init : goal.loop-rest-init
loop-rest-init c = record { fault = refl; room = refl; held = Held-start _ _ (search rules) }

pub loop-rest-preserved : goal.loop-rest-preserved
loop-rest-preserved c =
    let i = c.loop-rest.invariant in
    let rest = c.loop-rest.rest.now in
    let byte = get_or rest 0 0 in
    let bytes = take (length rest - 1) (drop 1 rest) in
    let entry = c.in_ok-entry.entry in
    let known = c.in_ok-entry.ensures in
    let prefix : rest ≡ byte ∷ bytes = prefix_is rest c.in-len1-up.len_at_least in
    let back : take (length bytes - entry.length) (drop entry.length bytes) ≡ drop entry.length bytes = take_all _ _ (omega (arith, length-drop entry.length bytes)) in
    let size = ap length prefix in
    let left = ap length back in
    record {
      fault = ap (tables_fault c.args.at (c.loop-rest.place + (1 + entry.length)) 0) back ∙ tables_fault-more c.args.at c.loop-rest.place byte entry.length bytes (sym known.fault) known.length.0 known.length.1 ∙ ap (tables_fault c.args.at c.loop-rest.place 0) (sym prefix) ∙ i.fault;
      room = omega (arith, length-drop entry.length bytes, known.length.1);
      held = Held-more _ c.loop-rest.tables c.args.body.now rest bytes _ byte entry.length entry.class entry.number entry.table prefix back known.length.0 known.class.0 known.class.1 known.number.0 known.number.1 known.table i.held;
    }

pub returns-clause-kept : goal.returns-clause-kept
returns-clause-kept c = Held-all _ _ c.args.body.now c.loop-rest.rest.now c.in_default.len_below c.loop-rest.invariant.held
