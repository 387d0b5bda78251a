use Rattle.std.proofs.Common.{ℕ, List, sym, ap, ◌∙◌, subst}
use Rattle.std.specs.Prelude.{is_ok}
use Rattle.bit_list.specs.Units.{Reading}
use Rattle.scan_decode.specs.ScoutInside.{IsScout}
use Rattle.scan_decode.specs.Excerpts.{AreAnywhere, IsExcerpt}
use Rattle.scan_decode.specs.declared.scout.Scout.TheInside.{Inside}
use Rattle.scan_decode.proofs.ExcerptReading.{pushed}
use Rattle.scan_decode.proofs.scout.Scout.run.Goals.{in-Some, in-None}
use Rattle.scan_decode.proofs.scout.Scout.run.Goals as goal

pub loop-preserved : goal.loop-preserved
loop-preserved c =
    let o = c.loop.self-inside in
    let i = c.loop.invariant in
    let kept = i.is in
    elim c.match-changed.branch [
      | in-Some w ↦
          let change = w.in-Some.change in
          let from = c.copied-from.ensures in
          let to = w.copied.ensures in
          let same = w.in-Some.ensures.bytes ∙ kept.bytes in
          let excerpt : IsExcerpt o.tables.now o.bytes.now (record { from = c.copied-from.result; to = w.copied.result; change = change; mcus = o.each }) = record {
            whole = kept.whole;
            from = ap (λ (r : Reading). r.bytes) from ∙ kept.bytes;
            to = ap (λ (r : Reading). r.bytes) to ∙ same;
            change = w.in-Some.ensures.change;
            are = subst (λ (bytes : List ℕ). AreAnywhere o.each o.tables.now bytes c.copied-from.result.cursor w.copied.result.cursor change) kept.bytes
                (subst (λ (r : Reading). AreAnywhere o.each o.tables.now o.input.bytes r.cursor w.copied.result.cursor change) (sym from)
                (subst (λ (r : Reading). AreAnywhere o.each o.tables.now o.input.bytes o.input.cursor r.cursor change) (sym to) w.in-Some.ensures.are));
          } in
          let all = pushed (IsExcerpt o.tables.now o.bytes.now) c.args.self.now.excerpts o.excerpts.items w.push.new.list.items i.more.0 _ (is_ok w.push.result) w.push.ensures.items i.more.1 kept.are excerpt in
          record {
            is = subst IsScout (sym w.self-inside-is) (record { whole = kept.whole; bytes = same; are = all.0 });
            shape = ap (λ (s : Inside). s.tables.now) w.self-inside-is ∙ i.shape;
            bytes = ap (λ (s : Inside). s.bytes.now) w.self-inside-is ∙ i.bytes;
            more = (all.1.0, ap (λ (s : Inside). s.excerpts.items) w.self-inside-is ∙ all.1.1);
          }
      | in-None w ↦
          record {
            is = subst IsScout (sym w.self-inside-is) (record { whole = kept.whole; bytes = ap (λ (r : Reading). r.bytes) w.at-self-inside.ensures; are = kept.are });
            shape = ap (λ (s : Inside). s.tables.now) w.self-inside-is ∙ i.shape;
            bytes = ap (λ (s : Inside). s.bytes.now) w.self-inside-is ∙ i.bytes;
            more = (i.more.0, ap (λ (s : Inside). s.excerpts.items) w.self-inside-is ∙ i.more.1);
          }
    ]
