use Rattle.std.proofs.Common.{rules, ◌≡◌, ◌∷◌, ◌∙◌, length, sym, subst}
use Rattle.std.specs.Prelude.{vec_len}
use Rattle.std.specs.Vec.{with_items}
use Rattle.std.specs.List.{All}
use Rattle.std.proofs.lemmas.List.{with_items_is}
use Rattle.std.proofs.lemmas.List.Elements.{All-head, All-nil, All-rest}
use Rattle.scan_decode.specs.Excerpts.{IsExcerpt, ScoutFields}
use Rattle.segment_encode.specs.Scouting.{new_scout}
use Rattle.segment_encode.proofs.ScoutsBack.{IsScoutOf, all_back, found_more}
use Rattle.segment_encode.proofs.scouts.excerpts_by.Goals as goal

pub loop-scout-init : goal.loop-scout-init
loop-scout-init g c =
    let shape = c.args.tables.now in
    let bytes = c.args.bytes.now in
    let news = c.perform_all.new.tasks in
    let long : length news ≡ vec_len c.in_ok-scouts.scouts = search rules in
    let back : c.into_iter-scout-iterator.result.rest.items ≡ (with_items c.in_ok-scouts.scouts news).items =
    c.into_iter-scout-iterator.ensures.into_iter_gives.0 in
    let all = back ∙ with_items_is c.in_ok-scouts.scouts news long in
    let new = subst (All (λ (s : ScoutFields). s ≡ new_scout shape bytes)) (sym c.as_mut_slice.ensures.value)
    c.in_ok-scouts.ensures in
    record {
      left = subst (All (IsScoutOf shape bytes)) (sym all)
          (all_back shape bytes c.as_mut_slice.result.now news c.perform_all.ensures.count
          c.perform_all.ensures.done new);
      found = subst (All (IsExcerpt shape bytes)) (sym c.in_ok-excerpts.ensures.items)
          (All-nil (IsExcerpt shape bytes));
    }

pub loop-scout-preserved : goal.loop-scout-preserved
loop-scout-preserved g c =
    let shape = c.args.tables.now in
    let bytes = c.args.bytes.now in
    let before = c.loop-scout.invariant in
    let all = c.loop-scout.scout-iterator.rest.items in
    let next = c.next.new.self.rest.items in
    let front : all ≡ c.in-Some.scout ∷ next = search rules in
    record {
      left = All-rest (IsScoutOf shape bytes) c.in-Some.scout next all front before.left;
      found = found_more shape bytes c.in-Some.scout c.loop-scout.excerpts.items c.into_excerpts.result.items
          c.append.new.list.items
          (All-head (IsScoutOf shape bytes) c.in-Some.scout next
          (subst (All (IsScoutOf shape bytes)) front before.left))
          c.into_excerpts.ensures.are before.found c.in_ok-append.ensures;
    }
