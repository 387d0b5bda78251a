use Rattle.std.proofs.Common.{rules, ◌≡◌, ◌∷◌, sym, subst}
use Rattle.std.specs.Prelude.{All}
use Rattle.std.proofs.lemmas.List.Elements.{All-push}
use Rattle.store_bench.proofs.NewCallers.{head_is, tail_is}
use Rattle.store_bench.proofs.tasks_of.Goals as goal

pub loop-caller-preserved : goal.loop-caller-preserved
loop-caller-preserved c =
    let before = c.loop-caller.invariant in
    let next : c.loop-caller.caller-iterator.rest.items ≡ c.in-Some.caller ∷ c.next.new.self.rest.items =
    search rules in
    let left = subst (All (λ caller. caller.table ≡ c.args.store.now)) next before.left in
    record {
      made = subst (All (λ task. task.caller.table ≡ c.args.store.now)) (sym c.in_ok-push.ensures.items)
          (All-push (λ task. task.caller.table ≡ c.args.store.now) c.loop-caller.tasks.items _ before.made
          (head_is (λ caller. caller.table ≡ c.args.store.now) c.in-Some.caller c.next.new.self.rest.items left));
      left = tail_is (λ caller. caller.table ≡ c.args.store.now) c.in-Some.caller c.next.new.self.rest.items left;
    }
