use Rattle.std.proofs.Common.{rules, ◌≡◌, ◌∷◌, ◌∙◌, sym, ap, subst}
use Rattle.std.specs.Prelude.{All}
use Rattle.std.proofs.lemmas.List.Elements.{All-head, All-push, All-rest}
use Rattle.blob_store.specs.Callers.{CallerValue}
use Rattle.store_examples.specs.declared.shared.Worker.{Worker}
use Rattle.store_examples.proofs.shared.workers_of.Goals as goal

pub loop-caller-preserved : goal.loop-caller-preserved
loop-caller-preserved c =
    let before = c.loop-caller.invariant in
    let next : c.loop-caller.caller-iterator.rest.items ≡ c.in-Some.caller ∷ c.next.new.self.rest.items =
    search rules in
    let Ours : CallerValue → Type 0 = λ caller. caller.table ≡ c.args.store.now in
    let Works : Worker → Type 0 = λ worker. worker.caller.table ≡ c.args.store.now in
    let own : c.in-Some.caller.table ≡ c.args.store.now =
    All-head Ours c.in-Some.caller c.next.new.self.rest.items (subst (All Ours) next before.1) in
    let is = ap (λ (caller : CallerValue). caller.table) c.worker_of-worker.ensures in (
      subst (All Works) (sym c.in_ok-push.ensures.items)
          (All-push Works c.loop-caller.workers.items c.worker_of-worker.result before.0 (is ∙ own)),
      All-rest Ours c.in-Some.caller c.next.new.self.rest.items c.loop-caller.caller-iterator.rest.items next
          before.1,
    )
