use Rattle.std.proofs.Common.{◌<◌, List, None, length, sym, ap, ◌∙◌, subst, refl, arith}
use Rattle.blob_store.specs.declared.record.Record.{Record}
use Rattle.blob_store.specs.declared.record.Call.TheVariants.{Remove}
use Rattle.blob_store.specs.declared.record.Reply.TheVariants.{Removed}
use Rattle.blob_store.specs.States.{StoreState}
use Rattle.blob_store.specs.Journals.{kept}
use Rattle.blob_store.proofs.ShelfKept.{agrees, below_removed}
use Rattle.blob_store.proofs.shelf.Shelf.remove_kept.Goals as goal

pub invariant_of-self : goal.invariant_of-self
invariant_of-self g c =
    let was = c.self.invariant in
    let room : length c.self.inside.journal.items < c.self.inside.limit =
    subst (λ (s : StoreState). length s.journal < s.limit) (sym c.self.view_is) c.requires.room in
    let r : Record =
    record { caller = c.args.caller; call = Remove; key = c.args.key; reply = Removed } in
    let items = c.push_reserved.ensures.items in
    let len = c.push_reserved.ensures.len in
    let capacity = c.push_reserved.ensures.capacity in
    let few = was.3 in
    let wide = was.5 in (
      (λ key. agrees c.self.inside.map c.remove.new.self c.self.inside.journal.items r None c.remove.ensures.updates was.0 (λ now. refl) key
          ∙ ap (λ (l : List Record). kept l key) (sym items)),
      (λ key number e. below_removed c.self.inside.journal.items r (length (g.P.Keeper.blobs c.self.inside.keeper)) refl was.1 key number
          (ap (λ (l : List Record). kept l key) (sym items) ∙ e)),
      was.2,
      omega (arith, room, len, capacity),
      omega (arith, room, len, capacity),
      omega (arith, room, len, capacity),
    )
