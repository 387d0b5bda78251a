use Rattle.std.proofs.Common.{◌≡◌, ℕ, ◌<◌, List, length, sym, ap, ◌∙◌, subst, arith}
use Rattle.blob_store.specs.declared.record.Record.{Record}
use Rattle.blob_store.specs.States.{StoreState}
use Rattle.blob_store.specs.Journals.{kept}
use Rattle.blob_store.proofs.JournalLaws.{kept_same}
use Rattle.blob_store.proofs.shelf.Shelf.add.Goals as goal

pub invariant_of-self : goal.invariant_of-self
invariant_of-self g c =
    let was = c.self.invariant in
    let room : length c.self.inside.journal.items < c.self.inside.limit =
    subst (λ (s : StoreState). length s.journal < s.limit) (sym c.self.view_is) c.requires.room in
    let len = c.push_reserved.ensures.len in
    let capacity = c.push_reserved.ensures.capacity in
    let few = was.3 in
    let wide = was.5 in
    let same : (key : List ℕ) → kept c.push_reserved.new.self.items key ≡ kept c.self.inside.journal.items key =
    λ key. ap (λ (l : List Record). kept l key) c.push_reserved.ensures.items
    ∙ kept_same c.self.inside.journal.items c.args.entry c.requires.leaves key in (
      (λ key. was.0 key ∙ sym (same key)),
      (λ key number e. was.1 key number (sym (same key) ∙ e)),
      was.2,
      omega (arith, room, len, capacity),
      omega (arith, room, len, capacity),
      omega (arith, room, len, capacity),
    )
