use Rattle.std.proofs.Common.{ℕ, List, sym, ◌∙◌, subst}
use Rattle.photo_blob.specs.Blobs.{IsBlobOf}
use Rattle.photo_store.proofs.ticket.show.Goals as goal

pub show_blob-requires : goal.show_blob-requires
show_blob-requires c = record {
  blob = subst (λ (b : List ℕ). (file : List ℕ) × IsBlobOf b file) (sym c.deref.ensures.value)
      c.ticket.invariant;
}

pub returns-in-Ok-clause-shown : goal.returns-in-Ok-clause-shown
returns-in-Ok-clause-shown c = λ file is.
    c.in-Ok.ensures.shown file
    (subst (λ (b : List ℕ). IsBlobOf b file) (sym (c.deref.ensures.value ∙ c.ticket.view_is)) is)
