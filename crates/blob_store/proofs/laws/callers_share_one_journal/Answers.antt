use Rattle.std.proofs.Common.{◌∙◌, sym}
use Rattle.blob_store.proofs.OneJournal.{begins}
use Rattle.blob_store.proofs.laws.callers_share_one_journal.Goals as goal

pub returns : goal.returns
returns g c = λ store views i j v w h at_i at_j.
    let f = h.each i v at_i in
    let k = h.each j w at_j in (
      begins v.seen w.seen f.seen.0 k.seen.0 (sym f.seen.1 ∙ k.seen.1),
      begins v.blobs w.blobs f.blobs.0 k.blobs.0 (sym f.blobs.1 ∙ k.blobs.1),
      f.own,
    )
