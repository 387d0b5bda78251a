use Rattle.std.proofs.Common.{◌≡◌, ℕ, List, ◌+◌, ◌-◌, ◌++◌, ◌∙◌, ap, ap₂, sym, replicate, length, arith}
use Rattle.std.proofs.lemmas.List.{take-replicate, take_all, replicate-append-replicate, length-replicate}
use Rattle.std.proofs.lemmas.Slice.{take-put_mid}
use borrow.Rule.Slice.PartMut.{same_len_mid}
use Rattle.adapt_bins.specs.Counts.{Counts, unseen}
use Rattle.adapt_bins.proofs.bins.make_fresh.Goals as goal

pub loop-done-preserved : goal.loop-done-preserved
loop-done-preserved c =
    let done = c.loop-done.done in
    let more = c.min-more.result in
    let table = c.loop-done.table in
    let new = c.copy_from_slice.new.self in
    let part : new ≡ replicate more unseen = c.copy_from_slice.ensures.after
    ∙ take-replicate more 512 _ (omega (arith, c.min-more.ensures)) ∙ ap (λ (x : Counts). replicate more x) c.new-fresh.ensures in
    let many : length new ≡ more = ap length part ∙ length-replicate more unseen in
    let long = same_len_mid done (done + more - done) table new c.copy_from_slice.ensures.len in
    record {
      within = omega (arith, long, c.min-more.ensures, c.loop-done-test.true);
      fresh = take-put_mid done (done + more - done) table new (done + more) (omega (arith, many)) c.loop-done.invariant.within
          ∙ ap₂ (λ (xs ys : List Counts). xs ++ ys) c.loop-done.invariant.fresh part
          ∙ replicate-append-replicate done more unseen;
    }

pub returns : goal.returns
returns c =
    let long : length c.loop-done.table ≡ c.loop-done.done =
    omega (arith, c.loop-done.invariant.within, c.loop-done-test.false) in
    sym (take_all c.loop-done.done c.loop-done.table (omega (arith, long))) ∙ c.loop-done.invariant.fresh
    ∙ ap (λ (n : ℕ). replicate n unseen) (sym long ∙ c.loop-done.auto.table)
