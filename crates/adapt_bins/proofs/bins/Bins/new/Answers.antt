use Rattle.std.proofs.Common.{◌≡◌, ℕ, List, ◌+◌, ◌++◌, ◌∙◌, ap, ap₂, sym, take, replicate, length, arith}
use Rattle.std.proofs.lemmas.List.{take-replicate, replicate-append-replicate, length-replicate}
use Rattle.adapt_bins.specs.Counts.{Counts, unseen}
use Rattle.adapt_bins.proofs.bins.Bins.new.Goals as goal

pub loop-fresh-preserved : goal.loop-fresh-preserved
loop-fresh-preserved c =
    let before = c.loop-fresh.table.len in
    let more = c.min-more.result in
    let grown = c.in_ok-extend_from_slice.ensures in
    let part : take more (replicate 512 c.new-fresh.result) ≡ replicate more unseen =
    take-replicate more 512 _ (omega (arith, c.min-more.ensures)) ∙ ap (λ (x : Counts). replicate more x) c.new-fresh.ensures in
    let many : length (take more (replicate 512 c.new-fresh.result)) ≡ more = ap length part ∙ length-replicate more unseen in
    let len : c.extend_from_slice.new.list.len ≡ before + more = grown.len ∙ ap (λ (n : ℕ). before + n) many in
    record {
      few = omega (arith, len, c.min-more.ensures, c.loop-fresh-test.true, c.len.ensures, c.len-in-loop-fresh.ensures);
      fresh = grown.items ∙ ap₂ (λ (xs ys : List Counts). xs ++ ys) c.loop-fresh.invariant.fresh part
          ∙ replicate-append-replicate before more unseen ∙ ap (λ (n : ℕ). replicate n unseen) (sym len);
    }
