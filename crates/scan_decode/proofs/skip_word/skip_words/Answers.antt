use Rattle.std.proofs.Common.{length, sym, ap, ◌∙◌, subst, length-set}
use Rattle.std.proofs.lemmas.List.{length-replicate}
use Rattle.scan_decode.specs.SkipWords.{AreSkips}
use Rattle.scan_decode.proofs.SkipReading.{no_skip, no_skips, set_skips}
use Rattle.scan_decode.proofs.skip_word.skip_words.Goals as goal

pub loop-index-init : goal.loop-index-init
loop-index-init c =
    let items = c.in_ok-words.ensures.items in
    record {
      size = ap length items ∙ length-replicate 4096 no_skip;
      skips = subst (AreSkips c.args.codes.now) (sym items) (no_skips c.args.codes.now 4096);
    }

pub loop-index-preserved : goal.loop-index-preserved
loop-index-preserved c =
    let l = c.loop-index in
    let word = c.longest.result in
    record {
      size = length-set l.words.items l.index word ∙ l.invariant.size;
      skips = set_skips c.args.codes.now l.words.items l.index word l.invariant.skips c.longest.ensures;
    }
