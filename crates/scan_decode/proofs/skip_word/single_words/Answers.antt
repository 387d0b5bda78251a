use Rattle.std.proofs.Common.{length, sym, ap, ◌∙◌, subst}
use Rattle.std.proofs.lemmas.List.{length-replicate}
use Rattle.scan_decode.specs.SkipWords.{AreSkips}
use Rattle.scan_decode.proofs.SkipReading.{no_skip, no_skips}
use Rattle.scan_decode.proofs.skip_word.single_words.Goals as goal

pub loop-symbol-init : goal.loop-symbol-init
loop-symbol-init c =
    let items = c.in_ok-words.ensures.items in
    record {
      size = ap length items ∙ length-replicate 4096 no_skip;
      skips = subst (AreSkips c.args.codes.now) (sym items) (no_skips c.args.codes.now 4096);
    }
