use Rattle.std.proofs.Common.{length, sym, ap, ◌∙◌, subst, length-set}
use Rattle.std.proofs.lemmas.List.{length-replicate}
use Rattle.bit_list.specs.Bits.{low_bits}
use Rattle.scan_decode.specs.ReadWords.{AreReads, Reads, blank_read}
use Rattle.scan_decode.proofs.WordLists.{set_word, one_word}
use Rattle.scan_decode.proofs.TenBits.{no_read, reads_nothing}
use Rattle.scan_decode.proofs.read_word.read_words.Goals as goal

pub loop-index-init : goal.loop-index-init
loop-index-init c =
    let items = c.in_ok-words.ensures.items in
    let table = c.args.codes.now in
    record {
      size = ap length items ∙ length-replicate 1024 no_read;
      reads = subst (AreReads table) (sym items) (one_word (λ k w. Reads table (low_bits 10 k) w) blank_read 1024 no_read (λ k. reads_nothing table (low_bits 10 k)));
    }

pub loop-index-preserved : goal.loop-index-preserved
loop-index-preserved c =
    let l = c.loop-index in
    let word = c.read_word.result in
    record {
      size = length-set l.words.items l.index word ∙ l.invariant.size;
      reads = set_word (λ k w. Reads c.args.codes.now (low_bits 10 k) w) blank_read l.words.items l.index word l.invariant.reads c.read_word.ensures;
    }
