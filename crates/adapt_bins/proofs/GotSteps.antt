-- `Get` after one event more.
use Rattle.std.specs.Prelude.{◌≡◌, ◌<◌, ℕ, Bool, List, [], ◌∷◌, ◌++◌, length, get_or, set}
use Rattle.std.proofs.Common.{◌∙◌, subst}
use Rattle.bool_coder.specs.DecoderSeen.{Reads}
use Rattle.adapt_bins.specs.Counts.{unseen, counted, prob_of}
use Rattle.adapt_bins.specs.Events.{bools_of}
use Rattle.adapt_bins.specs.GotEvents.{HasGot}
use Rattle.adapt_bins.specs.declared.get.Get.{Get}
use Rattle.adapt_bins.proofs.CountedTables.{counted_more, bools_push, probability_is}

-- a bool of the bin's probability, and its bit counted
pub has_got_one_more : (s t : Get) (bytes : List ℕ) (events : List (ℕ × Bool)) (bin prob : ℕ) (bit : Bool)
    → bin < length s.bins → prob ≡ prob_of (get_or s.bins bin unseen)
    → t.bins ≡ set s.bins bin (counted (get_or s.bins bin unseen) bit) → t.decoder.bytes ≡ s.decoder.bytes
    → ((bools : List (ℕ × Bool)) → Reads bools s.decoder → Reads (bools ++ (prob, bit) ∷ []) t.decoder)
    → HasGot s bytes events → HasGot t bytes (events ++ (bin, bit) ∷ [])
has_got_one_more s t bytes events bin prob bit within is bins same taken has =
    let p = probability_is s.bins events bin prob within has.bins is in
    let reads = taken (bools_of events) has.reads in
    record {
      bins = rw bins (counted_more s.bins events bin bit within has.bins);
      source = same ∙ has.source;
      reads = rw (bools_push events (bin, bit))
          (subst (λ (k : ℕ). Reads (bools_of events ++ (k, bit) ∷ []) t.decoder) p reads);
    }
