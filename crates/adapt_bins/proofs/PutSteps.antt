-- `PutLocal` after one event more.
use Rattle.std.specs.Prelude.{◌≡◌, ◌<◌, get_or, set, ℕ, Bool, List, [], ◌∷◌, ◌++◌, length, Option, Some, refl, fold}
use Rattle.std.specs.Option.{option_map}
use Rattle.std.proofs.Common.{◌∙◌, sym, ap}
use Rattle.bool_coder.specs.BoolStream.{Interval, coded, opening, after}
use Rattle.adapt_bins.specs.Counts.{unseen, counted, prob_of}
use Rattle.adapt_bins.specs.Events.{bools_of, probability}
use Rattle.adapt_bins.specs.PutEvents.{LocalHasPut}
use Rattle.adapt_bins.specs.declared.put_local.PutLocal.{PutLocal}
use Rattle.adapt_bins.proofs.CountedTables.{counted_more, bools_push, probability_is}

-- the interval after one bool more
coded_push : (i : Interval) (es : List (ℕ × Bool)) (e : ℕ × Bool)
    → fold after i (es ++ e ∷ []) ≡ after (fold after i es) e
coded_push i [] e = refl
coded_push i (x ∷ es) e = coded_push (after i x) es e

-- the interval after one event more
interval_more : (events : List (ℕ × Bool)) (bin prob : ℕ) (bit : Bool) → prob ≡ probability events bin
    → after (coded (bools_of events)) (prob, bit) ≡ coded (bools_of (events ++ (bin, bit) ∷ []))
interval_more events bin prob bit is =
    rw (bools_push events (bin, bit), is) (sym (coded_push opening (bools_of events) (probability events bin, bit)))

-- what an encoder has coded after one event more
encoder_more : (old new : Option Interval) (events : List (ℕ × Bool)) (bin prob : ℕ) (bit : Bool) → prob ≡ probability events bin
    → new ≡ option_map (λ i. after i (prob, bit)) old → old ≡ Some (coded (bools_of events))
    → new ≡ Some (coded (bools_of (events ++ (bin, bit) ∷ [])))
encoder_more old new events bin prob bit is goes was =
    goes ∙ ap (option_map (λ i. after i (prob, bit))) was ∙ ap Some (interval_more events bin prob bit is)

-- bins and an encoder after a bool of the bin's probability, whose bit is counted
pub local_one_more : (s t : PutLocal) (events : List (ℕ × Bool)) (bin prob : ℕ) (bit : Bool) → bin < length s.bins
    → prob ≡ prob_of (get_or s.bins bin unseen)
    → t.bins ≡ set s.bins bin (counted (get_or s.bins bin unseen) bit)
    → t.encoder ≡ option_map (λ i. after i (prob, bit)) s.encoder
    → LocalHasPut s events → LocalHasPut t (events ++ (bin, bit) ∷ [])
local_one_more s t events bin prob bit within is bins encoder has =
    let p = probability_is s.bins events bin prob within has.bins is in
    record {
      bins = rw bins (counted_more s.bins events bin bit within has.bins);
      encoder = encoder_more s.encoder t.encoder events bin prob bit p encoder has.encoder;
    }
