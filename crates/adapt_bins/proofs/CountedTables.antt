-- A table of bins, and the bools of events, with one event more.
use Rattle.std.specs.Prelude.{◌≡◌, ℕ, ◌<◌, ◌==◌, Bool, true, false, if◌then◌else◌, List, [], ◌∷◌, ◌++◌, length, fold, get_or, set}
use Rattle.std.proofs.Common.{refl, sym, ◌∙◌, ap, append_assoc, arith}
use Rattle.std.proofs.lemmas.List.{get_or-set_same, get_or-set_other, length-set, append-nil}
use Rattle.std.proofs.lemmas.Bool.Decides.{nat_tests}
use Rattle.adapt_bins.specs.Counts.{Counts, unseen, counted, prob_of}
use Rattle.adapt_bins.specs.Events.{bits_in, counts_in, probability, bools_after, bools_of}
use Rattle.adapt_bins.specs.CountedBins.{HasCounted}

-- the counts from some on, after the bits of a bin
abbrev counts_from : Counts → ℕ → List (ℕ × Bool) → Counts
counts_from c bin es = fold counted c (bits_in bin es)

-- a bin counts an event more where the event is its own
counts_more : (bin : ℕ) (c : Counts) (es : List (ℕ × Bool)) (e : ℕ × Bool) → counts_from c bin (es ++ e ∷ [])
    ≡ (if e.0 == bin then counted (counts_from c bin es) e.1 else counts_from c bin es)
counts_more bin c [] e =
    elim (e.0 == bin) as (λ t. fold counted c (if t then e.1 ∷ [] else []) ≡ (if t then counted c e.1 else c))
    [ true ↦ refl | false ↦ refl ]
counts_more bin c (x ∷ es) e =
    let before : Bool → List (ℕ × Bool) → Counts =
    λ t ys. fold counted c (if t then x.1 ∷ bits_in bin ys else bits_in bin ys) in
    elim (x.0 == bin) as (λ t. before t (es ++ e ∷ [])
    ≡ (if e.0 == bin then counted (before t es) e.1 else before t es))
    [ true ↦ counts_more bin (counted c x.1) es e | false ↦ counts_more bin c es e ]

-- the bin of an event has counted it
here_more : (table : List Counts) (events : List (ℕ × Bool)) (bin : ℕ) (bit : Bool) → bin < length table
    → HasCounted table events
    → get_or (set table bin (counted (get_or table bin unseen) bit)) bin unseen ≡ counted (counts_in bin events) bit
here_more table events bin bit within has =
    get_or-set_same table bin (counted (get_or table bin unseen) bit) unseen within
    ∙ ap (λ c. counted c bit) (has.each bin within)

-- the table after one event more
pub counted_more : (table : List Counts) (events : List (ℕ × Bool)) (bin : ℕ) (bit : Bool) → bin < length table
    → HasCounted table events
    → HasCounted (set table bin (counted (get_or table bin unseen) bit)) (events ++ (bin, bit) ∷ [])
counted_more table events bin bit within has = record {
  each = λ b below.
      let among : b < length table = simp length-set at below in
      let new = counted (get_or table bin unseen) bit in
      rw (counts_more b unseen events (bin, bit))
      (elim (bin == b) as (λ t. bin == b ≡ t → get_or (set table bin new) b unseen
      ≡ (if t then counted (counts_in b events) bit else counts_in b events)) [
        | true ↦ λ e. let same : bin ≡ b = grind (arith, nat_tests) in
            rw (← same) (here_more table events bin bit within has)
        | false ↦ λ e. let other : b ≡ bin → ⊥ = λ same. let also : bin ≡ b = sym same in grind (arith, nat_tests) in
            get_or-set_other table bin b new unseen other ∙ has.each b among
      ] refl);
}

-- after earlier events, the bools of one event more
bools_more : (earlier es : List (ℕ × Bool)) (e : ℕ × Bool)
    → bools_after earlier (es ++ e ∷ []) ≡ bools_after earlier es ++ (probability (earlier ++ es) e.0, e.1) ∷ []
bools_more earlier [] e = rw append-nil refl
bools_more earlier (x ∷ es) e =
    ap (λ bs. (probability earlier x.0, x.1) ∷ bs) (bools_more (earlier ++ x ∷ []) es e ∙ rw append_assoc refl)

-- the bools of one event more
pub bools_push : (es : List (ℕ × Bool)) (e : ℕ × Bool)
    → bools_of (es ++ e ∷ []) ≡ bools_of es ++ (probability es e.0, e.1) ∷ []
bools_push es e = bools_more [] es e

-- the probability that a table gives is that of the events
pub probability_is : (table : List Counts) (events : List (ℕ × Bool)) (bin prob : ℕ) → bin < length table
    → HasCounted table events → prob ≡ prob_of (get_or table bin unseen) → prob ≡ probability events bin
probability_is table events bin prob within has is = is ∙ ap prob_of (has.each bin within)
