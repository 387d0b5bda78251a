-- Steps: what `Get` does with events (own).
use Rattle.std.specs.Prelude.{◌≡◌, ℕ, Bool, List, [], ◌++◌, length, refl}
use Rattle.std.proofs.Common.{◌∙◌, append_assoc, sym, subst, append-nil}
use Rattle.bool_coder.specs.DecoderSeen.{Reads}
use Rattle.adapt_bins.specs.Events.{bools_of}
use Rattle.adapt_bins.specs.CountedBins.{HasCounted}
use Rattle.adapt_bins.specs.declared.get.Get.{Get}

-- the bins have counted these events, and the decoder has read them from the bytes
pub record HasGot (s : Get) (bytes : List ℕ) (events : List (ℕ × Bool)) : Type 0 where
  pub bins : HasCounted s.bins events
  pub source : s.decoder.bytes ≡ bytes
  pub reads : Reads (bools_of events) s.decoder

-- the same number of bins has continued by these events, with the same bytes
pub record GetsEvents (s : Get) (events : List (ℕ × Bool)) (t : Get) : Type 0 where
  pub room : length t.bins ≡ length s.bins
  pub on : (bytes : List ℕ) (earlier : List (ℕ × Bool))
      → HasGot s bytes earlier → HasGot t bytes (earlier ++ events)

-- no events leave everything as it was
pub gets_none : (s : Get) → GetsEvents s [] s
gets_none s = record {
  room = refl;
  on = λ bytes earlier has. subst (HasGot s bytes) (sym (append-nil earlier)) has;
}

-- events after events
pub gets_joined : (s t u : Get) (es fs : List (ℕ × Bool))
    → GetsEvents s es t → GetsEvents t fs u → GetsEvents s (es ++ fs) u
gets_joined s t u es fs p q = record {
  room = q.room ∙ p.room;
  on = λ bytes earlier has.
      let first = p.on bytes earlier has in
      subst (HasGot u bytes) (append_assoc earlier es fs) (q.on bytes (earlier ++ es) first);
}
