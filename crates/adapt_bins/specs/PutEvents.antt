-- Steps: what `Put` and `PutLocal` do with events (own).
use Rattle.std.specs.Prelude.{◌≡◌, ℕ, Bool, List, [], ◌++◌, length, Some, refl}
use Rattle.std.proofs.Common.{◌∙◌, append_assoc, sym, ap, subst, append-nil}
use Rattle.bool_coder.specs.BoolStream.{coded}
use Rattle.adapt_bins.specs.Events.{bools_of}
use Rattle.adapt_bins.specs.CountedBins.{HasCounted}
use Rattle.adapt_bins.specs.declared.put.Put.{Put}
use Rattle.adapt_bins.specs.declared.put_local.PutLocal.{PutLocal}

-- the bins have counted these events, and the encoder has coded them
pub record HasPut (s : Put) (events : List (ℕ × Bool)) : Type 0 where
  pub bins : HasCounted s.bins.now events
  pub encoder : s.encoder.now ≡ Some (coded (bools_of events))

-- the same bins and encoder have continued by these events
pub record PutsEvents (s : Put) (events : List (ℕ × Bool)) (t : Put) : Type 0 where
  pub same_bins : t.bins.ghost_name ≡ s.bins.ghost_name
  pub same_encoder : t.encoder.ghost_name ≡ s.encoder.ghost_name
  pub room : length t.bins.now ≡ length s.bins.now
  pub on : (earlier : List (ℕ × Bool)) → HasPut s earlier → HasPut t (earlier ++ events)

-- no events leave everything as it was
pub puts_none : (s : Put) → PutsEvents s [] s
puts_none s = record {
  same_bins = refl;
  same_encoder = refl;
  room = refl;
  on = λ earlier has. subst (HasPut s) (sym (append-nil earlier)) has;
}

-- events after events
pub puts_joined : (s t u : Put) (es fs : List (ℕ × Bool))
    → PutsEvents s es t → PutsEvents t fs u → PutsEvents s (es ++ fs) u
puts_joined s t u es fs p q = record {
  same_bins = q.same_bins ∙ p.same_bins;
  same_encoder = q.same_encoder ∙ p.same_encoder;
  room = q.room ∙ p.room;
  on = λ earlier has.
      subst (HasPut u) (append_assoc earlier es fs) (q.on (earlier ++ es) (p.on earlier has));
}

-- owned bins have counted these events, and the owned encoder has coded them
pub record LocalHasPut (s : PutLocal) (events : List (ℕ × Bool)) : Type 0 where
  pub bins : HasCounted s.bins events
  pub encoder : s.encoder ≡ Some (coded (bools_of events))

-- the same number of owned bins and the owned encoder have continued by these events
pub record LocalPuts (s : PutLocal) (events : List (ℕ × Bool)) (t : PutLocal) : Type 0 where
  pub room : length t.bins ≡ length s.bins
  pub on : (earlier : List (ℕ × Bool))
      → LocalHasPut s earlier → LocalHasPut t (earlier ++ events)

-- no events leave everything as it was
pub local_none : (s : PutLocal) → LocalPuts s [] s
local_none s = record {
  room = refl;
  on = λ earlier has. subst (LocalHasPut s) (sym (append-nil earlier)) has;
}

-- events after events
pub local_joined : (s t u : PutLocal) (es fs : List (ℕ × Bool))
    → LocalPuts s es t → LocalPuts t fs u → LocalPuts s (es ++ fs) u
local_joined s t u es fs p q = record {
  room = q.room ∙ p.room;
  on = λ earlier has.
      subst (LocalHasPut u) (append_assoc earlier es fs) (q.on (earlier ++ es) (p.on earlier has));
}

-- bins and encoder of s are moved out, which leaves m
pub record MovesOut (s m : Put) (local : PutLocal) : Type 0 where
  pub bins : local.bins ≡ s.bins.now
  pub encoder : local.encoder ≡ s.encoder.now
  pub same_bins : m.bins.ghost_name ≡ s.bins.ghost_name
  pub same_encoder : m.encoder.ghost_name ≡ s.encoder.ghost_name

-- they put events; moved back into m they make t
pub puts_moved : (s m t : Put) (from to : PutLocal) (es : List (ℕ × Bool))
    → MovesOut s m from → LocalPuts from es to
    → t.bins.now ≡ to.bins → t.encoder.now ≡ to.encoder
    → t.bins.ghost_name ≡ m.bins.ghost_name → t.encoder.ghost_name ≡ m.encoder.ghost_name
    → PutsEvents s es t
puts_moved s m t from to es out puts back back' loans loans' = record {
  same_bins = loans ∙ out.same_bins;
  same_encoder = loans' ∙ out.same_encoder;
  room = ap length back ∙ puts.room ∙ ap length out.bins;
  on = λ earlier has.
      let first : LocalHasPut from earlier = record {
        bins = subst (λ table. HasCounted table earlier) (sym out.bins) has.bins;
        encoder = out.encoder ∙ has.encoder;
      } in
      let last = puts.on earlier first in
      record {
        bins = subst (λ table. HasCounted table (earlier ++ es)) (sym back) last.bins;
        encoder = back' ∙ last.encoder;
      };
}
