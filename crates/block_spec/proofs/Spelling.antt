-- Events spell what is asked for, and what is told was spelled by the events that were given.
use Rattle.std.proofs.Common.{◌≡◌, ℕ, Bool, List, [], ◌∷◌, ◌++◌, refl, sym, ap, ◌∙◌, subst, append_assoc, append-nil}
use Rattle.bool_coder.specs.BoolStream.{opening}
use Rattle.bool_coder.specs.BoolReading.{IsReading}
use Rattle.bool_coder.proofs.BoolsTaken.{reading_push}
use Rattle.adapt_bins.specs.Events.{probability, bools_after, bools_of}
use Rattle.block_spec.specs.Asking.{Asked, Told, Ask, then_ask, Giver, told_by}
use Rattle.block_spec.specs.BlockReading.{bit_given}

-- bits, each in a bin
abbrev pub Events : Type 0
Events = List (ℕ × Bool)

-- what bytes give under the probabilities of events
abbrev pub AreRead : List ℕ → Events → Type 0
AreRead bytes events = IsReading bytes (bools_of events)

-- these events, each in the bin that is asked for, tell this value
abbrev pub Spells : {A : Type 0} → Asked A → Events → A → Type 0
Spells (Told x) [] y = x ≡ y
Spells (Told x) (e ∷ events) y = ⊥
Spells (Ask bin next) [] y = ⊥
Spells (Ask bin next) (e ∷ events) y = (e.0 ≡ bin) × Spells (next e.1) events y

-- each event's bit is the one given after those before
abbrev pub AreGiven : Giver → Events → Events → Type 0
AreGiven giver earlier [] = Unit {0}
AreGiven giver earlier (e ∷ events) =
    (e.1 ≡ giver earlier e.0) × AreGiven giver (earlier ++ e ∷ []) events

-- the events that a value was told by
pub record IsTold {A : Type 0} (giver : Giver) (asked : Asked A) (earlier : Events) : Type 0 where
  pub events : Events
  pub all : (told_by giver earlier asked).1 ≡ earlier ++ events
  pub spelled : Spells asked events (told_by giver earlier asked).0
  pub given : AreGiven giver earlier events

pub told_is_spelled : {A : Type 0} (giver : Giver) (asked : Asked A) (earlier : Events)
    → IsTold giver asked earlier
unfolding told_by
told_is_spelled giver (Told x) earlier =
    record { events = []; all = sym (append-nil earlier); spelled = refl; given = tt }
told_is_spelled giver (Ask bin next) earlier =
    let e : ℕ × Bool = (bin, giver earlier bin) in
    let more = told_is_spelled giver (next (giver earlier bin)) (earlier ++ e ∷ []) in
    record {
      events = e ∷ more.events;
      all = more.all ∙ append_assoc earlier (e ∷ []) more.events;
      spelled = (refl, more.spelled);
      given = (refl, more.given);
    }

-- what spells one thing and then another has a part for each
pub record InParts {A B : Type 0} (asked : Asked A) (more : A → Asked B) (events : Events) (y : B)
    : Type 0 where
  pub first : Events
  pub rest : Events
  pub value : A
  pub whole : events ≡ first ++ rest
  pub spelled : Spells asked first value
  pub then : Spells (more value) rest y

pub parted : {A B : Type 0} (asked : Asked A) (more : A → Asked B) (events : Events) (y : B)
    → Spells (then_ask asked more) events y → InParts asked more events y
parted (Told x) more events y s =
    record { first = []; rest = events; value = x; whole = refl; spelled = refl; then = s }
parted (Ask bin next) more [] y s = absurd s
parted (Ask bin next) more (e ∷ events) y s =
    let parts = parted (next e.1) more events y s.1 in
    record {
      first = e ∷ parts.first;
      rest = parts.rest;
      value = parts.value;
      whole = ap (λ (es : Events). e ∷ es) parts.whole;
      spelled = (s.0, parts.spelled);
      then = parts.then;
    }

-- what is told has no events more
pub told_last : {A : Type 0} (x y : A) (events : Events) → Spells (Told x) events y
    → (events ≡ []) × (x ≡ y)
told_last x y [] s = (refl, s)
told_last x y (e ∷ events) s = absurd s

-- an event more as a bool more
pub bools_more : (before earlier : Events) (e : ℕ × Bool)
    → bools_after before (earlier ++ e ∷ [])
    ≡ bools_after before earlier ++ (probability (before ++ earlier) e.0, e.1) ∷ []
bools_more before [] e =
    ap (λ (es : Events). (probability es e.0, e.1) ∷ []) (sym (append-nil before))
bools_more before (x ∷ earlier) e =
    ap (λ (bs : Events). (probability before x.0, x.1) ∷ bs)
    (bools_more (before ++ x ∷ []) earlier e
    ∙ ap (λ (es : Events). bools_after (before ++ x ∷ []) earlier ++ (probability es e.0, e.1) ∷ [])
    (append_assoc before (x ∷ []) earlier))

one_given : (bytes : List ℕ) (earlier : Events) (e : ℕ × Bool) → AreRead bytes earlier
    → e.1 ≡ bit_given bytes earlier e.0 → AreRead bytes (earlier ++ e ∷ [])
one_given bytes earlier e reading bit =
    subst (IsReading bytes) (sym (bools_more [] earlier e))
    (reading_push bytes opening (bools_of earlier) (probability earlier e.0) e.1 reading (sym bit))

-- events that bytes give one after another are read of them
pub given_are_read : (bytes : List ℕ) (earlier events : Events) → AreRead bytes earlier
    → AreGiven (bit_given bytes) earlier events → AreRead bytes (earlier ++ events)
given_are_read bytes earlier [] reading given =
    subst (AreRead bytes) (sym (append-nil earlier)) reading
given_are_read bytes earlier (e ∷ events) reading given =
    let more = one_given bytes earlier e reading given.0 in
    subst (AreRead bytes) (append_assoc earlier (e ∷ []) events)
    (given_are_read bytes (earlier ++ e ∷ []) events more given.1)
