-- A run without a fault ends as its input says.
use Rattle.std.proofs.Common.{◌≡◌, ◌⊎◌, inl, inr, ℕ, List, [], ◌∷◌, ◌++◌, length, flat_map, Option, Some, None, ◌∙◌, subst, refl, append_assoc}
use Rattle.std.specs.Io.KnownBytes.{Consumes, IsAtEnd}
use Rattle.allocation.specs.declared.no_memory.NoMemory.{NoMemory as OutOfMemory}
use Rattle.photo_store.specs.FileStores.{FileCall}
use Rattle.store_run.specs.Records.{IsBad, record_bytes}
use Rattle.store_run.specs.RunEnds.{HasAnsweredAll}
use Rattle.store_run.specs.RecordLaws.{EndsBy, IsReading, RunsAsRead}
use Rattle.store_run.specs.declared.ending.Ending.{Ending}
use Rattle.store_run.specs.declared.ending.Ending.TheVariants.{Answered, BadRecord, ReadFailed, WriteFailed, NoMemory, KeeperFailed, Full}
use Rattle.store_run.proofs.OneReading.{one_reading}

-- of known bytes, what is left is known
record Left (now : Option (List ℕ)) (input bytes : List ℕ) : Type 0 where
  after : List ℕ
  known : now ≡ Some after
  is : input ≡ bytes ++ after

left_of : (now : Option (List ℕ)) (input bytes : List ℕ) → Consumes (Some input) now bytes
    → Left now input bytes
left_of None input bytes read = absurd read
left_of (Some after) input bytes read = record { after = after; known = refl; is = read }

module _ {Source Sink Keeper : Type 0} (left : Source → Option (List ℕ))
    (held : Sink → Option (List ℕ)) (source_faults : Source → ℕ) (source_full : Source → Type 0)
    (sink_faults : Sink → ℕ) (sink_full : Sink → Type 0) (keeper_faults : Keeper → ℕ) where
  module _ (old new : Source) (from to : Sink) (input : List ℕ) (records : List FileCall)
      (rest after : List ℕ) (expected : Ending) (known : left old ≡ Some input)
      (p : IsReading input records rest after expected) where
    what_is_left : (others : List FileCall) (end : List ℕ)
        → HasAnsweredAll left held old new from to others end
        → Left (left new) input (flat_map record_bytes others ++ end)
    what_is_left others end all = left_of (left new) input (flat_map record_bytes others ++ end)
        (subst (λ (o : Option (List ℕ)). Consumes o (left new) (flat_map record_bytes others ++ end))
        known all.read)

    as_read : (others : List FileCall) (end : List ℕ) (ending : Ending)
        → HasAnsweredAll left held old new from to others end
        → ((more : List ℕ) → left new ≡ Some more → EndsBy (length others) end more ending)
        → ((ending ≡ expected) × HasAnsweredAll left held old new from to records rest)
        ⊎ ((short : OutOfMemory) × (ending ≡ NoMemory short))
    as_read others end ending all ends =
        let now = what_is_left others end all in
        let q : IsReading input others end now.after ending = record {
          whole = all.whole;
          is = now.is ∙ append_assoc (flat_map record_bytes others) end now.after;
          ends = ends now.after now.known;
        } in
        let same = one_reading input others records end rest now.after after ending expected q p in
        inl (
          same.3,
          subst (λ (l : List ℕ). HasAnsweredAll left held old new from to records l) same.1
              (subst (λ (l : List FileCall). HasAnsweredAll left held old new from to l end) same.0 all),
        )

  pub runs_as_read : RunsAsRead left held source_faults source_full sink_faults sink_full keeper_faults
  runs_as_read old new from to given back input records rest after Answered expected e k p a b c =
      as_read old new from to input records rest after expected k p e.0 [] Answered e.1
      (λ more is. (refl, subst IsAtEnd is e.2, e.3))
  runs_as_read old new from to given back input records rest after BadRecord expected e k p a b c =
      as_read old new from to input records rest after expected k p e.0 e.1 BadRecord e.2
      (λ more is. (subst (IsBad e.1) is e.3, e.4))
  runs_as_read old new from to given back input records rest after Full expected e k p a b c =
      as_read old new from to input records rest after expected k p e.0 (e.1 ∷ []) Full e.2
      (λ more is. ((e.1, refl), e.3))
  runs_as_read old new from to given back input records rest after ReadFailed expected e k p a b c =
      absurd (a e.4)
  runs_as_read old new from to given back input records rest after WriteFailed expected e k p a b c =
      absurd (b e.1)
  runs_as_read old new from to given back input records rest after KeeperFailed expected e k p a b c =
      absurd (c e.4)
  runs_as_read old new from to given back input records rest after (NoMemory short) expected e k p a b c =
      inr (short, refl)
