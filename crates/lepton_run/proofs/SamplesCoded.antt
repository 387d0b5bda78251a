-- A sample is encoded and decoded, and never refused.
use Rattle.std.proofs.Common.{◌≡◌, ℕ, ◌≤◌, ◌==◌, Bool, true, false, if◌then◌else◌, inl, inr, List, [], ◌∷◌, length, replicate, Option, Result, Ok, Err, refl, sym, ap, subst, ◌∙◌, arith}
use Rattle.outside_core.specs.Faults.{Never, Rose, no_faults}
use Rattle.jpeg_marker.specs.Plans.{PlanFields}
use Rattle.scan_spec.specs.Scans.{Mcu}
use Rattle.scan_spec.proofs.FilesOnce.{one_is_all}
use Rattle.box_format.specs.Parts.{BoxSeen}
use Rattle.box_format.specs.declared.refusal.BoxRefusal.{BoxRefusal}
use Rattle.box_format.specs.declared.version.Version.TheVariants.{Second, Fourth}
use Rattle.box_format.specs.Versions.{layout_of}
use Rattle.std.proofs.lemmas.Bool.{eqb-true}
use Rattle.container_spec.specs.ScansFiles.{IsContainerOf, FileRefusal, FileIsRefused, IsContainerOfFile, share_of}
use Rattle.container_spec.specs.Meanings.{Meaning, NoBox, Restored}
use Rattle.box_format.specs.Containers.{IsContainer}
use Rattle.box_format.specs.Checks.{IsRefused}
use Rattle.container_spec.specs.Portions.{StandsFor, scans_meaning}
use Rattle.container_spec.proofs.OneContainers.{accepted_is_not_refused, scans_are_several, several_is_not_one}
use Rattle.lepton_decode.specs.Ends.{Ends}
use Rattle.lepton_decode.specs.declared.error.DecodeError.{DecodeError}
use Rattle.lepton_decode.specs.declared.error.DecodeError.TheVariants.{WriteFault, Fault, PadSpelling, ChunkShort}
use Rattle.sample_jpeg.specs.SampleFile.{sample_mcus, sample_pads, end_of_image}
use Rattle.sample_jpeg.specs.SampleLaw.{IsSample}
use Rattle.sample_jpeg.specs.SampleHeader.{extent_of, sample_plan}
use Rattle.sample_jpeg.proofs.SampleLaws.{samples}
use Rattle.command_words.specs.declared.command.Command.TheVariants.{Sample}
use Rattle.lepton_run.specs.Answers.{Answers, Early, Late, Made}
use Rattle.lepton_run.specs.CommandEnds.{CarriedOut, SampleEnds}
use Rattle.lepton_run.specs.Samples.{IsSampleFile}
use Rattle.lepton_run.specs.Summaries.{IsSummary, sample_segments}
use Rattle.lepton_run.specs.declared.ending.Ending.{Ending}
use Rattle.lepton_run.specs.declared.ending.Ending.TheVariants.{Done, Refused, WordsRefused, ReadFailed, WriteFailed, NoMemory}
use Rattle.lepton_run.proofs.BothWays.{one_few}
use Rattle.container_spec.proofs.BoxesOnce.{stands_for_one}
use Rattle.container_spec.proofs.ScansRestored.{file_is_restored}

-- ---- encoding

-- what the law says of it
pub law_of : (file : List ℕ) (is : IsSampleFile file)
    → IsSample is.seed (extent_of is.seed is.columns is.rows) file
law_of file is =
    subst (λ (f : List ℕ). IsSample is.seed (extent_of is.seed is.columns is.rows) f) (sym is.is)
    (samples is.seed is.columns is.rows is.extent)

-- its plan, its MCUs and its pad bits
abbrev plan_of : (file : List ℕ) → IsSampleFile file → PlanFields
plan_of file is = sample_plan (extent_of is.seed is.columns is.rows)

abbrev mcus_of : (file : List ℕ) → IsSampleFile file → List Mcu
mcus_of file is = sample_mcus is.seed (extent_of is.seed is.columns is.rows)

abbrev pads_of : (file : List ℕ) → IsSampleFile file → List Bool
pads_of file is = sample_pads (extent_of is.seed is.columns is.rows)

-- it isn't refused
pub sample_is_taken : (file : List ℕ) (refusal : FileRefusal) → IsSampleFile file
    → FileIsRefused file refusal → ⊥
sample_is_taken file refusal is why =
    let law = law_of file is in
    accepted_is_not_refused file end_of_image
    (record { plan = plan_of file is; mcus = mcus_of file is; pads = pads_of file is } ∷ []) refusal
    law.bytes
    (one_is_all file end_of_image (plan_of file is) (mcus_of file is) (pads_of file is) law.bytes
    law.is) why

-- and has one scan
pub sample_has_one : (file made : List ℕ) → IsSampleFile file
    → IsContainerOfFile sample_segments made file
    → IsContainerOf Second (sample_segments ∷ []) made file
sample_has_one file made is (n, of) = by_count (n == 1) refl of where
  by_count : (b : Bool) → (n == 1) ≡ b
      → IsContainerOf (if b then Second else Fourth) (replicate n (share_of sample_segments n)) made file
      → IsContainerOf Second (sample_segments ∷ []) made file
  by_count true e of =
      subst (λ k. IsContainerOf Second (replicate k (share_of sample_segments k)) made file)
      (eqb-true n 1 e) of
  by_count false e of =
      let law = law_of file is in
      absurd (several_is_not_one file end_of_image (plan_of file is) (mcus_of file is) (pads_of file is)
      law.bytes (scans_are_several (replicate n (share_of sample_segments n)) made file of) law.is)

pub sample_fits : (file : List ℕ) → IsSampleFile file → length file ≤ 40000000
sample_fits file is = (law_of file is).short

-- ---- decoding

-- a container's meaning is its file
meaning_restored : (made file : List ℕ) (m : Meaning) → IsContainerOf Second (sample_segments ∷ []) made file
    → StandsFor made m → m ≡ record { bytes = file; verdict = Restored }
meaning_restored made file m of is =
    stands_for_one made m (record { bytes = file; verdict = Restored }) is
    (file_is_restored Second (sample_segments ∷ []) made file (omega arith, tt)
    (one_few sample_segments (layout_of Second).most (omega arith)) of)

pub box_is_taken : (made file : List ℕ) (refusal : BoxRefusal)
    → IsContainerOf Second (sample_segments ∷ []) made file → IsRefused made refusal → ⊥
box_is_taken made file refusal of why =
    let e = meaning_restored made file (record { bytes = []; verdict = NoBox refusal }) of
    (inl (refusal, why, refl)) in
    let verdicts : NoBox refusal ≡ Restored = ap (λ (m : Meaning). m.verdict) e in
    absurd cc

module _ {Sink : Type 0} (held : Sink → Option (List ℕ)) (takes : Sink → List ℕ → Type 0)
    (faults : Sink → ℕ) (full : Sink → Type 0) (old new : Sink) (made file : List ℕ) (scans : List BoxSeen)
    (of : IsContainerOf Second (sample_segments ∷ []) made file) (is : IsContainer scans made) where
  abbrev meaning : Meaning
  meaning = scans_meaning scans

  restored : meaning ≡ record { bytes = file; verdict = Restored }
  restored = meaning_restored made file meaning of (inr (scans, is, refl))

  -- as many bytes come back as the file has
  all_back : (written : ℕ) → Ends held takes faults full old new meaning (Ok written)
      → written ≡ length file
  all_back written ends = ends.1 ∙ ap (λ (m : Meaning). length m.bytes) restored

  -- and over a sink that never fails it ends so
  never_ends : (error : DecodeError) → (Rose faults full old new → ⊥)
      → Ends held takes faults full old new meaning (Err error) → ⊥
  never_ends (WriteFault written) calm ends = calm ends.rose
  never_ends (Fault fault) calm ends =
      let e = ap (λ (m : Meaning). m.verdict) restored in
      let f = ends.0 in
      absurd cc
  never_ends PadSpelling calm ends =
      let e = ap (λ (m : Meaning). m.verdict) restored in
      let f = ends.0 in
      absurd cc
  never_ends ChunkShort calm ends =
      let e = ap (λ (m : Meaning). m.verdict) restored in
      let f = ends.0 in
      absurd cc

-- the same of what the decoder answered
pub decoded_whole : {Sink : Type 0} (held : Sink → Option (List ℕ)) (takes : Sink → List ℕ → Type 0)
    (faults : Sink → ℕ) (full : Sink → Type 0) (old new : Sink) (made file : List ℕ)
    (scans : List BoxSeen) → IsContainerOf Second (sample_segments ∷ []) made file → IsContainer scans made
    → (result : Result ℕ DecodeError) (written : ℕ) → result ≡ Ok written
    → Ends held takes faults full old new (scans_meaning scans) result → written ≡ length file
decoded_whole held takes faults full old new made file scans of is result written ok ends =
    all_back held takes faults full old new made file scans of is written
    (subst (λ (r : Result ℕ DecodeError). Ends held takes faults full old new (scans_meaning scans) r)
    ok ends)

pub never_fails : {Sink : Type 0} (held : Sink → Option (List ℕ)) (takes : Sink → List ℕ → Type 0) (old new : Sink) (made file : List ℕ) (scans : List BoxSeen)
    → IsContainerOf Second (sample_segments ∷ []) made file → IsContainer scans made
    → (result : Result ℕ DecodeError) (error : DecodeError) → result ≡ Err error
    → Ends held takes no_faults Never old new (scans_meaning scans) result → ⊥
never_fails held takes old new made file scans of is result error err ends =
    never_ends held takes no_faults Never old new made file scans of is error
    (λ rose. elim rose [ inl higher ↦ omega (arith, higher) | inr at_end ↦ at_end ])
    (subst (λ (r : Result ℕ DecodeError). Ends held takes no_faults Never old new (scans_meaning scans)
    r) err ends)

-- ---- the ending

module _ {Sink : Type 0} (held : Sink → Option (List ℕ)) (faults : Sink → ℕ)
    (full : Sink → Type 0) (old new : Sink) (seed columns rows : ℕ) where
  pub answer_so : (summary : List ℕ) → IsSummary seed columns rows summary
      → Answers (Sample seed columns rows) [] (Made summary)
  answer_so summary is = inr (record { short = omega arith; are = tt; makes = is })

  -- `sample` ends in no other way
  pub sample_ends : (ending : Ending)
      → CarriedOut held faults full (Sample seed columns rows) [] old new ending → SampleEnds ending
  sample_ends Done ends = tt
  sample_ends (Refused refusal) (Made bytes, given, is) = absurd cc
  sample_ends (Refused refusal) (Early why, given, is) = refused given.answers
    where
      refused : Answers (Sample seed columns rows) [] (Early why) → ⊥
      refused (inl long) = omega (arith, long.0)
      refused (inr within) = within.makes
  sample_ends (Refused refusal) (Late written why, given, is) = refused given.answers
    where
      refused : Answers (Sample seed columns rows) [] (Late written why) → ⊥
      refused (inl long) = omega (arith, long.0)
      refused (inr within) = within.makes
  sample_ends WordsRefused (Made bytes, given, is) = absurd cc
  sample_ends WordsRefused (Early why, given, is) = absurd cc
  sample_ends WordsRefused (Late written why, given, is) = absurd cc
  sample_ends ReadFailed (Made bytes, given, is) = absurd cc
  sample_ends ReadFailed (Early why, given, is) = absurd cc
  sample_ends ReadFailed (Late written why, given, is) = absurd cc
  sample_ends WriteFailed ends = tt
  sample_ends (NoMemory short) ends = tt
