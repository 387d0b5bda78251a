-- From how words ended to what the top call promises.
use Rattle.std.proofs.Common.{◌≡◌, ℕ, ◌<◌, ◌≤◌, ◌⊎◌, inl, inr, List, [], ◌∷◌, length, sum, Option, Some, refl, sym, ap, subst, ◌∙◌, arith}
use Rattle.std.specs.Io.KnownBytes.{Appends}
use Rattle.outside_core.specs.Faults.{Rose}
use Rattle.std.specs.List.{AllByRecursion}
use Rattle.jpeg_marker.specs.Plans.{PlanFields}
use Rattle.scan_spec.specs.FileParts.{FileScan, IsFile}
use Rattle.box_format.specs.Parts.{BoxParts, BoxSeen, migrated}
use Rattle.box_format.specs.Single.{IsBoxOf, box_bytes}
use Rattle.box_format.specs.Versions.{IsRead, indexable, layout_of, migratable, version_in}
use Rattle.box_format.specs.declared.version.Version.{Version}
use Rattle.box_format.specs.declared.version.Version.TheVariants.{Fifth, Third}
use Rattle.container_spec.specs.Chunks.{IsChunkOf, chunk_of}
use Rattle.byte_window.specs.Slices.{slice}
use Rattle.container_spec.specs.ScansFiles.{IsContainerOf, IsContainerOfFile}
use Rattle.container_spec.specs.Indexed.{indexed}
use Rattle.box_format.proofs.Singles.{alone, version_is_in, version_said}
use Rattle.container_spec.specs.Portions.{StandsFor, scans_meaning, meaning_of}
use Rattle.container_spec.specs.Meanings.{Meaning, Restored}
use Rattle.container_spec.proofs.MigratedMeanings.{migrated_means_the_same}
use Rattle.command_words.specs.Meaning.{Means}
use Rattle.command_words.specs.declared.command.Command.{Command}
use Rattle.command_words.specs.declared.command.Command.TheVariants.{Encode, Decode, Migrate, Index, Range}
use Rattle.lepton_run.specs.Answers.{Answer, Answers, AppendsPart, Early, IsInput, Late, Made, Took, Writes, bytes_of, limit_of, line_of}
use Rattle.lepton_run.specs.Endings.{ending_line, ending_of, status_at}
use Rattle.lepton_run.specs.CommandEnds.{Answered, Given, SampleEnds}
use Rattle.lepton_run.specs.declared.ending.Ending.{Ending}
use Rattle.lepton_run.specs.declared.ending.Ending.TheVariants.{Done, Refused, WordsRefused, ReadFailed, WriteFailed, NoMemory}
use Rattle.lepton_run.proofs.BothWays.{file_back}
use Rattle.lepton_run.proofs.ScansOfBytes.{box_are}
use Rattle.lepton_run.proofs.BytesTaken.{answer_had}
use Rattle.lepton_run.proofs.ChunksBack.{chunk_back}
use Rattle.lepton_run.proofs.FilesEncoded.{accepted_made}
use Rattle.lepton_run.proofs.OneAnswers.{one_answer}
use Rattle.lepton_run.proofs.RangesBack.{are_placed, indexed_answer, one_scan_file, range_within}
use Rattle.lepton_run.proofs.SameCommand.{same_command}

same_line : (answer : Answer) → ending_line (ending_of answer) ≡ line_of answer
same_line (Made bytes) = refl
same_line (Early refusal) = refl
same_line (Late bytes refusal) = refl

-- the answer to what was taken of the bytes that a source had is the answer to these
answer_to : (words : List (List ℕ)) (command other : Command) (had taken : List ℕ)
    (left rest : Option (List ℕ)) (given : Answer)
    → Means words command → Means words other → IsInput command left had
    → Took other left rest taken → Answers other taken given → Answers command had given
answer_to words command other had taken left rest given means meant is took so =
    let same = same_command words other command meant means in
    let input = subst (λ (k : Command). IsInput k left had) (sym same) is in
    subst (λ (k : Command). Answers k had given) same
    (answer_had other had taken left rest given input took so)

-- and they have one, whichever of them were taken
pub same_answer : (words : List (List ℕ)) (command other : Command) (had taken : List ℕ)
    (left rest : Option (List ℕ)) (answer given : Answer)
    → Means words command → Means words other → IsInput command left had
    → Took other left rest taken → Answers other taken given
    → Answers command had answer → given ≡ answer
same_answer words command other had taken left rest answer given means meant is took so wanted =
    one_answer command had given answer
    (answer_to words command other had taken left rest given means meant is took so) wanted

-- what ends well was made
made_at : (answer : Answer) → Done ≡ ending_of answer → (made : List ℕ) × (answer ≡ Made made)
made_at (Made bytes) e = (bytes, refl)
made_at (Early refusal) e = absurd cc
made_at (Late bytes refusal) e = absurd cc

module _ {Sink Source : Type 0} (held : Sink → Option (List ℕ)) (faults : Sink → ℕ)
    (full : Sink → Type 0) (left : Source → Option (List ℕ)) (failures : Source → ℕ)
    (lost : Source → Type 0) (words : List (List ℕ)) (source rest : Source) (old new : Sink)
    (Said : List ℕ → Type 0) where
  -- the words ended so
  abbrev Ends : Ending → Type 0
  Ends ending = Answered held faults full left failures lost words source rest old new ending

  -- bytes were taken, and this is the answer to them
  abbrev Answering : Ending → Type 0
  Answering ending =
      (command : Command) × (bytes : List ℕ) × (answer : Answer) × Means words command
      × Took command (left source) (left rest) bytes
      × Answers command bytes answer × (ending ≡ ending_of answer)
      × Appends (held old) (held new) (bytes_of answer) × (¬ Writes answer → new ≡ old)
      × Said (line_of answer)

  answering : (ending : Ending) (command : Command) (bytes : List ℕ)
      → Said (ending_line ending) → Means words command
      → Took command (left source) (left rest) bytes
      → ((answer : Answer) × Given held faults full command bytes answer old new
      × (ending ≡ ending_of answer)) → Answering ending
  answering ending command bytes said means took g = (
    command,
    bytes,
    g.0,
    means,
    took,
    g.1.answers,
    g.2,
    g.1.appended,
    g.1.kept,
    subst Said (ap ending_line g.2 ∙ same_line g.0) said,
  )

  pub answered_of : (ending : Ending) (status : ℕ) → status ≡ status_at ending → Ends ending
      → Said (ending_line ending) → status ≤ 1 → Answering ending
  answered_of Done status is ends said few =
      answering Done ends.0 ends.2.0 said ends.1 ends.2.1 ends.2.3
  answered_of (Refused refusal) status is ends said few =
      answering (Refused refusal) ends.0 ends.2.0 said ends.1 ends.2.1 ends.2.3
  answered_of WordsRefused status is ends said few = absurd (omega arith)
  answered_of ReadFailed status is ends said few = absurd (omega arith)
  answered_of WriteFailed status is ends said few = absurd (omega arith)
  answered_of (NoMemory short) status is ends said few = absurd (omega arith)

  -- a write of the answer's bytes failed
  abbrev Cutting : Type 0
  Cutting =
      (command : Command) × (bytes : List ℕ) × (answer : Answer) × Means words command
      × Took command (left source) (left rest) bytes
      × Answers command bytes answer × Writes answer
      × AppendsPart (held old) (held new) (bytes_of answer)

  pub cut_of : (ending : Ending) (status : ℕ) → status ≡ status_at ending → Ends ending
      → status ≡ 4 → Cutting
  cut_of Done status is ends four = absurd (omega arith)
  cut_of (Refused refusal) status is ends four = absurd (omega arith)
  cut_of WordsRefused status is ends four = absurd (omega arith)
  cut_of ReadFailed status is ends four = absurd (omega arith)
  cut_of WriteFailed status is ends four =
      let cut = ends.2.3 in (
        ends.0,
        ends.2.0,
        cut.0,
        ends.1,
        ends.2.1,
        cut.1.answers,
        cut.1.writes,
        cut.1.part,
      )
  cut_of (NoMemory short) status is ends four = absurd (omega arith)

  module _ (command : Command) (had : List ℕ) (answer : Answer) (means : Means words command)
      (is_left : IsInput command (left source) had) (wanted : Answers command had answer) where
    -- the answer was given
    abbrev Gave : Ending → Answer → Type 0
    Gave ending answer =
        (ending ≡ ending_of answer) × Appends (held old) (held new) (bytes_of answer)
        × Said (line_of answer)

    gave : (ending : Ending) → Answering ending → Gave ending answer
    gave ending a =
        subst (Gave ending)
        (same_answer words command a.0 had a.1 (left source) (left rest) answer a.2 means a.3
        is_left a.4 a.5 wanted)
        (a.6, a.7, a.9)

    pub complete_of : (ending : Ending) (status : ℕ) → status ≡ status_at ending → Ends ending
        → Said (ending_line ending) → ¬ Rose failures lost source rest
        → (Writes answer → ¬ Rose faults full old new) → Gave ending answer ⊎ (status ≡ 5)
    complete_of Done status is ends said calm still =
        inl (gave Done (answered_of Done status is ends said (omega (arith, is))))
    complete_of (Refused refusal) status is ends said calm still =
        inl (gave (Refused refusal) (answered_of (Refused refusal) status is ends said (omega (arith, is))))
    complete_of WordsRefused status is ends said calm still = absurd (ends.0 command means)
    complete_of ReadFailed status is ends said calm still = absurd (calm ends.2.0)
    complete_of WriteFailed status is ends said calm still =
        let cut = ends.2.3 in
        let same = same_answer words command ends.0 had ends.2.0 (left source) (left rest) answer
        cut.0 means ends.1 is_left ends.2.1 cut.1.answers wanted in
        absurd (still (subst Writes same cut.1.writes) cut.1.rose)
    complete_of (NoMemory short) status is ends said calm still = inr is

  -- nothing is made of bytes of which nothing can be
  pub outside_of : (ending : Ending) (status : ℕ) → status ≡ status_at ending → Ends ending
      → (command : Command) (had : List ℕ) → Means words command
      → ¬ Rose failures lost source rest → ¬ Rose faults full old new
      → IsInput command (left source) had → ((made : List ℕ) → ¬ Answers command had (Made made))
      → (status ≡ 1) ⊎ (status ≡ 5)
  outside_of Done status is ends command had means calm still all none =
      let given = ends.2.3 in
      let made = made_at given.0 given.2 in
      absurd (none made.0 (subst (Answers command had) made.1
      (answer_to words command ends.0 had ends.2.0 (left source) (left rest) given.0 means ends.1 all
      ends.2.1 given.1.answers)))
  outside_of (Refused refusal) status is ends command had means calm still all none = inl is
  outside_of WordsRefused status is ends command had means calm still all none =
      absurd (ends.0 command means)
  outside_of ReadFailed status is ends command had means calm still all none =
      absurd (calm ends.2.0)
  outside_of WriteFailed status is ends command had means calm still all none =
      absurd (still ends.2.3.1.rose)
  outside_of (NoMemory short) status is ends command had means calm still all none = inr is

  -- a file that is accepted is encoded
  pub accepted_of : (ending : Ending) (status : ℕ) → status ≡ status_at ending → Ends ending
      → (most : ℕ) (file : List ℕ) (scans : List FileScan) (trailer : List ℕ)
      → Means words (Encode most) → ¬ Rose failures lost source rest
      → ¬ Rose faults full old new → left source ≡ Some file
      → length file ≤ limit_of (Encode most) → IsFile file scans trailer
      → ((status ≡ 0) × (made : List ℕ) × IsContainerOfFile most made file
      × Appends (held old) (held new) made) ⊎ (status ≡ 5)
  accepted_of Done status is ends most file scans trailer means calm still had short accepted =
      let given = ends.2.3 in
      let made = accepted_made most file scans trailer given.0 short accepted
      (answer_to words (Encode most) ends.0 file ends.2.0 (left source) (left rest) given.0 means ends.1
      had ends.2.1 given.1.answers) in
      inl (
        is,
        made.0,
        made.2,
        subst (λ (a : Answer). Appends (held old) (held new) (bytes_of a)) made.1 given.1.appended,
      )
  accepted_of (Refused refusal) status is ends most file scans trailer means calm still had short
      accepted =
      let given = ends.2.3 in
      let made = accepted_made most file scans trailer given.0 short accepted
      (answer_to words (Encode most) ends.0 file ends.2.0 (left source) (left rest) given.0 means ends.1
      had ends.2.1 given.1.answers) in
      absurd (let e = given.2 ∙ ap ending_of made.1 in cc)
  accepted_of WordsRefused status is ends most file scans trailer means calm still had short
      accepted =
      absurd (ends.0 (Encode most) means)
  accepted_of ReadFailed status is ends most file scans trailer means calm still had short
      accepted =
      absurd (calm ends.2.0)
  accepted_of WriteFailed status is ends most file scans trailer means calm still had short
      accepted =
      absurd (still ends.2.3.1.rose)
  accepted_of (NoMemory short) status is ends most file scans trailer means calm still had few
      accepted =
      inr is

  pub back_of : (ending : Ending) (status : ℕ) → status ≡ status_at ending → Ends ending
      → Said (ending_line ending) → (version : Version) (workers most : ℕ) (mosts bytes file : List ℕ)
      → Means words (Decode workers) → ¬ Rose failures lost source rest
      → ¬ Rose faults full old new → left source ≡ Some bytes
      → length file ≤ limit_of (Encode most) → AllByRecursion (λ some. 0 < some) mosts
      → sum mosts ≤ (layout_of version).most → IsContainerOf version mosts bytes file
      → ((status ≡ 0) × Appends (held old) (held new) file) ⊎ (status ≡ 5)
  back_of ending status is ends said version workers most mosts bytes file means calm still had short
      some few of =
      elim (complete_of (Decode workers) bytes (Made file) means had
      (file_back version mosts most workers bytes file short some few of) ending status is ends said
      calm (λ _. still)) [
        | inl given ↦ inl (is ∙ ap status_at given.0, given.1)
        | inr five ↦ inr five
      ]

  pub chunk_back_of : (ending : Ending) (status : ℕ) → status ≡ status_at ending → Ends ending
      → Said (ending_line ending) → (workers most size index : ℕ) (bytes file : List ℕ)
      → Means words (Decode workers) → ¬ Rose failures lost source rest
      → ¬ Rose faults full old new → left source ≡ Some bytes
      → length file ≤ limit_of (Encode most) → 0 < most → most ≤ (layout_of Third).most
      → IsChunkOf most size index bytes file
      → ((status ≡ 0) × Appends (held old) (held new) (chunk_of file size index)) ⊎ (status ≡ 5)
  chunk_back_of ending status is ends said workers most size index bytes file means calm still had
      short some few of =
      elim (complete_of (Decode workers) bytes (Made (chunk_of file size index)) means had
      (chunk_back most size index workers bytes file some few short of) ending status is ends said
      calm (λ _. still)) [
        | inl given ↦ inl (is ∙ ap status_at given.0, given.1)
        | inr five ↦ inr five
      ]

  pub migrated_of : (ending : Ending) (status : ℕ) → status ≡ status_at ending → Ends ending
      → Said (ending_line ending) → (bytes : List ℕ) (plan : PlanFields) (b : BoxParts)
      (meaning : Meaning) → Means words Migrate
      → ¬ Rose failures lost source rest → ¬ Rose faults full old new
      → left source ≡ Some bytes → length bytes ≤ limit_of Migrate → IsBoxOf plan b bytes
      → IsRead migratable b.version → StandsFor bytes meaning
      → ((status ≡ 0) × StandsFor (box_bytes (migrated b)) meaning
      × Appends (held old) (held new) (box_bytes (migrated b))) ⊎ (status ≡ 5)
  migrated_of ending status is ends said bytes plan b meaning means calm still had short of
      whole stands =
      let are = box_are plan b bytes of in
      let made = box_bytes (migrated b) in
      elim (complete_of Migrate bytes (Made made) means had
      (inr (record { short = short; are = are; makes = inr (plan, b, of, whole, refl) })) ending status is
      ends said calm (λ _. still)) [
        | inl given ↦ inl (
          is ∙ ap status_at given.0,
          migrated_means_the_same plan b bytes meaning are whole of stands,
          given.1,
        )
        | inr five ↦ inr five
      ]

  -- an indexed container, by its parts
  indexed_by : (ending : Ending) (status : ℕ) → status ≡ status_at ending → Ends ending
      → Said (ending_line ending) → (bytes file : List ℕ) → Means words Index
      → ¬ Rose failures lost source rest → ¬ Rose faults full old new
      → left source ≡ Some bytes → length bytes ≤ limit_of Index
      → IsRead indexable (version_in bytes) → (plan : PlanFields) (b : BoxParts)
      → IsBoxOf plan b bytes → record { bytes = file; verdict = Restored } ≡ meaning_of plan b
      → ((status ≡ 0) × (most : ℕ) × (made : List ℕ)
      × IsContainerOf (version_in bytes) (most ∷ []) bytes file × IsContainerOf Fifth (most ∷ []) made file
      × Appends (held old) (held new) made) ⊎ (status ≡ 5)
  indexed_by ending status is ends said bytes file means calm still had short read plan b of e =
      let version : b.version ≡ version_in bytes = sym (ap version_in of.text ∙ version_said b.version (b ∷ [])) in
      let mine = subst (IsRead indexable) (sym version) read in
      let made = box_bytes (indexed plan b) in
      let placed = are_placed bytes made file plan b of mine (sym e) refl in
      elim (complete_of Index bytes (Made made) means had
      (indexed_answer bytes plan b of short mine (ap (λ (m : Meaning). m.verdict) (sym e))) ending
      status is ends said calm (λ _. still)) [
        | inl given ↦ inl (
          is ∙ ap status_at given.0,
          placed.most,
          made,
          placed.before,
          placed.after,
          given.1,
        )
        | inr five ↦ inr five
      ]

  pub indexed_of : (ending : Ending) (status : ℕ) → status ≡ status_at ending → Ends ending
      → Said (ending_line ending) → (bytes file : List ℕ) → Means words Index
      → ¬ Rose failures lost source rest → ¬ Rose faults full old new
      → left source ≡ Some bytes → length bytes ≤ limit_of Index
      → IsRead indexable (version_in bytes)
      → StandsFor bytes (record { bytes = file; verdict = Restored })
      → ((status ≡ 0) × (most : ℕ) × (made : List ℕ)
      × IsContainerOf (version_in bytes) (most ∷ []) bytes file × IsContainerOf Fifth (most ∷ []) made file
      × Appends (held old) (held new) made) ⊎ (status ≡ 5)
  indexed_of ending status is ends said bytes file means calm still had short read (inl refused) =
      absurd (let f = ap (λ (m : Meaning). m.verdict) refused.2 in cc)
  indexed_of ending status is ends said bytes file means calm still had short read
      (inr (scans, (v, of), e)) =
      let one = ap (λ (u : Version). (layout_of u).several) (sym (version_is_in v scans bytes of))
      ∙ one_scan_file (version_in bytes) read in
      let a = alone v scans bytes one of in
      let s : BoxSeen = a.0 in
      indexed_by ending status is ends said bytes file means calm still had short read s.plan s.parts
      a.2 (e ∙ ap scans_meaning a.1)

  pub range_back_of : (ending : Ending) (status : ℕ) → status ≡ status_at ending → Ends ending
      → Said (ending_line ending) → (workers most from to : ℕ) (bytes file : List ℕ)
      → Means words (Range from to workers) → ¬ Rose failures lost source rest
      → ¬ Rose faults full old new → left source ≡ Some bytes
      → length file ≤ limit_of (Encode most) → 0 < most → most ≤ (layout_of Fifth).most
      → IsContainerOf Fifth (most ∷ []) bytes file → from ≤ to → to ≤ length file
      → ((status ≡ 0) × Appends (held old) (held new) (slice from to file)) ⊎ (status ≡ 5)
  range_back_of ending status is ends said workers most from to bytes file means calm still had short
      some few of order within =
      elim (complete_of (Range from to workers) bytes (Made (slice from to file)) means had
      (range_within most from to workers bytes file some few short of order within) ending status is
      ends said calm (λ _. still)) [
        | inl given ↦ inl (is ∙ ap status_at given.0, given.1)
        | inr five ↦ inr five
      ]

-- the statuses of `sample`
pub sampled_of : (ending : Ending) (status : ℕ) → status ≡ status_at ending → SampleEnds ending
    → (status ≡ 0) ⊎ ((status ≡ 4) ⊎ (status ≡ 5))
sampled_of Done status is ends = inl is
sampled_of (Refused refusal) status is ends = absurd ends
sampled_of WordsRefused status is ends = absurd ends
sampled_of ReadFailed status is ends = absurd ends
sampled_of WriteFailed status is ends = inr (inl is)
sampled_of (NoMemory short) status is ends = inr (inr is)
