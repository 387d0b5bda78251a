-- What is indexed stands for the same file, and its ranges are the file's slices.
use Rattle.std.proofs.Common.{◌≡◌, ℕ, ◌<◌, ◌≤◌, true, false, inl, inr, List, [], ◌∷◌, length, take, refl, sym, ap, subst, ◌∙◌}
use Rattle.byte_window.specs.Slices.{slice}
use Rattle.jpeg_marker.specs.Plans.{PlanFields}
use Rattle.box_format.specs.Parts.{BoxParts}
use Rattle.box_format.specs.Single.{IsBox, IsBoxOf, box_bytes}
use Rattle.box_format.specs.Versions.{IsRead, indexable, layout_of, version_in}
use Rattle.box_format.specs.declared.version.Version.{Version}
use Rattle.box_format.specs.declared.version.Version.TheVariants.{First, Second, Third, Fourth, Fifth}
use Rattle.container_spec.specs.ScansFiles.{IsContainerOf}
use Rattle.container_spec.specs.Files.{parts_of_file}
use Rattle.container_spec.specs.Indexed.{indexed}
use Rattle.container_spec.specs.Meanings.{Verdict, Restored, PadSpelled, ChunkShort, Faulty, NoBox}
use Rattle.container_spec.specs.Portions.{scans_meaning, meaning_of}
use Rattle.container_spec.specs.RangeMeanings.{RangeMeaning}
use Rattle.container_spec.proofs.FileParts.{box_is}
use Rattle.box_format.proofs.Singles.{version_said}
use Rattle.container_spec.proofs.FilesAlone.{of_one}
use Rattle.container_spec.proofs.IndexedFiles.{indexed_is_container}
use Rattle.container_spec.proofs.BoxesOnce.{meant_alone}
use Rattle.container_spec.proofs.ScansRestored.{file_is_restored}
use Rattle.container_spec.proofs.ScansSizes.{container_is_short}
use Rattle.container_spec.proofs.RestoredRanges.{range_of_container_is_slice}
use Rattle.command_words.specs.declared.command.Command.TheVariants.{Encode, Decode, Index, Range}
use Rattle.lepton_run.specs.Answers.{Answers, IndexMakes, Made, answer_by, early, limit_of}
use Rattle.lepton_run.proofs.BothWays.{container_are, one_few}
use Rattle.lepton_run.proofs.ScansOfBytes.{box_are}
use Rattle.lepton_run.proofs.ChunksBack.{is_meant}
use Rattle.lepton_run.proofs.RangesCarried.{range_answer, good_answer}

-- a version that is indexed has whole files
pub whole_file : (version : Version) → IsRead indexable version
    → (layout_of version).chunked ≡ false
whole_file First read = refl
whole_file Second read = refl
whole_file Third read = absurd (let e : false ≡ true = read in cc)
whole_file Fourth read = absurd (let e : false ≡ true = read in cc)
whole_file Fifth read = refl

-- and one scan
pub one_scan_file : (version : Version) → IsRead indexable version
    → (layout_of version).several ≡ false
one_scan_file First read = refl
one_scan_file Second read = refl
one_scan_file Third read = refl
one_scan_file Fourth read = absurd (let e : false ≡ true = read in cc)
one_scan_file Fifth read = refl

-- a container that is indexed
pub record IsIndexed (bytes made : List ℕ) : Type 0 where
  pub plan : PlanFields
  pub parts : BoxParts
  pub of : IsBoxOf plan parts bytes
  pub read : IsRead indexable parts.version
  pub restored : (scans_meaning (record { plan = plan; parts = parts } ∷ [])).verdict ≡ Restored
  pub text : made ≡ box_bytes (indexed plan parts)

made_by : (made found : List ℕ) (verdict : Verdict) → Made made ≡ early (answer_by found verdict)
    → (verdict ≡ Restored) × (made ≡ found)
made_by made found Restored e = (refl, cc)
made_by made found PadSpelled e = absurd cc
made_by made found ChunkShort e = absurd cc
made_by made found (Faulty fault) e = absurd cc
made_by made found (NoBox refusal) e = absurd cc

pub is_indexed : (bytes made : List ℕ) → Answers Index bytes (Made made) → IsIndexed bytes made
is_indexed bytes made (inl long) = absurd (let e = long.1 in cc)
is_indexed bytes made (inr is) = go is.makes
  where
    go : IndexMakes bytes (Made made) → IsIndexed bytes made
    go (inl refused) = absurd (let e = refused.2 in cc)
    go (inr (plan, b, of, read, e)) =
        let so = made_by made (box_bytes (indexed plan b))
        (scans_meaning (record { plan = plan; parts = b } ∷ [])).verdict e in
        record { plan = plan; parts = b; of = of; read = read; restored = so.0; text = so.1 }

-- ---- the container of a file of version 5

-- its ranges are the file's slices
pub range_back : (most from to workers : ℕ) (made file : List ℕ) → 0 < most
    → most ≤ (layout_of Fifth).most → length made ≤ limit_of (Range from to workers)
    → IsContainerOf Fifth (most ∷ []) made file → from ≤ to → to ≤ length file
    → Answers (Range from to workers) made (Made (slice from to file))
range_back most from to workers made file some few short contained order within =
    let is = of_one Fifth most made file refl contained in
    let parts = parts_of_file Fifth is.plan is.mcus is.pads (take is.plan.header_length file) is.trailer
    most in
    let box : IsBox is.plan parts = box_is Fifth most made file some is few in
    let of : IsBoxOf is.plan parts made = record { box = box; one = refl; text = is.spelled } in
    let below = one_few most (layout_of Fifth).most few in
    let are = container_are Fifth (most ∷ []) made file (some, tt) below contained in
    let stands = sym (meant_alone is.plan parts made (record { bytes = file; verdict = Restored }) of
    (file_is_restored Fifth (most ∷ []) made file (some, tt) below contained)) in
    let range = range_of_container_is_slice is.plan parts file from to
    (record { box = box; fifth = refl; restored = stands }) order within in
    inr (record {
      short = short;
      are = are;
      makes = inr (
        is.plan,
        parts,
        of,
        refl,
        sym (good_answer from to is.plan parts range.0
            ∙ ap (λ (m : RangeMeaning). range_answer m.bytes m.fault) range.1),
      );
    })

-- and so they are within the limit of a file
pub range_within : (most from to workers : ℕ) (made file : List ℕ) → 0 < most
    → most ≤ (layout_of Fifth).most → length file ≤ limit_of (Encode most)
    → IsContainerOf Fifth (most ∷ []) made file → from ≤ to → to ≤ length file
    → Answers (Range from to workers) made (Made (slice from to file))
range_within most from to workers made file some few short is order within =
    range_back most from to workers made file some few
    (container_is_short Fifth (most ∷ []) made file (some, tt) (one_few most (layout_of Fifth).most few) is
    short) is order within

-- ---- what is indexed

-- a container of a file and the file's of version 5, of as many segments
pub record ArePlaced (bytes made file : List ℕ) : Type 0 where
  pub most : ℕ
  pub some : 0 < most
  pub few : most ≤ (layout_of Fifth).most
  pub before : IsContainerOf (version_in bytes) (most ∷ []) bytes file
  pub after : IsContainerOf Fifth (most ∷ []) made file

pub are_placed : (bytes made file : List ℕ) (plan : PlanFields) (b : BoxParts)
    → IsBoxOf plan b bytes → IsRead indexable b.version
    → meaning_of plan b ≡ record { bytes = file; verdict = Restored }
    → made ≡ box_bytes (indexed plan b) → ArePlaced bytes made file
are_placed bytes made file plan b of read stands text =
    let are = box_are plan b bytes of in
    let so = indexed_is_container plan b bytes file are (whole_file b.version read) of stands in
    let version : b.version ≡ version_in bytes = sym (ap version_in of.text ∙ version_said b.version (b ∷ [])) in
    record {
      most = so.0;
      some = so.1;
      few = so.2;
      before = subst (λ v. IsContainerOf v (so.0 ∷ []) bytes file) version so.3;
      after = subst (λ (m : List ℕ). IsContainerOf Fifth (so.0 ∷ []) m file) (sym text) so.4;
    }

-- by what decode and index make of it
pub both_made : (workers : ℕ) (bytes made file : List ℕ) → Answers (Decode workers) bytes (Made file)
    → Answers Index bytes (Made made) → ArePlaced bytes made file
both_made workers bytes made file decoded answers =
    let i = is_indexed bytes made answers in
    let stands = sym (meant_alone i.plan i.parts bytes (record { bytes = file; verdict = Restored }) i.of
    (is_meant workers bytes file decoded)) in
    are_placed bytes made file i.plan i.parts i.of i.read stands i.text

pub ranges_alone : (from to workers others : ℕ) (bytes file made : List ℕ)
    → Answers (Decode others) bytes (Made file) → Answers Index bytes (Made made)
    → length made ≤ limit_of Index → from ≤ to → to ≤ length file
    → Answers (Range from to workers) made (Made (slice from to file))
ranges_alone from to workers others bytes file made decoded answers short order within =
    let p = both_made others bytes made file decoded answers in
    range_back p.most from to workers made file p.some p.few short p.after order within

pub whole_again : (workers others : ℕ) (bytes file made : List ℕ)
    → Answers (Decode others) bytes (Made file) → Answers Index bytes (Made made)
    → length made ≤ limit_of Index → Answers (Decode workers) made (Made file)
whole_again workers others bytes file made decoded answers short =
    let p = both_made others bytes made file decoded answers in
    inr (record {
      short = short;
      are = container_are Fifth (p.most ∷ []) made file (p.some, tt)
          (one_few p.most (layout_of Fifth).most p.few) p.after;
      makes = (
        record { bytes = file; verdict = Restored },
        file_is_restored Fifth (p.most ∷ []) made file (p.some, tt)
            (one_few p.most (layout_of Fifth).most p.few) p.after,
        refl,
      );
    })

-- the answer to a container that stands for a file
pub indexed_answer : (bytes : List ℕ) (plan : PlanFields) (b : BoxParts) → IsBoxOf plan b bytes
    → length bytes ≤ limit_of Index → IsRead indexable b.version
    → (meaning_of plan b).verdict ≡ Restored
    → Answers Index bytes (Made (box_bytes (indexed plan b)))
indexed_answer bytes plan b of short read restored = inr (record {
  short = short;
  are = box_are plan b bytes of;
  makes = inr (
    plan,
    b,
    of,
    read,
    ap (λ (v : Verdict). early (answer_by (box_bytes (indexed plan b)) v))
        (sym restored),
  );
})
