-- Ranges of what was encoded and indexed.
use Rattle.std.proofs.Common.{◌≡◌, ℕ, inl, inr, ◌-◌, ◌<◌, ◌≤◌, true, false, List, [], ◌∷◌, length, take, drop, Some, None, refl, sym, ap, subst, ◌∙◌, arith, length-drop, length-take}
use Rattle.std.specs.Prelude.{min, sum}
use Rattle.byte_window.specs.Slices.{slice}
use Rattle.byte_window.proofs.SliceParts.{slice_within}
use Rattle.jpeg_marker.specs.Plans.{PlanFields}
use Rattle.box_format.specs.Parts.{BoxParts}
use Rattle.box_format.specs.Single.{IsBox, IsBoxOf, box_bytes}
use Rattle.box_format.specs.Versions.{IsRead, indexable, layout_of, ranged}
use Rattle.box_format.specs.declared.version.Version.{Version}
use Rattle.box_format.specs.declared.version.Version.TheVariants.{First, Second, Third, Fourth, Fifth}
use Rattle.box_format.proofs.Lists.{sum_first}
use Rattle.box_format.proofs.Singles.{box_or_refused}
use Rattle.box_format.proofs.SingleBytes.{no_chunk}
use Rattle.box_format.proofs.Layouts.{most_more}
use Rattle.container_spec.specs.ScansFiles.{IsContainerOf}
use Rattle.container_spec.proofs.ScanContainers.{IsContainerOfOne}
use Rattle.container_spec.specs.Files.{parts_of_file}
use Rattle.container_spec.specs.Indexed.{indexed}
use Rattle.container_spec.specs.Limits.{most_of_a_container}
use Rattle.container_spec.specs.Portions.{StandsFor, meaning_of}
use Rattle.container_spec.specs.RangeMeanings.{RangeMeaning, is_bad_range, range_meaning}
use Rattle.container_spec.proofs.FileParts.{box_is}
use Rattle.container_spec.proofs.FilesAlone.{as_one, of_one}
use Rattle.container_spec.proofs.FilesOfContainers.{indexed_is, some, without}
use Rattle.container_spec.proofs.BoxesOnce.{meant_alone}
use Rattle.container_spec.proofs.ReachedSegments.{whole}
use Rattle.container_spec.proofs.PortionsMeant.{is_restored}
use Rattle.container_spec.proofs.ScansRestored.{container_is_restored, file_is_restored}
use Rattle.container_spec.proofs.ScansSizes.{container_is_short}
use Rattle.container_spec.proofs.RestoredRanges.{range_of_container_is_slice}
use Rattle.range_read.specs.IndexEnds.{IsIndexOf}
use Rattle.lepton_c.specs.Gives.{EncodeGives, IndexGives, IsEncoded, Puts, RangeGives}
use Rattle.lepton_c.specs.Numbers.{numbers_of}
use Rattle.lepton_c.specs.declared.answer.Answer.{Answer}
use Rattle.lepton_c.specs.declared.answer.Answer.TheVariants.{Done, Counted, Header, Scan, Box, Fault, PadSpelling, ChunkShort, TooLong, NoChunk, ManyScans, RangeBad, BadCall, NoRoom, Larger, NoMemory}
use Rattle.lepton_c.proofs.BackAgain.{IsBack, as_file}
use Rattle.lepton_c.proofs.Told.{encoded, placed}

-- how long a slice is
slice_long : (from to : ℕ) (file : List ℕ) → to ≤ length file → length (slice from to file) ≡ to - from
slice_long from to file within =
    let long = length-drop from file in
    let taken = length-take (min to (length file) - from) (drop from file) in
    ap length (slice_within from to file) ∙ (omega (arith, long, taken, within))

-- a version that is indexed has whole files
unchunked : (version : Version) → IsRead indexable version → (layout_of version).chunked ≡ false
unchunked First read = refl
unchunked Second read = refl
unchunked Third read = absurd (let e : false ≡ true = read in cc)
unchunked Fourth read = absurd (let e : false ≡ true = read in cc)
unchunked Fifth read = refl

-- and one that is read by ranges is the fifth
fifth_is : (version : Version) → IsRead ranged version → version ≡ Fifth
fifth_is First read = absurd (let e : false ≡ true = read in cc)
fifth_is Second read = absurd (let e : false ≡ true = read in cc)
fifth_is Third read = absurd (let e : false ≡ true = read in cc)
fifth_is Fourth read = absurd (let e : false ≡ true = read in cc)
fifth_is Fifth read = refl

-- the file's container of version 5, of some segments
pub record IsPlaced (made file : List ℕ) : Type 0 where
  pub most : ℕ
  pub some : 0 < most
  pub few : most ≤ (layout_of Fifth).most
  pub is : IsContainerOf Fifth (most ∷ []) made file

sum_few : (most : ℕ) → most ≤ (layout_of Fifth).most → sum (most ∷ []) ≤ (layout_of Fifth).most
sum_few most few = let e = sum_first most [] in omega (arith, e, few)

by_parts : (bytes made file : List ℕ) (plan : PlanFields) (b : BoxParts) → IsBoxOf plan b bytes
    → IsRead indexable b.version → meaning_of plan b ≡ as_file file
    → made ≡ box_bytes (indexed plan b) → IsPlaced made file
by_parts bytes made file plan b of read e text =
    let same : b ≡ whole b = without b (no_chunk plan b (unchunked b.version read) of.box) in
    let box : IsBox plan (whole b) = subst (IsBox plan) same of.box in
    let so = is_restored plan (whole b) file refl (sym e ∙ ap (meaning_of plan) same) in
    let few = of.box.few in
    let more = most_more b.version in
    let most = length b.handovers in
    record {
      most = most;
      some = some plan b file box so;
      few = omega (arith, few, more);
      is = subst (λ (m : List ℕ). IsContainerOf Fifth (most ∷ []) m file) (sym text)
          (as_one Fifth most (box_bytes (indexed plan b)) file refl
          (subst (λ (p : BoxParts). IsContainerOfOne Fifth most (box_bytes (indexed plan p)) file)
          (sym same) (indexed_is plan b file box so)));
    }

is_placed : (segments : ℕ) (file bytes made : List ℕ) → IsEncoded segments file bytes
    → IsIndexOf made bytes → IsPlaced made file
is_placed segments file bytes made e (plan, b, of, read, restored, text) =
    by_parts bytes made file plan b of read
    (sym (meant_alone plan b bytes (as_file file) of (container_is_restored segments bytes file e.some.1 e.is))) text

module _ (from to : ℕ) (made file : List ℕ) (placed_is : IsPlaced made file) (order : from ≤ to)
    (within : to ≤ length file) where
  means : StandsFor made (as_file file)
  means = file_is_restored Fifth (placed_is.most ∷ []) made file (placed_is.some, tt)
      (sum_few placed_is.most placed_is.few) placed_is.is

  ranges : (plan : PlanFields) (b : BoxParts) → IsBoxOf plan b made → IsRead ranged b.version
      → (is_bad_range b from to ≡ false) × ((range_meaning plan b from to).bytes ≡ slice from to file)
      × ((range_meaning plan b from to).fault ≡ None)
  ranges plan b of read =
      let r = range_of_container_is_slice plan b file from to
      (record {
        box = of.box;
        fifth = fifth_is b.version read;
        restored = sym (meant_alone plan b made (as_file file) of means);
      }) order within in
      (r.0, ap (λ (m : RangeMeaning). m.bytes) r.1, ap (λ (m : RangeMeaning). m.fault) r.1)

  pub range_by : (old new : List ℕ) (answer : Answer) → length made ≤ most_of_a_container
      → to - from ≤ length old → RangeGives from to made old new answer
      → IsBack (slice from to file) (to - from) old new answer
  range_by old new (Done n) short room gives =
      let r = ranges gives.0 gives.1 gives.2 gives.3 in
      let put = gives.5.1 in
      inl (
        refl,
        put.0 ∙ ap length r.1 ∙ slice_long from to file within,
        subst (Puts old new) r.1 put.1,
      )
  range_by old new (Fault fault n) short room gives =
      let r = ranges gives.0 gives.1 gives.2 gives.3 in
      absurd (let e : None ≡ Some fault = sym r.2 ∙ gives.5.0 in cc)
  range_by old new (NoRoom n) short room gives =
      let r = ranges gives.0 gives.1 gives.2 gives.3 in
      let long = ap length r.1 ∙ slice_long from to file within in
      let more = gives.5.1 in
      absurd (omega (arith, long, more, room))
  range_by old new RangeBad short room gives =
      let bad = gives.0 in
      let r = ranges bad.0 bad.1 bad.2 bad.3 in
      absurd (let e : false ≡ true = sym r.0 ∙ bad.4 in cc)
  range_by old new (Box refusal) short room gives =
      let is = of_one Fifth placed_is.most made file refl placed_is.is in
      let parts = parts_of_file Fifth is.plan is.mcus is.pads (take is.plan.header_length file) is.trailer
      placed_is.most in
      let of : IsBoxOf is.plan parts made =
      record {
        box = box_is Fifth placed_is.most made file placed_is.some is placed_is.few;
        one = refl;
        text = is.spelled;
      } in
      absurd (box_or_refused ranged made is.plan parts refusal refl of gives.0)
  range_by old new TooLong short room gives = absurd (let long = gives.0 in omega (arith, long, short))
  range_by old new NoMemory short room gives = inr refl
  range_by old new (Counted n) short room gives = absurd gives
  range_by old new (Header refusal) short room gives = absurd gives
  range_by old new (Scan refusal) short room gives = absurd gives
  range_by old new (PadSpelling n) short room gives = absurd gives
  range_by old new (ChunkShort n) short room gives = absurd gives
  range_by old new NoChunk short room gives = absurd gives
  range_by old new ManyScans short room gives = absurd gives
  range_by old new BadCall short room gives = absurd gives
  range_by old new (Larger n) short room gives = absurd gives

-- of what was encoded and then indexed, a range is the file's slice
pub range_again : (segments from to : ℕ) (file container bytes old new before after first last : List ℕ)
    (made kept answer : Answer) → EncodeGives segments file old new made
    → (numbers_of made).status ≡ 0 → container ≡ take (numbers_of made).length new
    → IndexGives container before after kept → (numbers_of kept).status ≡ 0
    → bytes ≡ take (numbers_of kept).length after → from ≤ to → to ≤ length file
    → to - from ≤ length first → RangeGives from to bytes first last answer
    → IsBack (slice from to file) (to - from) first last answer
range_again segments from to file container bytes old new before after first last made kept answer
    gives done text indexes stored reads order within room is =
    let e = subst (IsEncoded segments file) (sym text) (encoded segments file old new made gives done) in
    let i = subst (λ (l : List ℕ). IsIndexOf l container) (sym reads)
    (placed container before after kept indexes stored) in
    let p = is_placed segments file container bytes e i in
    range_by from to bytes file p order within first last answer
    (container_is_short Fifth (p.most ∷ []) bytes file (p.some, tt) (sum_few p.most p.few) p.is e.short) room is
