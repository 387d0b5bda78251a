-- Encode and decode undo each other.
use Rattle.std.proofs.Common.{◌≡◌, ℕ, ◌<◌, ◌≤◌, false, inl, inr, List, [], ◌∷◌, length, sum, replicate, refl, sym, subst, arith}
use Rattle.std.specs.List.{AllByRecursion}
use Rattle.bit_list.specs.Bits.{IsByte}
use Rattle.box_format.specs.Parts.{migrated}
use Rattle.box_format.specs.Single.{IsBoxOf, box_bytes}
use Rattle.box_format.specs.Versions.{layout_of, most_segments, version_in}
use Rattle.box_format.specs.declared.version.Version.{Version}
use Rattle.box_format.specs.declared.version.Version.TheVariants.{Second}
use Rattle.box_format.proofs.Lists.{sum_first}
use Rattle.box_format.proofs.SingleBytes.{migrated_is}
use Rattle.container_spec.specs.Meanings.{Meaning, Verdict, Restored, PadSpelled, ChunkShort, Faulty, NoBox}
use Rattle.container_spec.specs.Portions.{StandsFor}
use Rattle.container_spec.specs.ScansFiles.{IsContainerOf, IsContainerOfFile, share_of, version_for}
use Rattle.container_spec.proofs.MigratedMeanings.{migrated_means_the_same, plain}
use Rattle.container_spec.proofs.RestoredScans.{restored_is_container}
use Rattle.container_spec.proofs.ScansRestored.{are_scans, file_is_restored, for_most, shares_are}
use Rattle.container_spec.proofs.ScansSizes.{container_is_short}
use Rattle.command_words.specs.declared.command.Command.TheVariants.{Encode, Decode, Migrate}
use Rattle.lepton_run.specs.Answers.{Answer, Answers, AnswersWithin, Made, MigrateMakes, answer_by, limit_of}
use Rattle.lepton_run.proofs.ScansOfBytes.{box_are, scans_are}

-- one number among others that are few
pub one_few : (n most : ℕ) → n ≤ most → sum (n ∷ []) ≤ most
one_few n most few = let e = sum_first n [] in omega (arith, e, few)

-- a container's bytes are bytes
pub container_are : (version : Version) (mosts made file : List ℕ)
    → AllByRecursion (λ most. 0 < most) mosts → sum mosts ≤ (layout_of version).most
    → IsContainerOf version mosts made file → AllByRecursion IsByte made
container_are version mosts made file some few is =
    subst (AllByRecursion IsByte) (sym is.spelled)
    (scans_are version is.scans (are_scans version mosts made file some few is))

-- of the container of a file that encode takes, decode makes that file
pub file_back : (version : Version) (mosts : List ℕ) (most workers : ℕ) (made file : List ℕ)
    → length file ≤ limit_of (Encode most) → AllByRecursion (λ most. 0 < most) mosts
    → sum mosts ≤ (layout_of version).most → IsContainerOf version mosts made file
    → Answers (Decode workers) made (Made file)
file_back version mosts most workers made file short some few is = inr (record {
  short = container_is_short version mosts made file some few is short;
  are = container_are version mosts made file some few is;
  makes = (
    record { bytes = file; verdict = Restored },
    file_is_restored version mosts made file some few is,
    refl,
  );
})

any_back : (most workers : ℕ) (made file : List ℕ) → most ≤ most_segments
    → length file ≤ limit_of (Encode most) → IsContainerOfFile most made file
    → Answers (Decode workers) made (Made file)
any_back most workers made file few short (n, is) =
    let shares = shares_are (version_for n) most n made file few is in
    let all = shares.few in
    let room = for_most n in
    file_back (version_for n) (replicate n (share_of most n)) most workers made file short shares.some
    (omega (arith, all, room)) is

pub undone : (segments workers : ℕ) (file made : List ℕ) → 0 < segments
    → segments ≤ (layout_of Second).most → Answers (Encode segments) file (Made made)
    → Answers (Decode workers) made (Made file)
undone segments workers file made some few (inl long) =
    absurd (let e = long.1 in cc)
undone segments workers file made some few (inr is) =
    any_back segments workers made file few is.short is.makes

-- what is migrated stands for the same
migrated_same : (workers : ℕ) (bytes made : List ℕ) (answer : Answer)
    → MigrateMakes bytes (Made made) → length made ≤ limit_of (Decode workers)
    → AnswersWithin (Decode workers) bytes answer → Answers (Decode workers) made answer
migrated_same workers bytes made answer (inl refused) short is =
    absurd (let e = refused.2 in cc)
migrated_same workers bytes made answer (inr (plan, b, of, read, e)) short is =
    let text : made ≡ box_bytes (migrated b) = cc in
    let moved = migrated_is plan b (plain b.version read).chunked of.box in
    let of_moved : IsBoxOf plan (migrated b) made = record { box = moved; one = refl; text = text } in
    let m = is.makes.0 in
    inr (record {
      short = short;
      are = box_are plan (migrated b) made of_moved;
      makes = (
        m,
        subst (λ (l : List ℕ). StandsFor l m) (sym text)
            (migrated_means_the_same plan b bytes m is.are read of is.makes.1),
        is.makes.2,
      );
    })

pub migrated_back : (workers : ℕ) (bytes made : List ℕ) (answer : Answer)
    → Answers Migrate bytes (Made made) → length made ≤ limit_of (Decode workers)
    → Answers (Decode workers) bytes answer → Answers (Decode workers) made answer
migrated_back workers bytes made answer (inl long) short is = absurd (let e = long.1 in cc)
migrated_back workers bytes made answer (inr moved) short (inl long) =
    absurd (let h = moved.short in let l = long.0 in omega (arith, h, l))
migrated_back workers bytes made answer (inr moved) short (inr is) =
    migrated_same workers bytes made answer moved.makes short is

-- what ends as a file stands for it
pub restored_by : (meaning bytes : List ℕ) (verdict : Verdict)
    → Made bytes ≡ answer_by meaning verdict → (meaning ≡ bytes) × (verdict ≡ Restored)
restored_by meaning bytes Restored e = (cc, refl)
restored_by meaning bytes PadSpelled e = absurd cc
restored_by meaning bytes ChunkShort e = absurd cc
restored_by meaning bytes (Faulty fault) e = absurd cc
restored_by meaning bytes (NoBox refusal) e = absurd cc

pub same_meaning : (m : Meaning) (bytes : List ℕ) → m.bytes ≡ bytes → m.verdict ≡ Restored
    → m ≡ record { bytes = bytes; verdict = Restored }
same_meaning m bytes e f = rw (← e, ← f) refl

pub spelled_so : (workers : ℕ) (made file : List ℕ) → (layout_of (version_in made)).chunked ≡ false
    → Answers (Decode workers) made (Made file)
    → (segments : List ℕ) × AllByRecursion (λ some. 0 < some) segments
    × (sum segments ≤ (layout_of (version_in made)).most)
    × IsContainerOf (version_in made) segments made file
spelled_so workers made file whole (inl long) = absurd (let e = long.1 in cc)
spelled_so workers made file whole (inr is) =
    let m = is.makes in
    let so = restored_by m.0.bytes file m.0.verdict m.2 in
    let of = restored_is_container made file whole
    (subst (StandsFor made) (same_meaning m.0 file so.0 so.1) m.1) in
    (of.mosts, of.some, of.few, of.is)
