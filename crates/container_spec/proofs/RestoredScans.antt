-- What stands for a file in the version of several scans is its container.
use Rattle.std.proofs.Common.{◌≡◌, ℕ, ◌^◌, ◌<◌, ◌≤◌, Bool, true, false, inl, inr, List, [], ◌∷◌, ◌++◌, length, take, drop, map, None, sym, ap, ap₂, ◌∙◌, subst, arith, append_assoc, append-nil}
use Rattle.std.specs.List.{AllByRecursion}
use Rattle.std.proofs.lemmas.List.{take-append-drop, take-append-le, drop-append-le, length-map}
use Rattle.huff_table.proofs.Pairs.{all-append}
use Rattle.bit_list.specs.Bits.{IsByte}
use Rattle.jpeg_marker.specs.AcceptedPlans.{HasBegun}
use Rattle.jpeg_marker.specs.FirstWalks.{opening_walk}
use Rattle.jpeg_marker.specs.HeaderPlan.{Begins}
use Rattle.jpeg_marker.specs.Walks.{Walk, next_walk}
use Rattle.jpeg_marker.proofs.HeadersTaken.{begun_has_plan}
use Rattle.scan_spec.specs.FileParts.{IsScanOf}
use Rattle.scan_spec.specs.Scans.{Mcu}
use Rattle.box_format.specs.Parts.{BoxParts, IsBoxIn, BoxSeen, can_pad}
use Rattle.scan_spec.specs.Slots.{shape_of}
use Rattle.box_format.specs.Versions.{layout_of}
use Rattle.box_format.specs.declared.version.Version.{Version}
use Rattle.container_spec.specs.Files.{parts_of_file, told_pads}
use Rattle.container_spec.specs.Meanings.{Meaning}
use Rattle.container_spec.specs.Indexed.{outputs_of}
use Rattle.container_spec.proofs.JoinedSegments.{joined}
use Rattle.container_spec.proofs.FilesOfContainers.{without, chain, bits, all_bytes, file_of, told, places_are, parts_are}
use Rattle.container_spec.proofs.ReachedSegments.{whole}
use Rattle.container_spec.proofs.RestoredMeanings.{IsRestored, restored}
use Rattle.box_format.specs.Containers.{AreBoxes, IsContainerIn, segment_count}
use Rattle.container_spec.specs.ScansFiles.{IsScanIn, AreScansIn, IsContainerOf}
use Rattle.container_spec.specs.ScansMeaningLaws.{RestoredIsContainer}
use Rattle.container_spec.specs.Portions.{scans_meaning}
use Rattle.box_format.proofs.Singles.{version_is_in}
use Rattle.box_format.proofs.Spelling.{one_list_of_scans}
use Rattle.container_spec.proofs.JoinedScans.{EachRestored, own as joined_own}
use Rattle.container_spec.proofs.SeveralScans.{each_some, stands_each}
use Rattle.box_format.proofs.SingleBytes.{none_of}

-- ---- a scan whose parts stand for bytes

record IsRestoredScan (v : Version) (w : Walk) (s : BoxSeen) (own : List ℕ) : Type 0 where
  mcus : List Mcu
  pads : List Bool
  bytes : AllByRecursion IsByte own
  is : IsScanOf w own s.plan mcus pads s.parts.trailer
  can : can_pad (layout_of v).listed (shape_of s.plan) (told_pads s.plan mcus pads) ≡ true
  parts : s.parts
      ≡ parts_of_file v s.plan mcus pads (take s.plan.header_length own) s.parts.trailer
      (length s.parts.handovers)

scan_restored : (v : Version) (whole_is : (layout_of v).chunked ≡ false)
    (w : Walk) (s : BoxSeen) (own : List ℕ) → IsBoxIn w s.plan s.parts
    → s.parts.version ≡ v → IsRestored s.parts (joined_own s) own → IsRestoredScan v w s own
scan_restored v whole_is w s own is said good =
    let b : BoxParts = s.parts in
    let none : b.chunk ≡ None =
    none_of b.chunk (is.chunked ∙ ap (λ (v : Version). (layout_of v).chunked) said ∙ whole_is) in
    let same : b ≡ whole b = without b none in
    let box : IsBoxIn w s.plan (whole b) = subst (IsBoxIn w s.plan) same is in
    let so : IsRestored (whole b) (joined (outputs_of s.plan (whole b))) own =
    subst (λ (c : BoxParts). IsRestored c (joined (outputs_of s.plan c)) own) same good in
    let mcus : List Mcu = (chain s.plan b own box so).mcus in
    let pads : List Bool = bits s.plan b own box so in
    record {
      mcus = mcus;
      pads = pads;
      bytes = all_bytes s.plan b own box so;
      is = file_of s.plan b own box so;
      can = ap (can_pad (layout_of v).listed (shape_of s.plan)) (told s.plan b own box so)
          ∙ ap (λ (u : Version). can_pad (layout_of u).listed (shape_of s.plan) b.pads) (sym said) ∙ is.pads;
      parts = same
          ∙ parts_are s.plan b own box so b.version b.places (places_are s.plan b own box so)
          ∙ ap (λ (u : Version). parts_of_file u s.plan mcus pads
          (take s.plan.header_length own) b.trailer (length b.handovers)) said;
    }

header_short : (w : Walk) (s : BoxSeen) → IsBoxIn w s.plan s.parts → s.plan.header_length < 2 ^ 32
header_short w s box =
    let fits = box.header_fits in let long = box.whole in omega (arith, fits, long)

-- with others after it
scan_before : (v : Version) (w : Walk) (s : BoxSeen) (own rest : List ℕ) → IsBoxIn w s.plan s.parts
    → s.parts.trailer ≡ [] → IsRestoredScan v w s own
    → IsScanIn v w (length s.parts.handovers) (own ++ rest) rest [] s
scan_before v w s own rest box none r =
    let n : ℕ = s.plan.header_length in
    let has : HasBegun w own s.plan = begun_has_plan w own s.plan r.bytes box.known r.is.header in
    let within = has.within in
    let text : take n own ++ (drop n own ++ rest) ≡ own ++ rest =
    sym (append_assoc (take n own) (drop n own) rest)
    ∙ ap (λ (l : List ℕ). l ++ rest) (take-append-drop n own) in
    let header : take n own ≡ take n (own ++ rest) = sym (take-append-le n own rest within) in
    record {
      mcus = r.mcus;
      pads = r.pads;
      is = record {
        header = subst (λ (l : List ℕ). Begins w l s.plan) text
            (has.alone w.place (drop n own ++ rest));
        scan = r.is.scan;
        is = r.is.is;
        text = drop-append-le n own rest within
            ∙ ap (λ (l : List ℕ). l ++ rest) (r.is.text
            ∙ ap (λ (l : List ℕ). r.is.scan ++ l) none ∙ append-nil r.is.scan);
      };
      header_fits = header_short w s box;
      can = r.can;
      parts = r.parts
          ∙ ap₂ (λ (header trailer : List ℕ). parts_of_file v s.plan r.mcus r.pads header
          trailer (length s.parts.handovers)) header none;
    }

-- ---- all scans

record AreOfFile (v : Version) (w : Walk) (scans : List BoxSeen) (file : List ℕ) : Type 0 where
  trailer : List ℕ
  fits : length trailer < 2 ^ 32
  bytes : AllByRecursion IsByte file
  are : AreScansIn v w (map (λ (s : BoxSeen). length s.parts.handovers) scans) file trailer scans

are_of_file : (v : Version) (whole : (layout_of v).chunked ≡ false)
    (w : Walk) (scans : List BoxSeen) (file : List ℕ) → AreBoxes w scans
    → AllByRecursion (λ (s : BoxSeen). s.parts.version ≡ v) scans → EachRestored scans file
    → AreOfFile v w scans file
are_of_file v whole w [] file boxes versions each = absurd boxes
are_of_file v whole w (s ∷ []) file boxes versions (one, more, good, nothing, text) =
    let same : file ≡ one = text ∙ ap (λ (l : List ℕ). one ++ l) nothing ∙ append-nil one in
    let r = scan_restored v whole w s file boxes.0 versions.0
    (subst (IsRestored s.parts (joined_own s)) (sym same) good) in
    record {
      trailer = s.parts.trailer;
      fits = boxes.0.trailer_fits;
      bytes = r.bytes;
      are = (
        record {
          mcus = r.mcus;
          pads = r.pads;
          is = r.is;
          header_fits = header_short w s boxes.0;
          can = r.can;
          parts = r.parts;
        },
        boxes.1,
      );
    }
are_of_file v whole w (s ∷ t ∷ scans) file boxes versions (one, more, good, others, text) =
    let r = scan_restored v whole w s one boxes.0 versions.0 good in
    let next = are_of_file v whole (next_walk s.plan.known 0) (t ∷ scans) more boxes.3 versions.1
    others in
    record {
      trailer = next.trailer;
      fits = next.fits;
      bytes = subst (AllByRecursion IsByte) (sym text)
          (all-append IsByte one more r.bytes next.bytes);
      are = (
        more,
        subst (λ (l : List ℕ). IsScanIn v w (length s.parts.handovers) l more [] s)
            (sym text) (scan_before v w s one more boxes.0 boxes.2 r),
        boxes.1,
        next.are,
      );
    }

scans_of_file : (v : Version) (scans : List BoxSeen) (made file : List ℕ)
    → (layout_of v).chunked ≡ false → IsContainerIn v scans made
    → restored file ≡ scans_meaning scans
    → IsContainerOf v (map (λ (s : BoxSeen). length s.parts.handovers) scans) made file
scans_of_file v scans made file whole of e =
    let all = are_of_file v whole opening_walk scans file of.are.each of.are.versions
    (stands_each v scans file whole of.are e) in
    record {
      whole = whole;
      bytes = all.bytes;
      scans = scans;
      trailer = all.trailer;
      enough = of.are.enough;
      most = of.are.most;
      counted = length-map scans (λ (s : BoxSeen). length s.parts.handovers);
      are = all.are;
      trailer_fits = all.fits;
      spelled = of.text;
    }

pub restored_is_container : RestoredIsContainer
restored_is_container made file whole (inl refused) =
    absurd (let f = ap (λ (m : Meaning). m.verdict) refused.2 in cc)
restored_is_container made file whole (inr (scans, (v, of), e)) =
    let said = version_is_in v scans made of in
    let here = ap (λ (u : Version). (layout_of u).chunked) (sym said) ∙ whole in
    record {
      mosts = map (λ (s : BoxSeen). length s.parts.handovers) scans;
      some = each_some v here opening_walk scans of.are.each of.are.versions;
      few = subst (λ (u : Version). segment_count scans ≤ (layout_of u).most) (sym said) of.are.few;
      is = subst (λ (u : Version). IsContainerOf u
          (map (λ (s : BoxSeen). length s.parts.handovers) scans) made file) (sym said)
          (scans_of_file v scans made file here of e);
      each = λ others is. ap (map (λ (s : BoxSeen). length s.parts.handovers))
          (one_list_of_scans scans others made (v, of) is);
    }
