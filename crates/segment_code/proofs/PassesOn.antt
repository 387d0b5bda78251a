-- A pass from segment to segment: it goes on, and ends with the file's starts.
use Rattle.std.proofs.Common.{◌≡◌, ℕ, ◌+◌, ◌-◌, ◌*◌, ◌<◌, ◌≤◌, Bool, List, [], ◌∷◌, ◌++◌, length, take, refl, ap, ap₂, ◌^◌, ◌∙◌, sym, subst, arith}
use Rattle.std.specs.Prelude.{ℤ, Result, IfOk, OnOk, Ok, Err, min, map}
use Rattle.std.specs.List.{AllByRecursion}
use Rattle.std.proofs.lemmas.List.{append_cancel_left, length-append, map-append}
use Rattle.bit_list.specs.Bits.{IsByte}
use Rattle.coef_block.specs.Block.{IsBlock}
use Rattle.jpeg_marker.specs.Plans.{PlanFields}
use Rattle.jpeg_marker.specs.AcceptedPlans.{CanScan}
use Rattle.huff_table.specs.ComponentTables.{codes_of}
use Rattle.huff_table.specs.declared.plan_codes.ComponentCodes.{ComponentCodes}
use Rattle.scan_spec.specs.Items.{Refuses}
use Rattle.scan_spec.specs.Pads.{spelling_of}
use Rattle.scan_spec.specs.Scans.{Mcu}
use Rattle.scan_spec.specs.Slots.{Shape, shape_of}
use Rattle.scan_spec.specs.ScanCalls.{ScanReader, reader_at, resume_place}
use Rattle.scan_spec.specs.ScanLaws.{zigzag_of}
use Rattle.scan_spec.specs.ScanReading.{Standing}
use Rattle.scan_spec.specs.BlockBits.{in_zigzag}
use Rattle.scan_spec.specs.declared.refusal.ScanRefusal.{ScanRefusal}
use Rattle.scan_spec.proofs.BitsTaken.{both_fine}
use Rattle.cut_spec.specs.Cuts.{first_mcu, row_of}
use Rattle.cut_spec.specs.HandedOver.{spot_in}
use Rattle.cut_spec.specs.RowHandovers.{handover_of, markers_before, mcus_between}
use Rattle.cut_spec.proofs.SegmentsRead.{first_are_read}
use Rattle.cut_spec.proofs.Slices.{take_more}
use Rattle.container_spec.specs.Files.{plan_cut}
use Rattle.container_spec.specs.ScanStream.{stream_of}
use Rattle.segment_code.specs.FileStarts.{StartsFields}
use Rattle.segment_code.specs.CodedMcus.{AreReadOn, next_of}
use Rattle.segment_code.specs.FoundPads.{FoundPads, none_found, pads_through}
use Rattle.segment_code.specs.FoundStarts.{found}
use Rattle.segment_code.specs.ScanPasses.{HasPassed, IsNextStream, IsNoPart, IsPart, IsPartOf, IsPartStream, IsPass, PartFields, PassFields, first_reader, mcus_passed, next_part, pass_cut, passed, segments_left}
use Rattle.segment_code.specs.Starting.{AreStarts, IsFileAt}
use Rattle.segment_code.specs.StartsInside.{no_starts, starts_more}
use Rattle.segment_code.proofs.CutsOfPlans.{end_of_all, first_of_all}
use Rattle.segment_code.proofs.PadsOn.{more_through, none_through}
use Rattle.segment_code.proofs.ReadOn.{Keeps, count_on, keeps, none_read, read_more, refused_in}
use Rattle.segment_code.proofs.ScansCoded.{mcus_once, scan_refused}
use Rattle.segment_code.proofs.SegmentsCoded.{HasMcus, HasRows, between, good_of, has_mcus, has_rows}
use Rattle.segment_code.proofs.StartsFound.{are_starts, found_at, found_more, stands_there}

-- its reader is one of the file's scan, with no refusal
pub kept_in : (p : PassFields) → IsPass p → Keeps (first_reader p) p.reader
kept_in p is = keeps (first_reader p) p.reader is.read.1.same

-- it has read the MCUs that were passed
pub counted : (p : PassFields) → IsPass p → p.reader.at.count ≡ mcus_passed p
counted p is =
    let count : p.reader.at.count ≡ 0 + mcus_passed p =
    count_on (mcus_passed p) (first_reader p) p.reader is.read.0 is.read.1 in
    omega (arith, count)

-- what holds of the next segment
pub record IsNext (p : PassFields) : Type 0 where
  pub under : passed p < min p.most p.plan.down
  pub rows : HasRows (pass_cut p) (passed p)
  pub has : HasMcus p.plan (row_of (pass_cut p) (passed p)) (row_of (pass_cut p) (passed p + 1))
  pub ends : mcus_passed p + (next_part p).mcus ≡ first_mcu (pass_cut p) (passed p + 1)
  pub count : p.reader.at.count + (next_part p).mcus ≤ p.plan.across * p.plan.down

pub is_next : (p : PassFields) → IsPass p → 0 < segments_left p → IsNext p
is_next p is some =
    let wide = is.can.is_plan.wide in
    let under : passed p < min p.most p.plan.down = omega (arith, some) in
    let cut = pass_cut p in
    let rows = has_rows cut (passed p) (omega arith) under in
    let has = has_mcus p.plan (row_of cut (passed p)) (row_of cut (passed p + 1)) wide rows.some
    rows.within in
    let first = has.some in
    let within = has.within in
    let ends : mcus_passed p + (next_part p).mcus ≡ first_mcu (pass_cut p) (passed p + 1) =
    omega (arith, first) in
    let count = counted p is in
    record {
      under = under;
      rows = rows;
      has = has;
      ends = ends;
      count = omega (arith, count, ends, within);
    }

-- before the first segment
pub first_pass : (plan : PlanFields) (codes : List ComponentCodes) (bytes : List ℕ) (most : ℕ)
    (reader : ScanReader) (starts : StartsFields) (pads : FoundPads)
    → AllByRecursion IsByte bytes → CanScan bytes plan
    → codes ≡ codes_of plan.components → 0 < most → most < 2 ^ 32
    → reader ≡ reader_at (shape_of plan) bytes plan.header_length
    → starts ≡ no_starts → pads ≡ none_found
    → IsPass (record {
      plan = plan;
      codes = codes;
      bytes = bytes;
      most = most;
      reader = reader;
      starts = starts;
      pads = pads;
    })
first_pass plan codes bytes most reader starts pads are can tables some few reader_is starts_is pads_is =
    let first = reader_at (shape_of plan) bytes plan.header_length in
    let cut = plan_cut plan most in
    let none : length starts.rows ≡ 0 = ap (λ (s : StartsFields). length s.rows) starts_is in
    let zero : first_mcu cut (length starts.rows) ≡ 0 =
    ap (first_mcu cut) none ∙ first_of_all cut refl in
    record {
      bytes = are;
      can = can;
      codes = tables;
      some = some;
      few = few;
      within = omega (arith, none);
      starts = starts_is ∙ ap (found first cut) (sym none);
      read = (
        [],
        subst (λ (r : ScanReader). AreReadOn (first_mcu cut (length starts.rows)) first r [])
            (sym reader_is) (subst (λ (n : ℕ). AreReadOn n first first []) (sym zero)
            (none_read first)),
      );
      pads = pads_is ∙ sym (none_through first none_found)
          ∙ ap (λ (n : ℕ). pads_through n first none_found) (sym zero);
    }

-- a segment more
pub has_passed : (p : PassFields) (reader : ScanReader) (starts : StartsFields) (pads : FoundPads)
    (read : List (List (List ℤ))) → IsPass p → 0 < segments_left p
    → AreReadOn (next_part p).mcus p.reader reader read
    → starts ≡ starts_more p.starts (next_part p).row (next_part p).place (next_part p).handover
    → pads ≡ pads_through (next_part p).mcus p.reader p.pads
    → HasPassed p (record p { reader = reader; starts = starts; pads = pads })
has_passed p reader starts pads read is some on starts_are pads_are =
    let first = first_reader p in
    let cut = pass_cut p in
    let next = is_next p is some in
    let under = next.under in
    let kept = kept_in p is in
    let handover : (next_part p).handover ≡ handover_of first.shape (spot_in first.bytes p.reader.at) =
    ap₂ (λ (s : Shape) (b : List ℕ). handover_of s (spot_in b p.reader.at)) kept.shape kept.bytes in
    let count : length starts.rows ≡ passed p + 1 =
    ap (λ (s : StartsFields). length s.rows) starts_are
    ∙ length-append p.starts.rows ((next_part p).row ∷ []) in
    let more : starts ≡ found first cut (passed p + 1) = starts_are
    ∙ found_more first p.reader cut (passed p) (next_part p).row is.read.0 is.read.1 refl p.starts
    is.starts (next_part p).place refl (next_part p).handover handover in
    let mcus : mcus_passed p + (next_part p).mcus ≡ first_mcu cut (length starts.rows) =
    next.ends ∙ ap (first_mcu cut) (sym count) in
    record {
      is = record {
        bytes = is.bytes;
        can = is.can;
        codes = is.codes;
        some = is.some;
        few = is.few;
        within = omega (arith, count, under);
        starts = more ∙ ap (found first cut) (sym count);
        read = (
          is.read.0 ++ read,
          subst (λ (k : ℕ). AreReadOn k first reader (is.read.0 ++ read)) mcus
              (read_more (mcus_passed p) (next_part p).mcus first p.reader reader is.read.0 read
              is.read.1 on),
        );
        pads = pads_are
            ∙ ap (λ (f : FoundPads). pads_through (next_part p).mcus p.reader f) is.pads
            ∙ more_through (mcus_passed p) (next_part p).mcus first p.reader is.read.0 none_found
            is.read.1
            ∙ ap (λ (k : ℕ). pads_through k first none_found) mcus;
      };
      count = count;
      same = refl;
    }

-- a refusal is the scan's
pub has_refused : (p : PassFields) (refusal : ScanRefusal) → IsPass p → 0 < segments_left p
    → next_of (next_part p).mcus p.reader ≡ Err refusal
    → Refuses (shape_of p.plan) p.bytes p.plan.header_length refusal
has_refused p refusal is some refused =
    let next = is_next p is some in
    let ends = next.ends in
    let within = next.has.within in
    scan_refused p.bytes p.plan refusal is.can
    (refused_in (mcus_passed p) (next_part p).mcus (first_reader p).shape.mcus (first_reader p)
    p.reader is.read.0 refusal is.read.1 (omega (arith, ends, within)) refused)

-- what a whole scan's first MCUs are
first_ones : (p : PassFields) (mcus : List Mcu) (pads : List Bool) (trailer n : ℕ) (reader : ScanReader)
    (read : List (List (List ℤ))) → IsPass p → IsFileAt p.bytes p.plan mcus pads trailer
    → n ≤ (shape_of p.plan).mcus → AreReadOn n (first_reader p) reader read
    → read ≡ zigzag_of (take n mcus)
first_ones p mcus pads trailer n reader read is file few so =
    let good = good_of p.bytes p.plan mcus pads trailer is.bytes file in
    let all = first_are_read (shape_of p.plan) p.bytes p.plan.header_length trailer mcus pads n
    good.shape file.scan few in
    let long : n - 0 ≡ n = omega arith in
    (both_fine (read, reader.at) (zigzag_of (mcus_between mcus 0 n), all.0)
    (sym so.read ∙ all.1)).0 ∙ ap (λ (k : ℕ). zigzag_of (take k mcus)) long

-- so what is read and coded next is the stream of the next segment
pub coded_next : (p : PassFields) (reader : ScanReader) (all : List Mcu) (stream : List ℕ) → IsPass p
    → 0 < segments_left p → AllByRecursion (AllByRecursion IsBlock) all
    → AreReadOn (next_part p).mcus p.reader reader (zigzag_of all)
    → stream ≡ stream_of p.plan all → IsNextStream p stream
coded_next p reader all stream is some blocks on of_all = λ mcus pads trailer file.
    let first = first_reader p in
    let next = is_next p is some in
    let from = mcus_passed p in
    let to = first_mcu (pass_cut p) (passed p + 1) in
    let begins = next.has.some in
    let within = next.has.within in
    let ends = next.ends in
    let before = first_ones p mcus pads trailer from p.reader is.read.0 is file
    (omega (arith, begins, within)) is.read.1 in
    let more = read_more from (next_part p).mcus first p.reader reader is.read.0 (zigzag_of all)
    is.read.1 on in
    let through = first_ones p mcus pads trailer to reader (is.read.0 ++ zigzag_of all) is file
    within (subst (λ (k : ℕ). AreReadOn k first reader (is.read.0 ++ zigzag_of all)) ends more) in
    let parts = ap zigzag_of (take_more from to mcus (omega (arith, begins)))
    ∙ map-append (λ (m : Mcu). map in_zigzag m) (take from mcus) (mcus_between mcus from to) in
    let same : zigzag_of all ≡ zigzag_of (mcus_between mcus from to) =
    append_cancel_left (zigzag_of (take from mcus)) (zigzag_of all)
    (zigzag_of (mcus_between mcus from to)) (ap (λ (l : List (List (List ℤ))). l ++ zigzag_of all) (sym before) ∙ through ∙ parts) in
    let each = file.scan.is.grid.each in
    of_all ∙ ap (stream_of p.plan) (mcus_once (shape_of p.plan).slots all
    (mcus_between mcus from to) blocks (between (shape_of p.plan).slots from to mcus each) same)

-- so a call on a pass's fields, before the pass is known by them, meets what it asks
pub fits : (q p : PassFields) (next : PartFields) → q ≡ p → next ≡ next_part p → IsPass p
    → 0 < segments_left p → q.reader.at.count + next.mcus ≤ q.reader.shape.mcus
fits q p next e f is some =
    let count = (is_next p is some).count in
    let mcus = ap (λ (s : Shape). s.mcus) (kept_in p is).shape in
    let here : p.reader.at.count + (next_part p).mcus ≤ p.reader.shape.mcus =
    omega (arith, count, mcus) in
    rw (e, f) here

pub few_passed : (q p : PassFields) → q ≡ p → IsPass p → 0 < segments_left p
    → length q.starts.rows + 1 < 2 ^ 32
few_passed q p e is some =
    let count = ap passed e in
    let under = (is_next p is some).under in
    let few = is.few in
    omega (arith, count, under, few)

on_both : {A E : Type 0} {P Q R : Type 0} (result : Result A E) → (P → Q → R) → OnOk result P
    → OnOk result Q → OnOk result R
on_both (Ok x) both p q = both p q
on_both (Err e) both p q = tt

-- what a reader read, and the pads that were kept, are a segment more
pub then_passed : {A E : Type 0} (result : Result A E) (q p : PassFields) (next : PartFields)
    (reader : ScanReader) (starts : StartsFields) (pads : FoundPads) → q ≡ p → next ≡ next_part p
    → IsPass p → 0 < segments_left p
    → starts ≡ starts_more q.starts next.row next.place next.handover
    → OnOk result ((read : List (List (List ℤ))) × AreReadOn next.mcus q.reader reader read)
    → OnOk result (pads ≡ pads_through next.mcus q.reader q.pads)
    → OnOk result (HasPassed p (record q { reader = reader; starts = starts; pads = pads }))
then_passed {A = A} result q p next reader starts pads e f is some =
    let P : PassFields → PartFields → Type 0 = λ x n.
    starts ≡ starts_more x.starts n.row n.place n.handover
    → OnOk result ((read : List (List (List ℤ))) × AreReadOn n.mcus x.reader reader read)
    → OnOk result (pads ≡ pads_through n.mcus x.reader x.pads)
    → OnOk result (HasPassed p (record x { reader = reader; starts = starts; pads = pads })) in
    let here : P p (next_part p) = λ starts_are.
    on_both result (λ on pads_are. has_passed p reader starts pads on.0 is some on.1 starts_are
    pads_are) in
    subst (λ x. P x next) (sym e) (subst (P p) (sym f) here)

-- what is coded was read
pub coded_read : {A E : Type 0} (B C : A → List Mcu → Type 0) (R : List (List (List ℤ)) → Type 0)
    (result : Result A E) → IfOk result (λ x. (all : List Mcu) × B x all × R (zigzag_of all) × C x all)
    → OnOk result ((read : List (List (List ℤ))) × R read)
coded_read B C R (Ok x) so = (zigzag_of so.0, so.2)
coded_read B C R (Err e) so = tt

pub then_refused : (q p : PassFields) (next : PartFields) (refusal : ScanRefusal) → q ≡ p
    → next ≡ next_part p → IsPass p → 0 < segments_left p
    → next_of next.mcus q.reader ≡ Err refusal
    → Refuses (shape_of p.plan) p.bytes p.plan.header_length refusal
then_refused q p next refusal e f is some refused =
    has_refused p refusal is some (ap₂ (λ (n : PartFields) (x : PassFields). next_of n.mcus x.reader)
    (sym f) (sym e) ∙ refused)

-- after the last segment, with the scan's end, the starts are the file's
pub has_ended : (p : PassFields) → IsPass p → segments_left p ≡ 0
    → AreStarts p.plan p.bytes p.most
    (record p.starts { pads = spelling_of p.pads.bits p.pads.sum; trailer = p.reader.at.cursor.next })
has_ended p is none =
    let first = first_reader p in
    let cut = pass_cut p in
    let high = is.can.is_plan.high in
    let most = is.some in
    let within = is.within in
    let some : 0 < cut.segments = omega (arith, high, most) in
    let last : passed p ≡ cut.segments = omega (arith, none, within) in
    let all : mcus_passed p ≡ (shape_of p.plan).mcus =
    ap (first_mcu cut) last ∙ end_of_all cut refl some in
    let read = is.read.1.read in
    let scan : next_of (shape_of p.plan).mcus first ≡ Ok (is.read.0, p.reader.at) =
    ap (λ (n : ℕ). next_of n first) (sym all) ∙ read in
    let pads : p.pads ≡ pads_through (shape_of p.plan).mcus first none_found =
    is.pads ∙ ap (λ (n : ℕ). pads_through n first none_found) all in
    let starts : p.starts ≡ found first cut cut.segments = is.starts ∙ ap (found first cut) last in
    let are = are_starts p.bytes p.plan p.most is.read.0 p.reader.at is.bytes is.can most scan
    p.pads pads in
    subst (λ (s : StartsFields). AreStarts p.plan p.bytes p.most
    (record s { pads = spelling_of p.pads.bits p.pads.sum; trailer = p.reader.at.cursor.next }))
    (sym starts) are

pub then_coded : {A E : Type 0} (bytes_of : A → List ℕ) (result : Result A E) (q p : PassFields)
    (next : PartFields) (reader : ScanReader) → q ≡ p → next ≡ next_part p → IsPass p
    → 0 < segments_left p
    → IfOk result (λ x. (all : List Mcu) × AllByRecursion (AllByRecursion IsBlock) all
    × AreReadOn next.mcus q.reader reader (zigzag_of all) × (bytes_of x ≡ stream_of q.plan all))
    → IfOk result (λ x. IsNextStream p (bytes_of x))
then_coded bytes_of (Err error) q p next reader e f is some so = tt
then_coded bytes_of (Ok x) q p next reader e f is some so =
    let P : PassFields → PartFields → Type 0 = λ y n.
    (all : List Mcu) × AllByRecursion (AllByRecursion IsBlock) all
    × AreReadOn n.mcus y.reader reader (zigzag_of all) × (bytes_of x ≡ stream_of y.plan all) in
    let here = subst (λ y. P y (next_part p)) e (subst (P q) f so) in
    coded_next p reader here.0 (bytes_of x) is some here.1 here.2 here.3

pub then_ended : (q p : PassFields) → q ≡ p → IsPass p → segments_left p ≡ 0
    → AreStarts p.plan p.bytes p.most
    (record q.starts { pads = spelling_of q.pads.bits q.pads.sum; trailer = q.reader.at.cursor.next })
then_ended q p e is none = subst (λ (x : PassFields). AreStarts p.plan p.bytes p.most
    (record x.starts { pads = spelling_of x.pads.bits x.pads.sum; trailer = x.reader.at.cursor.next }))
    (sym e) (has_ended p is none)

-- the next segment can be read
pub next_is_part : (p : PassFields) → IsPass p → 0 < segments_left p → IsPart (next_part p)
next_is_part p is some =
    let next = is_next p is some in
    let kept = kept_in p is in
    let ends = next.ends in
    let within = next.has.within in
    let some_row = next.rows.some in
    let last_row = next.rows.within in
    record {
      bytes = is.bytes;
      codes = is.codes;
      row = omega (arith, some_row, last_row);
      restarts = ap₂ markers_before kept.shape (counted p is);
      count = omega (arith, ends, within);
    }

-- it is rows of each file that the bytes are
pub next_is_part_of : (p : PassFields) (mcus : List Mcu) (pads : List Bool) (trailer : ℕ) → IsPass p
    → 0 < segments_left p → IsFileAt p.bytes p.plan mcus pads trailer
    → IsPartOf (next_part p) mcus pads (row_of (pass_cut p) (passed p + 1))
next_is_part_of p mcus pads trailer is some file =
    let next = is_next p is some in
    let first = first_reader p in
    let kept = kept_in p is in
    let good = good_of p.bytes p.plan mcus pads trailer is.bytes file in
    let there = stands_there (mcus_passed p) first p.reader is.read.0 is.read.1 in
    let begins = next.has.some in
    let within = next.has.within in
    let at = found_at p.plan mcus pads p.bytes trailer (mcus_passed p) good.shape file.scan
    (omega (arith, begins, within)) in
    record {
      some = next.rows.some;
      within = next.rows.within;
      place = ap (λ (s : Standing). resume_place s.cursor) (sym there) ∙ at.place;
      handover = ap₂ (λ (s : Shape) (b : List ℕ). handover_of s (spot_in b p.reader.at)) kept.shape
          kept.bytes
          ∙ ap (λ (s : Standing). handover_of first.shape (spot_in first.bytes s)) (sym there)
          ∙ at.handover;
      ends = next.ends;
    }

-- a part's stream is that of the next segment
pub stream_of_part : (p : PassFields) (part : PartFields) → part ≡ next_part p → IsPass p
    → 0 < segments_left p → (stream : List ℕ) → IsPartStream part stream → IsNextStream p stream
stream_of_part p part e is some stream of_part = λ mcus pads trailer file.
    (subst (λ (x : PartFields). IsPartStream x stream) e of_part) mcus pads trailer
    (row_of (pass_cut p) (passed p + 1)) file (next_is_part_of p mcus pads trailer is some file)

pub no_file_of : (p : PassFields) (part : PartFields) → part ≡ next_part p → IsPass p
    → 0 < segments_left p → IsNoPart part → (mcus : List Mcu) (pads : List Bool) (trailer : ℕ)
    → IsFileAt p.bytes p.plan mcus pads trailer → ⊥
no_file_of p part e is some none mcus pads trailer file =
    (subst (λ (x : PartFields). IsNoPart x) e none) mcus pads trailer
    (row_of (pass_cut p) (passed p + 1)) file (next_is_part_of p mcus pads trailer is some file)
