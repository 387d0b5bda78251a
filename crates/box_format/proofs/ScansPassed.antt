-- A container's bytes pass the checks.
use Rattle.std.proofs.Common.{◌≡◌, ◌≤◌, ◌+◌, ◌||◌, ◌&&◌, not, cond, Bool, false, ℕ, List, [], ◌∷◌, length, take, drop, nat_lt, refl, sym, ap, ◌∙◌, arith, subst}
use Rattle.std.specs.Prelude.{slice_index, bytes_eq, Option, Some, None, option_map}
use Rattle.std.specs.Bool.{then_some}
use Rattle.std.specs.List.{AllByRecursion}
use Rattle.std.specs.Option.{option_or}
use Rattle.std.proofs.lemmas.Bool.{le-ltb, or_from, and_right}
use Rattle.jpeg_marker.specs.FirstWalks.{opening_walk}
use Rattle.scan_spec.specs.Slots.{shape_of}
use Rattle.box_format.specs.Parts.{BoxParts, BoxSeen, magic, pad_byte, list_bytes, bad_start, box_cut}
use Rattle.box_format.specs.Raws.{Raw}
use Rattle.box_format.specs.Versions.{layout_of, version_in, is_version, fewest_scans, most_scans, IsRead}
use Rattle.box_format.specs.Containers.{container_bytes, AreScans, all_parts, all_plans}
use Rattle.box_format.specs.Fields.{raws_as, scans_in, fields_place, named_end}
use Rattle.box_format.specs.Checks.{PassesAs, HeadersPass, early_fault, late_fault, is_cut, is_bad_chunk, is_bad_pad, are_bad_places, are_complete, some_are_wrong, segments_of, are_wrong_scans, scans_fault, boxes_of}
use Rattle.box_format.specs.Laws.{ContainerPasses}
use Rattle.box_format.specs.declared.version.Version.{Version}
use Rattle.box_format.specs.declared.version.Version.TheVariants.{First, Second, Third, Fourth, Fifth}
use Rattle.box_format.specs.declared.refusal.BoxRefusal.{BoxRefusal}
use Rattle.box_format.specs.declared.refusal.BoxRefusal.TheVariants.{BoxMagic, BoxVersion, BoxCut, BoxSegments, BoxChunk, BoxPad, HandoverBad, BoxPlaces, BoxLong}
use Rattle.box_format.proofs.ScansRead.{ScansRead, scans_read}
use Rattle.box_format.proofs.ScansChecked.{IsChecked, all_checked, all_can, all_said, have_trailer, trailer_fits, raws_like, boxes_again, headers_pass, complete, none_wrong, segments_same, count_same}

-- ---- the checks before the headers

three_none : (a b c : Bool) (r s t : BoxRefusal) → a ≡ false → b ≡ false → c ≡ false
    → cond a (Some r) (cond b (Some s) (cond c (Some t) None)) ≡ None
three_none a b c r s t e f g = rw (e, f, g) refl

early_none : (versions : List Version) (v : Version) (bytes : List ℕ) (bs : List BoxParts)
    → IsRead versions v → ScansRead v bytes bs → early_fault versions (layout_of v) bytes ≡ None
unfolding early_fault
early_none versions v bytes bs known read =
    let l = layout_of v in
    let begins : not (bytes_eq (take 4 bytes) magic) ≡ false =
    ap (λ (l : List ℕ). not (bytes_eq l magic)) read.begins in
    let said : not (is_version versions (slice_index bytes 4)) ≡ false =
    ap (λ (n : ℕ). not (is_version versions n)) read.byte ∙ ap not known in
    let version : (nat_lt 4 (length bytes) && not (is_version versions (slice_index bytes 4)))
    ≡ false =
    and_right (nat_lt 4 (length bytes)) (not (is_version versions (slice_index bytes 4))) said in
    let end = read.end in
    let whole : is_cut l bytes ≡ false =
    or_from (nat_lt (length bytes) (fields_place l bytes (scans_in l bytes)))
    (nat_lt (length bytes) (named_end l bytes))
    (le-ltb (length bytes) (fields_place l bytes (scans_in l bytes)) read.fields)
    (le-ltb (length bytes) (named_end l bytes) (omega (arith, end))) in
    three_none (not (bytes_eq (take 4 bytes) magic))
    (nat_lt 4 (length bytes) && not (is_version versions (slice_index bytes 4)))
    (is_cut l bytes) BoxMagic BoxVersion BoxCut begins version whole

-- ---- those after them

one_none : (bad_chunk bad_pad bad_places : Bool) (o : Option ℕ) (first : ℕ)
    (later : Option BoxRefusal) → bad_chunk ≡ false → bad_pad ≡ false → o ≡ None
    → bad_places ≡ false → later ≡ None
    → option_or (option_or (then_some bad_chunk BoxChunk) (option_or (then_some bad_pad BoxPad)
    (option_or (option_map (λ i. HandoverBad (first + i)) o) (then_some bad_places BoxPlaces))))
    later ≡ None
one_none c p k o first later e f g h i = rw (e, f, g, h, i) refl

faults_none : (v : Version) (first : ℕ) (scans : List BoxSeen) → AllByRecursion (IsChecked v) scans
    → scans_fault first (all_plans scans) (raws_like scans) ≡ None
faults_none v first [] all = refl
faults_none v first (s ∷ scans) all =
    one_none (is_bad_chunk s.plan.down s.parts.header s.parts.trailer s.parts.chunk)
    (is_bad_pad (layout_of s.parts.version).listed (shape_of s.plan) (pad_byte s.parts.pads)
    (list_bytes s.parts.pads))
    (are_bad_places (length s.parts.header) s.parts.places)
    (bad_start (shape_of s.plan) (box_cut s.plan s.parts.chunk (length s.parts.handovers)) 0
    s.parts.handovers)
    first
    (scans_fault (first + length s.parts.handovers) (all_plans scans) (raws_like scans))
    all.0.chunk all.0.pad all.0.starts all.0.places
    (faults_none v (first + length s.parts.handovers) scans all.1)

not_wrong_scans : (v : Version) (scans : List BoxSeen) → AreScans v scans
    → AllByRecursion (IsChecked v) scans
    → are_wrong_scans (layout_of v) (all_plans scans) (raws_like scans) ≡ false
not_wrong_scans v scans are all =
    let l = layout_of v in
    let n = length (raws_like scans) in
    let wrong = some_are_wrong l.most (all_plans scans) (raws_like scans) in
    let more = nat_lt l.most (segments_of (raws_like scans)) in
    let count = count_same scans in
    let segments = segments_same scans in
    let enough = are.enough in
    let most = are.most in
    let few = are.few in
    or_from (nat_lt n (fewest_scans l))
    (nat_lt (most_scans l) n || (not (are_complete (all_plans scans)) || (wrong || more)))
    (le-ltb n (fewest_scans l) (omega (arith, count, enough)))
    (or_from (nat_lt (most_scans l) n) (not (are_complete (all_plans scans)) || (wrong || more))
    (le-ltb (most_scans l) n (omega (arith, count, most)))
    (or_from (not (are_complete (all_plans scans))) (wrong || more)
    (ap not (complete opening_walk scans are.each))
    (or_from wrong more (none_wrong v scans all)
    (le-ltb l.most (segments_of (raws_like scans)) (omega (arith, segments, few))))))

late_three : (a d : Bool) (o : Option BoxRefusal) (r u : BoxRefusal) → a ≡ false → o ≡ None
    → d ≡ false → option_or (then_some a r) (option_or o (then_some d u)) ≡ None
late_three a d o r u e f g = rw (e, f, g) refl

late_none : (v : Version) (scans : List BoxSeen) (bytes : List ℕ) → AreScans v scans
    → AllByRecursion (IsChecked v) scans → ScansRead v bytes (all_parts scans)
    → late_fault v (all_plans scans) bytes ≡ None
unfolding late_fault
late_none v scans bytes are all read =
    let l = layout_of v in
    let plans = all_plans scans in
    late_three (are_wrong_scans l plans (raws_as v bytes))
    (nat_lt 0 (length (drop (named_end l bytes) bytes))) (scans_fault 0 plans (raws_as v bytes))
    BoxSegments BoxLong
    (ap (are_wrong_scans l plans) read.raws ∙ not_wrong_scans v scans are all)
    (ap (scans_fault 0 plans) read.raws ∙ faults_none v 0 scans all)
    (ap (λ (l : List ℕ). nat_lt 0 (length l)) read.rest)

-- ---- so it passes

-- with the version that its bytes say
abbrev Passes : List Version → List BoxSeen → List ℕ → Version → Type 0
Passes versions scans bytes v =
    PassesAs v versions (all_plans scans) bytes
    × (boxes_of (all_plans scans) (raws_as v bytes) ≡ scans)

passes : (versions : List Version) (v : Version) (scans : List BoxSeen) (bytes : List ℕ)
    → IsRead versions v → AreScans v scans → AllByRecursion (IsChecked v) scans
    → ScansRead v bytes (all_parts scans) → Passes versions scans bytes (version_in bytes)
passes versions v scans bytes known are all read =
    subst (Passes versions scans bytes) (sym read.version) (
      record {
        early = early_none versions v bytes (all_parts scans) known read;
        headers = subst (λ (raws : List Raw). HeadersPass opening_walk raws (all_plans scans))
            (sym read.raws) (headers_pass opening_walk scans are.each);
        late = late_none v scans bytes are all read;
      },
      ap (boxes_of (all_plans scans)) read.raws ∙ boxes_again v scans all,
    )

most_one : (v : Version) → (layout_of v).several ≡ false → most_scans (layout_of v) ≤ 1
most_one First e = omega arith
most_one Second e = omega arith
most_one Third e = omega arith
most_one Fourth e = cc
most_one Fifth e = omega arith

pub least : (v : Version) → 1 ≤ fewest_scans (layout_of v)
least First = omega arith
least Second = omega arith
least Third = omega arith
least Fourth = omega arith
least Fifth = omega arith

parts_count : (scans : List BoxSeen) → length (all_parts scans) ≡ length scans
parts_count [] = refl
parts_count (s ∷ scans) = let e = parts_count scans in omega arith

pub container_passes : ContainerPasses
container_passes versions v scans known are =
    let all = all_checked v opening_walk scans are.each are.versions in
    let enough = are.enough in
    let most = are.most in
    let low = least v in
    passes versions v scans (container_bytes v (all_parts scans)) known are all
    (scans_read v (all_parts scans) (all_can v scans all) (all_said v scans all)
    (have_trailer opening_walk scans are.each)
    (λ e. let one = most_one v e in omega (arith, one, enough, most, low, parts_count scans))
    (trailer_fits opening_walk scans are.each))
