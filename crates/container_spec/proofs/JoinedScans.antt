-- Joined segments of scans without a chunk are a file exactly if those of each scan are.
use Rattle.std.proofs.Common.{◌≡◌, ℕ, ◌+◌, ◌-◌, ◌<◌, ◌≤◌, Bool, true, false, if◌then◌else◌, List, [], ◌∷◌, ◌++◌, length, map, Option, Some, None, refl, sym, ap, ap₂, subst, ◌∙◌, arith, append_assoc, append-nil}
use Rattle.std.specs.Prelude.{◌&&◌, option_map}
use Rattle.std.specs.List.{AllByRecursion, range_with_len}
use Rattle.std.proofs.lemmas.Bool.{and_parts, le-ltb, lt-ltb}
use Rattle.scan_spec.specs.Pads.{is_spelled}
use Rattle.handover.specs.PadSums.{no_pads, pads_with}
use Rattle.handover.specs.declared.pads.PadSum.{PadSum}
use Rattle.handover.specs.declared.outcome.StreamFault.{StreamFault}
use Rattle.box_format.specs.Parts.{BoxSeen}
use Rattle.box_format.proofs.Lists.{sum_first}
use Rattle.container_spec.specs.Segments.{Output, segment_output}
use Rattle.container_spec.proofs.JoinedSegments.{Joined, joined}
use Rattle.container_spec.specs.Indexed.{outputs_of}
use Rattle.container_spec.specs.Meanings.{Meaning, Restored, PadSpelled, Faulty, segment_in}
use Rattle.container_spec.specs.declared.kind.Kind.TheVariants.{File}
use Rattle.container_spec.specs.Portions.{ending_by, whole}
use Rattle.container_spec.proofs.RestoredMeanings.{IsRestored, pad_told, restored}
use Rattle.box_format.specs.Containers.{all_parts, segment_count, trailer_of}
use Rattle.container_spec.specs.ScansMeanings.{fault_after, lead_of, led_output, output_from, scan_of}
use Rattle.handover.specs.ScanSums.{ScanPads, sums_of, sums_with, sum_in}
use Rattle.handover.proofs.PadsSummed.{sums_none, in_none, in_own, in_with, in_later, in_earlier}
use Rattle.container_spec.specs.ScansJoined.{Scanned, ScansJoined, scans_joined, all_spelled, first_header}
use Rattle.container_spec.proofs.JoinedLists.{mapped_in_two, followed, joined_on, of_scan, led, one_scan}

-- ---- the segments of scans from one on

abbrev scanned : ℕ → Output → Scanned
scanned scan output = (scan, output)

-- segment i of scans; `scan` is the first one's number, and `first` segments are before it
abbrev scanned_at : Bool → ℕ → ℕ → List BoxSeen → ℕ → Scanned
scanned_at later first scan scans i =
    scanned (scan_of scan scans i) (output_from later first scans i)

abbrev all_from : Bool → ℕ → ℕ → List BoxSeen → ScansJoined
all_from later first scan scans =
    scans_joined (map (scanned_at later first scan scans) (range_with_len 0 (segment_count scans)))

-- the segments of one scan
abbrev pub own : BoxSeen → Joined
own s = joined (outputs_of s.plan s.parts)

abbrev own_from : Bool → ℕ → ℕ → BoxSeen → ScansJoined
own_from later first scan s = of_scan first scan (lead_of later s.parts.header 0) (own s)

all_next : (later : Bool) (first scan : ℕ) (s : BoxSeen) (scans : List BoxSeen)
    → 0 < length s.parts.handovers
    → all_from later first scan (s ∷ scans)
    ≡ followed (own_from later first scan s) (own_from later first scan s).fault
    (all_from true (first + length s.parts.handovers) (scan + 1) scans)
all_next later first scan s scans some =
    let k : ℕ = length s.parts.handovers in
    let n : ℕ = segment_count scans in
    let f : ℕ → Output = λ i. segment_output (segment_in s.plan s.parts i) in
    let g : ℕ → Scanned = λ i. led first scan (lead_of later s.parts.header i) (f i) in
    let h : ℕ → Scanned = scanned_at true (first + k) (scan + 1) scans in
    let by : Bool → ℕ → ℕ → Scanned =
    λ t i m. scanned (if t then scan else scan_of (scan + 1) scans m)
    (if t then led_output later first s i else output_from true (first + k) scans m) in
    let here : (i : ℕ) → i < k → scanned_at later first scan (s ∷ scans) i ≡ g i =
    λ i below. ap (λ t. by t i (i - k)) (lt-ltb i k below) in
    let more : (i : ℕ) → scanned_at later first scan (s ∷ scans) (k + i) ≡ h i =
    λ i. let past : k ≤ k + i = omega arith in
    let e : (k + i) - k ≡ i = omega arith in
    ap (λ t. by t (k + i) ((k + i) - k)) (le-ltb (k + i) k past)
    ∙ ap (λ m. by false (k + i) m) e in
    ap (λ m. scans_joined (map (scanned_at later first scan (s ∷ scans)) (range_with_len 0 m)))
    (sum_first k (map (λ (s : BoxSeen). length s.parts.handovers) scans))
    ∙ ap scans_joined (mapped_in_two (scanned_at later first scan (s ∷ scans)) g h k n here more)
    ∙ joined_on (map g (range_with_len 0 k)) (map h (range_with_len 0 n))
    ∙ ap (λ (j : ScansJoined). followed j j.fault (scans_joined (map h (range_with_len 0 n))))
    (one_scan later first scan s.parts.header f k some)

-- ---- pad bits of other scans

spelled_without : (k scan : ℕ) (p : PadSum) (sums : ScanPads) (scans : List BoxSeen) → scan < k
    → k + length scans ≤ 4
    → all_spelled k scans (sums_with (sums_of scan p) sums) ≡ all_spelled k scans sums
spelled_without k scan p sums [] less few = refl
spelled_without k scan p sums (s ∷ scans) less few =
    let below : k ≤ 3 = omega arith in
    ap₂ (λ (q : PadSum) (t : Bool). is_spelled s.parts.pads q && t)
    (in_with k (sums_of scan p) sums below
    ∙ ap (λ (q : PadSum). pads_with q (sum_in sums k)) (in_later scan k p less below))
    (spelled_without (k + 1) scan p sums scans (omega arith) (omega arith))

spelled_next : (scan : ℕ) (p : PadSum) (sums : ScanPads) (s : BoxSeen) (scans : List BoxSeen)
    → scan + length (s ∷ scans) ≤ 4 → sum_in sums scan ≡ no_pads
    → all_spelled scan (s ∷ scans) (sums_with (sums_of scan p) sums)
    ≡ is_spelled s.parts.pads p && all_spelled (scan + 1) scans sums
spelled_next scan p sums s scans few none =
    let below : scan ≤ 3 = omega arith in
    ap₂ (λ (q : PadSum) (t : Bool). is_spelled s.parts.pads q && t)
    (in_with scan (sums_of scan p) sums below
    ∙ ap₂ pads_with (in_own scan p below) none ∙ sums_none p)
    (spelled_without (scan + 1) scan p sums scans (omega arith) (omega arith))

followed_before : (k scan first : ℕ) (lead : List ℕ) (j : Joined) (f : Option StreamFault)
    (y : ScansJoined) → k < scan → scan ≤ 3 → sum_in y.padded k ≡ no_pads
    → sum_in (followed (of_scan first scan lead j) f y).padded k ≡ no_pads
followed_before k scan first lead j (Some fault) y less few none =
    in_earlier scan k j.padded less few
followed_before k scan first lead j None y less few none =
    in_with k (sums_of scan j.padded) y.padded (omega arith)
    ∙ ap₂ pads_with (in_earlier scan k j.padded less few) none

-- each scan has a segment
abbrev pub HaveSegments : List BoxSeen → Type 0
HaveSegments scans = AllByRecursion (λ (s : BoxSeen). 0 < length s.parts.handovers) scans

pads_before : (later : Bool) (first scan : ℕ) (scans : List BoxSeen) → scan + length scans ≤ 4
    → HaveSegments scans → (k : ℕ) → k < scan
    → sum_in (all_from later first scan scans).padded k ≡ no_pads
pads_before later first scan [] few some k less = in_none k
pads_before later first scan (s ∷ scans) few some k less =
    ap (λ (a : ScansJoined). sum_in a.padded k) (all_next later first scan s scans some.0)
    ∙ followed_before k scan first (lead_of later s.parts.header 0) (own s)
    (own_from later first scan s).fault
    (all_from true (first + length s.parts.handovers) (scan + 1) scans) less (omega arith)
    (pads_before true (first + length s.parts.handovers) (scan + 1) scans (omega arith) some.1 k
    (omega arith))

-- ---- one scan and those after it

-- joined segments of scans, after a prefix, are a file; `scan` is the first one's number
pub record AreFile (prefix : List ℕ) (scan : ℕ) (scans : List BoxSeen) (all : ScansJoined)
    (file : List ℕ) : Type 0 where
  pub none : all.fault ≡ None
  pub text : file ≡ prefix ++ all.bytes ++ trailer_of (all_parts scans)
  pub spelled : all_spelled scan scans all.padded ≡ true

-- those of one scan and of others, by the fault of the one
abbrev by_fault : ℕ → ℕ → List ℕ → Joined → ScansJoined → Option StreamFault → ScansJoined
by_fault first scan lead j y f =
    followed (of_scan first scan lead (record j { fault = f })) (option_map (fault_after first) f) y

first_good : (first scan : ℕ) (lead : List ℕ) (j : Joined) (y : ScansJoined)
    (f : Option StreamFault) → (by_fault first scan lead j y f).fault ≡ None → f ≡ None
first_good first scan lead j y None e = refl
first_good first scan lead j y (Some fault) e =
    let f : Some (fault_after first fault) ≡ None = e in absurd (cc)

abbrev prefix_of : Bool → List BoxSeen → List ℕ
prefix_of later scans = if later then [] else first_header scans

lead_moved : (later : Bool) (s : BoxSeen) (scans : List BoxSeen) (bytes : List ℕ)
    → prefix_of later (s ∷ scans) ++ (lead_of later s.parts.header 0 ++ bytes)
    ≡ s.parts.header ++ bytes
lead_moved true s scans bytes = refl
lead_moved false s scans bytes = refl

texts_joined : (header trailer prefix lead bytes more end : List ℕ)
    → prefix ++ (lead ++ bytes) ≡ header ++ bytes → trailer ++ more ≡ more ++ trailer
    → ((header ++ bytes) ++ trailer) ++ (more ++ end)
    ≡ (prefix ++ ((lead ++ bytes) ++ more)) ++ (trailer ++ end)
texts_joined header trailer prefix lead bytes more end same moves =
    let a : ((header ++ bytes) ++ trailer) ++ (more ++ end)
    ≡ (header ++ bytes) ++ ((trailer ++ more) ++ end) = simp append_assoc in
    let b : (prefix ++ ((lead ++ bytes) ++ more)) ++ (trailer ++ end)
    ≡ (prefix ++ (lead ++ bytes)) ++ ((more ++ trailer) ++ end) = simp append_assoc in
    a ∙ ap₂ (λ (l m : List ℕ). l ++ (m ++ end)) (sym same) moves ∙ sym b

-- the trailer of a scan that isn't the last one is empty
abbrev pub IsLastOrBare : BoxSeen → List BoxSeen → Type 0
IsLastOrBare s [] = Unit {0}
IsLastOrBare s (t ∷ scans) = s.parts.trailer ≡ []

trailer_moves : (s : BoxSeen) (scans : List BoxSeen) (first scan : ℕ) → IsLastOrBare s scans
    → s.parts.trailer ++ (all_from true first scan scans).bytes
    ≡ (all_from true first scan scans).bytes ++ s.parts.trailer
trailer_moves s [] first scan last = append-nil s.parts.trailer
trailer_moves s (t ∷ scans) first scan bare =
    let bytes : List ℕ = (all_from true first scan (t ∷ scans)).bytes in
    ap (λ (l : List ℕ). l ++ bytes) bare
    ∙ sym (ap (λ (l : List ℕ). bytes ++ l) bare ∙ append-nil bytes)

-- a scan's own file
abbrev text_of : BoxSeen → List ℕ
text_of s = (s.parts.header ++ (own s).bytes) ++ s.parts.trailer

module _ (later : Bool) (first scan : ℕ) (s : BoxSeen) (scans : List BoxSeen)
    (few : scan + length (s ∷ scans) ≤ 4)
    (some : HaveSegments (s ∷ scans))
    (last : IsLastOrBare s scans) where
  abbrev lead : List ℕ
  lead = lead_of later s.parts.header 0

  abbrev prefix : List ℕ
  prefix = prefix_of later (s ∷ scans)

  abbrev rest : ScansJoined
  rest = all_from true (first + length s.parts.handovers) (scan + 1) scans

  abbrev end : List ℕ
  end = trailer_of (all_parts scans)

  texts_are : text_of s ++ (rest.bytes ++ end)
      ≡ (prefix ++ ((lead ++ (own s).bytes) ++ rest.bytes)) ++ (s.parts.trailer ++ end)
  texts_are =
      texts_joined s.parts.header s.parts.trailer prefix lead (own s).bytes rest.bytes end
      (lead_moved later s scans (own s).bytes)
      (trailer_moves s scans (first + length s.parts.handovers) (scan + 1) last)

  spelled_are : all_spelled scan (s ∷ scans)
      (sums_with (sums_of scan (own s).padded) rest.padded)
      ≡ is_spelled s.parts.pads (own s).padded && all_spelled (scan + 1) scans rest.padded
  spelled_are =
      spelled_next scan (own s).padded rest.padded s scans few
      (pads_before true (first + length s.parts.handovers) (scan + 1) scans (omega (arith, few))
      some.1 scan (omega arith))

  all_good : (own s).fault ≡ None
      → all_from later first scan (s ∷ scans) ≡ by_fault first scan lead (own s) rest None
  all_good none =
      all_next later first scan s scans some.0 ∙ ap (by_fault first scan lead (own s) rest) none

  one_more_file : (one more : List ℕ) → IsRestored s.parts (own s) one
      → AreFile [] (scan + 1) scans rest more
      → AreFile prefix scan (s ∷ scans) (all_from later first scan (s ∷ scans)) (one ++ more)
  one_more_file one more a b =
      subst (λ (all : ScansJoined). AreFile prefix scan (s ∷ scans) all (one ++ more))
      (sym (all_good a.none)) record {
        none = b.none;
        text = ap₂ (λ (l m : List ℕ). l ++ m) a.text b.text ∙ texts_are;
        spelled = spelled_are ∙ ap₂ (λ (x y : Bool). x && y) a.told b.spelled;
      }

  one_of_file : (file : List ℕ)
      → AreFile prefix scan (s ∷ scans) (all_from later first scan (s ∷ scans)) file
      → IsRestored s.parts (own s) (text_of s)
      × AreFile [] (scan + 1) scans rest (rest.bytes ++ end)
      × (file ≡ text_of s ++ (rest.bytes ++ end))
  one_of_file file are =
      let none = first_good first scan lead (own s) rest (own s).fault
      (ap (λ (all : ScansJoined). all.fault) (sym (all_next later first scan s scans some.0))
      ∙ are.none) in
      let good = subst (λ (all : ScansJoined). AreFile prefix scan (s ∷ scans) all file)
      (all_good none) are in
      let told = and_parts (is_spelled s.parts.pads (own s).padded)
      (all_spelled (scan + 1) scans rest.padded) (sym spelled_are ∙ good.spelled) in (
        record { none = none; text = refl; told = told.0 },
        record { none = good.none; text = refl; spelled = told.1 },
        good.text ∙ sym texts_are,
      )

-- ---- all scans

-- each scan is restored, and a file is what they are restored to, one after another
abbrev pub EachRestored : List BoxSeen → List ℕ → Type 0
EachRestored [] file = file ≡ []
EachRestored (s ∷ scans) file =
    (one : List ℕ) × (more : List ℕ) × IsRestored s.parts (own s) one × EachRestored scans more
    × (file ≡ one ++ more)

-- the trailers of all but the last one are empty
abbrev pub AreBare : List BoxSeen → Type 0
AreBare [] = Unit {0}
AreBare (s ∷ scans) = IsLastOrBare s scans × AreBare scans

pub each_joined : (later : Bool) (first scan : ℕ) (scans : List BoxSeen) (file : List ℕ)
    → scan + length scans ≤ 4
    → HaveSegments scans → AreBare scans
    → EachRestored scans file
    → AreFile (prefix_of later scans) scan scans (all_from later first scan scans) file
each_joined true first scan [] file few some bare each =
    record { none = refl; text = each; spelled = refl }
each_joined false first scan [] file few some bare each =
    record { none = refl; text = each; spelled = refl }
each_joined later first scan (s ∷ scans) file few some bare (one, more, so, rest, text) =
    subst (AreFile (prefix_of later (s ∷ scans)) scan (s ∷ scans)
    (all_from later first scan (s ∷ scans))) (sym text)
    (one_more_file later first scan s scans few some bare.0 one more so
    (each_joined true (first + length s.parts.handovers) (scan + 1) scans more (omega arith) some.1
    bare.1 rest))

pub joined_each : (later : Bool) (first scan : ℕ) (scans : List BoxSeen) (file : List ℕ)
    → scan + length scans ≤ 4
    → HaveSegments scans → AreBare scans
    → AreFile (prefix_of later scans) scan scans (all_from later first scan scans) file
    → EachRestored scans file
joined_each true first scan [] file few some bare are = are.text
joined_each false first scan [] file few some bare are = are.text
joined_each later first scan (s ∷ scans) file few some bare are =
    let k : ℕ = first + length s.parts.handovers in
    let bytes : List ℕ = (all_from true k (scan + 1) scans).bytes in
    let two = one_of_file later first scan s scans few some bare.0 file are in (
      text_of s,
      bytes ++ trailer_of (all_parts scans),
      two.0,
      joined_each true k (scan + 1) scans (bytes ++ trailer_of (all_parts scans)) (omega arith)
          some.1 bare.1 two.1,
      two.2,
    )

-- ---- what they stand for

abbrev meaning : List ℕ → Bool → Meaning
meaning bytes spelled = record { bytes = bytes; verdict = if spelled then Restored else PadSpelled }

pub file_means : (scans : List BoxSeen) (all : ScansJoined) (file : List ℕ)
    → AreFile (first_header scans) 0 scans all file
    → ending_by File scans (whole scans) all all.fault ≡ restored file
file_means scans all file are =
    ap (ending_by File scans (whole scans) all) are.none ∙ ap₂ meaning (sym are.text) are.spelled

pub means_file : (scans : List BoxSeen) (all : ScansJoined) (fault : Option StreamFault)
    (file : List ℕ) → all.fault ≡ fault
    → restored file ≡ ending_by File scans (whole scans) all fault
    → AreFile (first_header scans) 0 scans all file
means_file scans all (Some fault) file is e =
    absurd (let f : Restored ≡ Faulty fault = ap (λ (m : Meaning). m.verdict) e in cc)
means_file scans all None file is e = record {
  none = is;
  text = ap (λ (m : Meaning). m.bytes) e;
  spelled = pad_told (all_spelled 0 scans all.padded) (ap (λ (m : Meaning). m.verdict) e);
}
