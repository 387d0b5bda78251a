-- Joined segments of several scans: of two lists, and of one scan.
use Rattle.std.proofs.Common.{◌≡◌, ℕ, zero, suc, ◌+◌, ◌<◌, ◌≤◌, Bool, true, false, if◌then◌else◌, List, [], ◌∷◌, ◌++◌, map, Option, Some, None, refl, sym, ap, ap₂, ◌∙◌, arith, append_assoc}
use Rattle.std.specs.Prelude.{◌==◌, option_map}
use Rattle.std.proofs.lemmas.Bool.Decides.{nat_tests}
use Rattle.std.proofs.lemmas.List.{map-append}
use Rattle.std.specs.List.{range_with_len}
use Rattle.handover.specs.declared.pads.PadSum.{PadSum}
use Rattle.handover.specs.declared.outcome.StreamFault.{StreamFault}
use Rattle.handover.specs.declared.outcome.Outcome.{Outcome}
use Rattle.handover.specs.declared.outcome.Outcome.TheVariants.{Good, Bad}
use Rattle.container_spec.specs.Segments.{Output, with_prefix}
use Rattle.container_spec.proofs.JoinedSegments.{Joined, joined, joined_with}
use Rattle.container_spec.proofs.Numbered.{mapped_same}
use Rattle.container_spec.specs.ScansMeanings.{fault_after, outcome_after, lead_of}
use Rattle.handover.specs.ScanSums.{ScanPads, no_sums, sums_of, sums_with}
use Rattle.handover.proofs.PadsSummed.{of_none, of_with, sums_of_more}
use Rattle.container_spec.specs.ScansJoined.{Scanned, ScansJoined, scanned_with, scans_joined}

-- ---- numbers

numbers_on : (from k n : ℕ) → range_with_len from (k + n) ≡ range_with_len from k ++ range_with_len (from + k) n
numbers_on from zero n =
    let e : zero + n ≡ n = omega arith in
    let f : from + zero ≡ from = omega arith in
    ap (range_with_len from) e ∙ ap (λ m. range_with_len m n) (sym f)
numbers_on from (suc k) n =
    let e : suc k + n ≡ suc (k + n) = omega arith in
    let f : (from + 1) + k ≡ from + suc k = omega arith in
    ap (range_with_len from) e ∙ ap (λ (l : List ℕ). from ∷ l) (numbers_on (from + 1) k n)
    ∙ ap (λ m. from ∷ (range_with_len (from + 1) k ++ range_with_len m n)) f

-- the values of f from k + `from` on
shifted : {A : Type 0} (f : ℕ → A) (k from n : ℕ)
    → map f (range_with_len (k + from) n) ≡ map (λ i. f (k + i)) (range_with_len from n)
shifted f k from zero = refl
shifted f k from (suc n) =
    let e : (k + from) + 1 ≡ k + (from + 1) = omega arith in
    ap (λ m. f (k + from) ∷ map f (range_with_len m n)) e
    ∙ ap (λ l. f (k + from) ∷ l) (shifted f k (from + 1) n)

-- f is g below k, and h after k
pub mapped_in_two : {A : Type 0} (f g h : ℕ → A) (k n : ℕ)
    → ((i : ℕ) → i < k → f i ≡ g i) → ((i : ℕ) → f (k + i) ≡ h i)
    → map f (range_with_len 0 (k + n)) ≡ map g (range_with_len 0 k) ++ map h (range_with_len 0 n)
mapped_in_two f g h k n here more =
    let z : 0 + k ≡ k + 0 = omega arith in
    ap (map f) (numbers_on 0 k n) ∙ map-append f (range_with_len 0 k) (range_with_len (0 + k) n)
    ∙ ap₂ (λ a b. a ++ b)
    (mapped_same f g 0 k (λ i low within. here i (omega (arith, within))))
    (ap (λ m. map f (range_with_len m n)) z ∙ shifted f k 0 n
    ∙ mapped_same (λ i. f (k + i)) h 0 n (λ i low within. more i))

-- ---- segments of several scans, one after another

abbrev result : List ℕ → Option StreamFault → ScanPads → ScansJoined
result bytes fault padded = record { bytes = bytes; fault = fault; padded = padded }

-- joined segments before others, by their first fault, if there is one
abbrev pub followed : ScansJoined → Option StreamFault → ScansJoined → ScansJoined
followed a (Some fault) b = a
followed a None b = record {
  bytes = a.bytes ++ b.bytes;
  fault = b.fault;
  padded = sums_with a.padded b.padded;
}

good_followed : (scan : ℕ) (bytes : List ℕ) (p : PadSum) (a : ScansJoined)
    (fault : Option StreamFault) (b : ScansJoined)
    → scanned_with scan bytes (Good p) (followed a fault b)
    ≡ followed (scanned_with scan bytes (Good p) a) fault b
good_followed scan bytes p a (Some fault) b = refl
good_followed scan bytes p a None b =
    ap₂ (λ (l : List ℕ) (s : ScanPads). result l b.fault s)
    (sym (append_assoc bytes a.bytes b.bytes))
    (sums_of_more (sums_of scan p) a.padded b.padded)

with_followed : (scan : ℕ) (bytes : List ℕ) (outcome : Outcome) (a b : ScansJoined)
    → scanned_with scan bytes outcome (followed a a.fault b)
    ≡ followed (scanned_with scan bytes outcome a) (scanned_with scan bytes outcome a).fault b
with_followed scan bytes (Good p) a b = good_followed scan bytes p a a.fault b
with_followed scan bytes (Bad fault) a b = refl

-- joined segments after no intervals
none_before : (xs : List Scanned) → sums_with no_sums (scans_joined xs).padded ≡ (scans_joined xs).padded
none_before [] = refl
none_before (s ∷ xs) = by s.1.1 where
  by : (outcome : Outcome)
      → sums_with no_sums (scanned_with s.0 s.1.0 outcome (scans_joined xs)).padded
      ≡ (scanned_with s.0 s.1.0 outcome (scans_joined xs)).padded
  by (Good p) = refl
  by (Bad fault) = refl

pub joined_on : (xs ys : List Scanned)
    → scans_joined (xs ++ ys)
    ≡ followed (scans_joined xs) (scans_joined xs).fault (scans_joined ys)
joined_on [] ys =
    ap (λ (p : ScanPads). result (scans_joined ys).bytes (scans_joined ys).fault p) (sym (none_before ys))
joined_on (s ∷ xs) ys =
    ap (scanned_with s.0 s.1.0 s.1.1) (joined_on xs ys)
    ∙ with_followed s.0 s.1.0 s.1.1 (scans_joined xs) (scans_joined ys)

-- ---- the segments of one scan

-- what they are joined to, after other bytes, if `first` segments are before the scan
abbrev pub of_scan : ℕ → ℕ → List ℕ → Joined → ScansJoined
of_scan first scan lead j = record {
  bytes = lead ++ j.bytes;
  fault = option_map (fault_after first) j.fault;
  padded = sums_of scan j.padded;
}

one_more : (first scan : ℕ) (lead bytes : List ℕ) (outcome : Outcome) (j : Joined)
    → scanned_with scan (lead ++ bytes) (outcome_after first outcome) (of_scan first scan [] j)
    ≡ of_scan first scan lead (joined_with bytes outcome j)
one_more first scan lead bytes (Good p) j =
    ap₂ (λ (l : List ℕ) (s : ScanPads). result l (option_map (fault_after first) j.fault) s)
    (append_assoc lead bytes j.bytes) (of_with scan p j.padded)
one_more first scan lead bytes (Bad fault) j =
    ap (λ (s : ScanPads). result (lead ++ bytes) (Some (fault_after first fault)) s)
    (sym (of_none scan))

-- a segment's output after other bytes
abbrev pub led : ℕ → ℕ → List ℕ → Output → Scanned
led first scan lead output =
    (scan, with_prefix lead (output.0, outcome_after first output.1))

pub others : (first scan : ℕ) (f : ℕ → Output) (ns : List ℕ)
    → scans_joined (map (λ i. led first scan [] (f i)) ns)
    ≡ of_scan first scan [] (joined (map f ns))
others first scan f [] = ap (λ (s : ScanPads). result [] None s) (sym (of_none scan))
others first scan f (n ∷ ns) =
    ap (scanned_with scan (f n).0 (outcome_after first (f n).1)) (others first scan f ns)
    ∙ one_more first scan [] (f n).0 (f n).1 (joined (map f ns))

no_lead : (later : Bool) (header : List ℕ) (i : ℕ) → 1 ≤ i → lead_of later header i ≡ []
no_lead false header i low = refl
no_lead true header i low =
    let e : i == 0 ≡ false = grind (arith, nat_tests) in
    ap (λ (t : Bool). if t then header else []) e

pub one_scan : (later : Bool) (first scan : ℕ) (header : List ℕ) (f : ℕ → Output) (count : ℕ)
    → 0 < count
    → scans_joined
    (map (λ i. led first scan (lead_of later header i) (f i)) (range_with_len 0 count))
    ≡ of_scan first scan (lead_of later header 0) (joined (map f (range_with_len 0 count)))
one_scan later first scan header f zero some = absurd (omega arith)
one_scan later first scan header f (suc k) some =
    let lead : List ℕ = lead_of later header 0 in
    let rest = mapped_same (λ i. led first scan (lead_of later header i) (f i))
    (λ i. led first scan [] (f i)) 1 k
    (λ i low within. ap (λ (l : List ℕ). led first scan l (f i)) (no_lead later header i low)) in
    ap (λ (l : List Scanned). scanned_with scan (lead ++ (f 0).0) (outcome_after first (f 0).1)
    (scans_joined l)) rest
    ∙ ap (scanned_with scan (lead ++ (f 0).0) (outcome_after first (f 0).1))
    (others first scan f (range_with_len 1 k))
    ∙ one_more first scan lead (f 0).0 (f 0).1 (joined (map f (range_with_len 1 k)))
