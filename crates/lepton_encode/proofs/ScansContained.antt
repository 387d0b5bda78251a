-- The scans of a file, by their headers, starts and streams, are those of its container.
use Rattle.std.proofs.Common.{◌≡◌, ℕ, zero, suc, ◌+◌, ◌-◌, ◌*◌, ◌<◌, ◌≤◌, ◌^◌, Bool, true, false, if◌then◌else◌, List, [], ◌∷◌, ◌++◌, length, take, drop, map, replicate, refl, sym, ap, ap₂, ◌∙◌, subst, arith, length-drop, drop-cons, add-one, append_assoc, append-nil, get_or}
use Rattle.std.specs.Prelude.{Some, None, min}
use Rattle.std.specs.List.{AllByRecursion, range_with_len}
use Rattle.std.proofs.lemmas.Bool.{false≢true}
use Rattle.std.proofs.lemmas.List.{length-replicate}
use Rattle.std.proofs.lemmas.List.Folds.{sum_by-replicate}
use Rattle.bit_list.specs.Bits.{IsByte}
use Rattle.jpeg_marker.specs.FirstWalks.{opening_walk}
use Rattle.jpeg_marker.specs.Plans.{PlanFields, plan_at}
use Rattle.jpeg_marker.specs.Walks.{Walk, next_walk}
use Rattle.jpeg_marker.proofs.HeadersTaken.{bytes_from}
use Rattle.jpeg_marker.proofs.MovedHeaders.{at_place}
use Rattle.scan_spec.specs.FileParts.{IsScanOf, is_last}
use Rattle.scan_spec.specs.ScanLaws.{IsShape}
use Rattle.scan_spec.specs.Slots.{shape_of}
use Rattle.scan_spec.proofs.FilesOnce.{one_scan_of}
use Rattle.box_format.specs.Containers.{all_parts, container_bytes}
use Rattle.box_format.specs.Parts.{BoxParts, BoxSeen, can_pad}
use Rattle.box_format.specs.Versions.{layout_of, most_segments}
use Rattle.box_format.specs.declared.version.Version.{Version}
use Rattle.box_format.specs.declared.version.Version.TheVariants.{Fourth, Fifth}
use Rattle.box_format.proofs.OneCuts.{parts_same}
use Rattle.container_spec.specs.Files.{parts_of_file, places_of_file, plan_cut, segment_mcus, segment_place, segment_start, told_pads}
use Rattle.container_spec.specs.ScanStream.{stream_of}
use Rattle.container_spec.specs.ScansFiles.{IsScanIn, AreScansIn, IsContainerOf, share_of, version_for}
use Rattle.container_spec.proofs.CutsOfPlans.{plan_cuts}
use Rattle.container_spec.proofs.PadsTold.{second_can_pad}
use Rattle.container_spec.proofs.PlanGrids.{plan_suits}
use Rattle.container_spec.proofs.ScansRestored.{are_scans}
use Rattle.segment_code.specs.FileStarts.{StartsFields}
use Rattle.lepton_encode.specs.FileHeads.{AreHeads, EndsAt, IsHead, walk_after}
use Rattle.lepton_encode.specs.ScansMade.{AreCoded, AreScansMade, AreWithin, CanHold, HasParts, IsCoded, scan_made, scans_made}
use Rattle.lepton_encode.specs.declared.container.CodedScan.{CodedScan}
use Rattle.lepton_encode.specs.declared.heads.Head.{Head}
use Rattle.lepton_encode.proofs.HeadsFound.{bytes, can, has, header_at, known_is, last_is, long_is, plan_there, scan_of, shape_is}
use Rattle.lepton_encode.proofs.PlacesMade.{places_are}

-- ---- a scan

-- places that are kept in some versions
kept_if : (placed : Bool) (places others : List ℕ) → (placed ≡ true → places ≡ others)
    → (if placed then Some places else None) ≡ (if placed then Some others else None)
kept_if true places others same = ap (λ (ps : List ℕ). Some ps) (same refl)
kept_if false places others same = refl

module _ (v : Version) (w : Walk) (most : ℕ) (file trailer : List ℕ) (h : Head) (c : CodedScan)
    (all : AllByRecursion IsByte file) (short : length file < 2 ^ 32) (some : 0 < most)
    (listed : (layout_of v).listed ≡ true) (first : (layout_of v).placed ≡ true → w.place ≡ 0)
    (is : IsHead w file h) (coded : IsCoded most file h c) where
  abbrev pub seen : BoxSeen
  seen = record { plan = is.plan; parts = scan_made v file trailer h c }

  abbrev pub ends : EndsAt file h c.starts.trailer
  ends = record {
    mcus = coded.starts.mcus;
    pads = coded.starts.pads;
    scan = coded.starts.file.scan;
  }

  abbrev pub own : IsScanOf w (bytes w file h all is) is.plan coded.starts.mcus coded.starts.pads
      (drop c.starts.trailer file)
  own = scan_of w file h all is c.starts.trailer ends

  -- the header's bytes
  header_is : take (h.plan.header_length - h.place) (drop h.place file)
      ≡ take is.plan.header_length (drop w.place file)
  header_is =
      let long : h.plan.header_length - h.place ≡ is.plan.header_length =
      omega (arith, long_is w file h all is, is.place) in
      ap₂ (λ n p. take n (drop p file)) long is.place

  is_shape : IsShape (shape_of h.plan)
  is_shape =
      subst IsShape (sym (shape_is w file h all is))
      (plan_suits w (bytes w file h all is) is.plan (bytes_from w.place file all) is.known
      is.begins).shape_is

  some_segments : 0 < min most h.plan.down
  some_segments =
      let high = (has w file h all is).is_plan.high in
      let same = ap (λ (p : PlanFields). p.down) is.moved in
      omega (arith, high, same, some)

  -- the places in a version that keeps them
  places_same : (if (layout_of v).placed then Some c.places.items else None)
      ≡ places_of_file (layout_of v).placed is.plan coded.starts.mcus coded.starts.pads most
  places_same =
      kept_if (layout_of v).placed c.places.items _ (λ placed.
      let plan : h.plan ≡ is.plan =
      is.moved ∙ ap (λ n. plan_at n is.plan) (first placed) ∙ plan_there is.plan in
      coded.places
      ∙ places_are h.plan file most c.starts coded.starts is_shape
      (plan_cuts h.plan (min most h.plan.down) some_segments).whole
      ∙ ap (λ (p : PlanFields). map (segment_place p coded.starts.mcus coded.starts.pads most)
      (range_with_len 0 ((plan_cut p most).segments + 1))) plan)

  parts_are : scan_made v file trailer h c
      ≡ parts_of_file v is.plan coded.starts.mcus coded.starts.pads
      (take is.plan.header_length (drop w.place file)) trailer most
  parts_are =
      let mcus = coded.starts.mcus in
      let pads = coded.starts.pads in
      let kept = ap (λ (s : StartsFields). s.pads) coded.starts.are
      ∙ ap (λ (p : PlanFields). told_pads p mcus pads) is.moved in
      let handovers = ap (λ (s : StartsFields). s.handovers) coded.starts.are
      ∙ ap (λ (p : PlanFields). map (segment_start p mcus pads most)
      (range_with_len 0 (plan_cut p most).segments)) is.moved in
      let streams = coded.streams mcus pads coded.starts.file
      ∙ ap (λ (p : PlanFields). map (λ i. stream_of p (segment_mcus p mcus most i))
      (range_with_len 0 (plan_cut p most).segments)) is.moved in
      parts_same v None (if (layout_of v).placed then Some c.places.items else None) c.starts.pads
      (take (h.plan.header_length - h.place) (drop h.place file)) trailer c.starts.handovers
      (map (λ v. v.items) c.streams.items)
      (parts_of_file v is.plan mcus pads
      (take is.plan.header_length (drop w.place file)) trailer most) refl refl places_same kept
      header_is refl handovers streams

  pub scan_in : IsScanIn v (at_place w 0) most (drop w.place file) (drop c.starts.trailer file)
      trailer seen
  scan_in =
      let within = (has w file h all is).within in
      let pads = coded.starts.pads in
      record {
        mcus = coded.starts.mcus;
        pads = pads;
        is = record { header = header_at w file h all is; scan = own.scan; is = own.is; text = own.text };
        header_fits = omega (arith, within, short, length-drop w.place file);
        can = ap (λ (t : Bool). can_pad t (shape_of is.plan) (told_pads is.plan coded.starts.mcus pads))
            listed
            ∙ second_can_pad w (bytes w file h all is) (drop c.starts.trailer file) is.plan
            coded.starts.mcus pads (bytes_from w.place file all) is.known own;
        parts = parts_are;
      }

  -- the next header is after it
  pub rest_is : (after : ℕ) → EndsAt file h after → drop c.starts.trailer file ≡ drop after file
  rest_is after other =
      let next = scan_of w file h all is after other in
      (one_scan_of w (drop w.place file) (drop c.starts.trailer file) (drop after file) is.plan
      is.plan coded.starts.mcus other.mcus coded.starts.pads other.pads
      (bytes_from w.place file all) is.known own next).3

  pub has_parts : HasParts file h c
  has_parts = record {
    place = omega (arith, long_is w file h all is, is.place);
    header = (can w file h all is).within;
    trailer = coded.starts.file.scan.within;
  }

-- ---- a list from a number on

pub item_first : {A : Type 0} (items : List A) (i : ℕ) (x : A) → i < length items
    → x ≡ get_or items i x → drop i items ≡ x ∷ drop (i + 1) items
item_first {A = A} items i x below is =
    drop-cons items i x below
    ∙ ap₂ (λ (y : A) (ys : List A). y ∷ ys) (sym is) (ap (λ n. drop n items) (sym (add-one i)))

nothing_left : (heads : List Head) (i : ℕ) → length heads ≤ i → drop i heads ≡ []
nothing_left [] zero past = refl
nothing_left [] (suc i) past = refl
nothing_left (h ∷ heads) zero past = absurd (omega arith)
nothing_left (h ∷ heads) (suc i) past = nothing_left heads i (omega arith)

-- ---- scans that are coded from left to right

module _ (most : ℕ) (file : List ℕ) (heads : List Head) (i : ℕ) (items : List CodedScan)
    (done : (later : List CodedScan) → AreCoded most file (drop i heads) later
    → AreCoded most file heads (items ++ later)) where
  pub coded_more : (h : Head) (c : CodedScan) (more : List CodedScan)
      → drop i heads ≡ h ∷ drop (i + 1) heads → more ≡ items ++ c ∷ [] → IsCoded most file h c
      → (later : List CodedScan) → AreCoded most file (drop (i + 1) heads) later
      → AreCoded most file heads (more ++ later)
  coded_more h c more split made coded later are =
      subst (AreCoded most file heads)
      (sym (ap (λ (l : List CodedScan). l ++ later) made ∙ append_assoc items (c ∷ []) later))
      (done (c ∷ later)
      (subst (λ (l : List Head). AreCoded most file l (c ∷ later)) (sym split) (coded, are)))

  pub coded_all : length heads ≤ i → AreCoded most file heads items
  coded_all past =
      subst (AreCoded most file heads) (append-nil items)
      (done [] (subst (λ (l : List Head). AreCoded most file l []) (sym (nothing_left heads i past))
      tt))

-- ---- all scans

record AreMade (v : Version) (w : Walk) (file : List ℕ) (most : ℕ) (heads : List Head)
    (coded : List CodedScan) : Type 0 where
  boxes : List BoxSeen
  trailer : List ℕ
  are : AreScansIn v (at_place w 0) (replicate (length heads) most) (drop w.place file) trailer
      boxes
  same : all_parts boxes ≡ scans_made v file heads coded
  fits : length trailer ≤ length file
  counted : length boxes ≡ length heads
  within : AreWithin file heads coded

-- a scan before others
before_others : (v : Version) (w : Walk) (most : ℕ) (mosts from rest trailer : List ℕ) (s : BoxSeen)
    (boxes : List BoxSeen) → IsScanIn v w most from rest [] s → is_last s.plan ≡ false
    → AreScansIn v (next_walk s.plan.known 0) mosts rest trailer boxes
    → AreScansIn v w (most ∷ mosts) from trailer (s ∷ boxes)
before_others v w most [] from rest trailer s [] is more are = absurd are
before_others v w most (m ∷ mosts) from rest trailer s [] is more are = absurd are
before_others v w most mosts from rest trailer s (t ∷ boxes) is more are = (rest, is, more, are)

module _ (v : Version) (file : List ℕ) (most : ℕ) (all : AllByRecursion IsByte file)
    (short : length file < 2 ^ 32) (some : 0 < most) (listed : (layout_of v).listed ≡ true) where
  made_of : (w : Walk) (heads : List Head) (coded : List CodedScan)
      → ((layout_of v).placed ≡ true → (w.place ≡ 0) × (length heads ≤ 1))
      → AreHeads w file heads → AreCoded most file heads coded → AreMade v w file most heads coded
  made_of w [] coded alone are have = absurd are
  made_of w (h ∷ []) [] alone are have = absurd have
  made_of w (h ∷ g ∷ heads) [] alone are have = absurd have
  made_of w (h ∷ []) (c ∷ d ∷ coded) alone are have = absurd have.1
  made_of w (h ∷ []) (c ∷ []) alone are have =
      let trailer : List ℕ = drop c.starts.trailer file in
      let first = λ (e : (layout_of v).placed ≡ true). (alone e).0 in
      record {
        boxes = seen v w most file trailer h c all short some listed first are.0 have.0 ∷ [];
        trailer = trailer;
        are = (
          scan_in v w most file trailer h c all short some listed first are.0 have.0,
          sym (last_is w file h all are.0) ∙ are.1,
        );
        same = refl;
        fits = omega (arith, length-drop c.starts.trailer file);
        counted = refl;
        within = (has_parts v w most file trailer h c all short some listed first are.0 have.0, tt);
      }
  made_of w (h ∷ g ∷ heads) (c ∷ coded) alone are have =
      let is = are.0 in
      let after = are.2 in
      let first = λ (e : (layout_of v).placed ≡ true). (alone e).0 in
      let more = made_of (walk_after h after) (g ∷ heads) coded
      (λ e. let one = (alone e).1 in absurd (omega (arith, one))) are.4 have.1 in
      let s : BoxSeen = seen v w most file [] h c all short some listed first is have.0 in
      let rest = rest_is v w most file [] h c all short some listed first is have.0 after are.3 in
      let here = subst (λ (l : List ℕ). IsScanIn v (at_place w 0) most (drop w.place file) l [] s)
      rest (scan_in v w most file [] h c all short some listed first is have.0) in
      let others = subst
      (λ k. AreScansIn v (next_walk k 0) (replicate (length (g ∷ heads)) most)
      (drop after file) more.trailer more.boxes) (known_is w file h all is) more.are in
      record {
        boxes = s ∷ more.boxes;
        trailer = more.trailer;
        are = before_others v (at_place w 0) most (replicate (length (g ∷ heads)) most)
            (drop w.place file) (drop after file) more.trailer s more.boxes here
            (sym (last_is w file h all is) ∙ are.1) others;
        same = ap (λ (l : List BoxParts). scan_made v file [] h c ∷ l) more.same;
        fits = more.fits;
        counted = ap suc more.counted;
        within = (
          has_parts v w most file [] h c all short some listed first is have.0,
          more.within,
        );
      }

-- ---- the container

each_some : (n share : ℕ) → 0 < share → AllByRecursion (λ most. 0 < most) (replicate n share)
each_some zero share some = tt
each_some (suc n) share some = (some, each_some n share some)

-- what is known of the container of these scans
pub record AreContained (v : Version) (file : List ℕ) (share : ℕ) (heads : List Head)
    (coded : List CodedScan) : Type 0 where
  pub within : AreWithin file heads coded
  pub scans : AreScansMade v file heads coded
  pub made : (text : List ℕ) → text ≡ container_bytes v (scans_made v file heads coded)
      → IsContainerOf v (replicate (length heads) share) text file

pub are_contained : (v : Version) (file : List ℕ) (share : ℕ) (heads : List Head)
    (coded : List CodedScan) → AllByRecursion IsByte file → length file < 2 ^ 32 → 0 < share
    → CanHold v (length heads) share → AreHeads opening_walk file heads
    → AreCoded share file heads coded → AreContained v file share heads coded
are_contained v file share heads coded all short some can are have =
    let n = length heads in
    let made = made_of v file share all short some can.listed opening_walk heads coded
    (λ placed. (refl, can.placed placed)) are have in
    let counted = made.counted in
    let fits = made.fits in
    let enough = can.enough in
    let most = can.most in
    let few = can.few in
    let sums = sum_by-replicate (λ (x : ℕ). x) n share in
    let contained : IsContainerOf v (replicate n share)
    (container_bytes v (scans_made v file heads coded)) file =
    record {
      whole = can.whole;
      bytes = all;
      scans = made.boxes;
      trailer = made.trailer;
      enough = omega (arith, counted, enough);
      most = omega (arith, counted, most);
      counted = length-replicate n share ∙ sym counted;
      are = made.are;
      trailer_fits = omega (arith, fits, short);
      spelled = ap (container_bytes v) (sym made.same);
    } in
    record {
      within = made.within;
      scans = (
        made.boxes,
        are_scans v (replicate n share) (container_bytes v (scans_made v file heads coded)) file
            (each_some n share some) (omega (arith, sums, few)) contained,
        made.same,
      );
      made = λ text is.
          subst (λ (m : List ℕ). IsContainerOf v (replicate n share) m file) (sym is) contained;
    }

-- ---- the version for a number of scans

share_few : (most n : ℕ) → n ≤ 4 → most ≤ most_segments → n * share_of most n ≤ most_segments
share_few most zero few below = omega arith
share_few most (suc zero) few below = omega arith
share_few most (suc (suc zero)) few below = omega arith
share_few most (suc (suc (suc zero))) few below = omega arith
share_few most (suc (suc (suc (suc zero)))) few below = omega arith
share_few most (suc (suc (suc (suc (suc n))))) few below = absurd (omega (arith, few))

in_fourth : (n share : ℕ) → 2 ≤ n → n ≤ 4 → n * share ≤ most_segments → CanHold Fourth n share
in_fourth n share some few below = record {
  whole = refl;
  listed = refl;
  enough = some;
  most = few;
  few = below;
  placed = λ e. absurd (false≢true e);
}

pub can_share : (n most : ℕ) → 0 < n → n ≤ 4 → most ≤ most_segments
    → CanHold (version_for n) n (share_of most n)
can_share zero most some few below = absurd (omega (arith, some))
can_share (suc zero) most some few below = record {
  whole = refl;
  listed = refl;
  enough = omega arith;
  most = omega arith;
  few = share_few most 1 few below;
  placed = λ e. absurd (false≢true e);
}
can_share (suc (suc zero)) most some few below =
    in_fourth 2 (share_of most 2) (omega arith) few (share_few most 2 few below)
can_share (suc (suc (suc zero))) most some few below =
    in_fourth 3 (share_of most 3) (omega arith) few (share_few most 3 few below)
can_share (suc (suc (suc (suc zero)))) most some few below =
    in_fourth 4 (share_of most 4) (omega arith) few (share_few most 4 few below)
can_share (suc (suc (suc (suc (suc n))))) most some few below = absurd (omega (arith, few))

pub can_place : (share : ℕ) → share ≤ most_segments → CanHold Fifth 1 share
can_place share few = record {
  whole = refl;
  listed = refl;
  enough = omega arith;
  most = omega arith;
  few = omega (arith, few);
  placed = λ e. omega arith;
}
