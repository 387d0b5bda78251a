-- Scans that a container is written from.
use Rattle.std.proofs.Common.{◌≡◌, ◌<◌, ◌≤◌, ◌+◌, ◌-◌, ◌^◌, Bool, true, false, if◌then◌else◌, ℕ, suc, List, [], ◌∷◌, ◌++◌, length, map, flat_map, refl, sym, ap, ◌∙◌, arith, subst}
use Rattle.std.specs.Prelude.{get_or, Option, Some, None, IfSome}
use Rattle.std.specs.List.{AllByRecursion}
use Rattle.std.proofs.lemmas.List.{length-map}
use Rattle.byteorder.specs.Endian.{big_bytes}
use Rattle.box_format.specs.Parts.{BoxParts, magic, BoxSeen}
use Rattle.box_format.specs.Versions.{layout_of, most_segments}
use Rattle.box_format.specs.declared.parts.Parts.{Parts}
use Rattle.box_format.proofs.Lists.{sum_first}
use Rattle.box_format.specs.Containers.{all_parts, segment_count, scan_fields, scan_header, scan_streams, scans_said, trailer_of, container_bytes}
use Rattle.box_format.specs.Given.{AreGiven, CanGive, all_given, parts_given}
use Rattle.box_format.specs.declared.version.Version.{Version}
use Rattle.box_format.proofs.Layouts.{most_more}
use Rattle.box_format.proofs.ScansWalked.{HaveTrailer}
use Rattle.box_format.proofs.ScansChecked.{IsChecked, all_checked, have_trailer, trailer_fits}
use Rattle.jpeg_marker.specs.FirstWalks.{opening_walk}

-- ---- the trailer

last_has : (trailer : List ℕ) (ps : List Parts) (p : Parts) → HaveTrailer trailer (all_given ps)
    → p ≡ get_or ps (length ps - 1) p → p.trailer.now ≡ trailer
last_has trailer [] p have is = absurd have
last_has trailer (q ∷ []) p have is =
    ap (λ (r : Parts). r.trailer.now) is ∙ have
last_has trailer (q ∷ r ∷ ps) p have is =
    let e : suc (suc (length ps)) - 1 ≡ suc (suc (length ps) - 1) = omega arith in
    last_has trailer (r ∷ ps) p have.1 (is ∙ ap (λ (i : ℕ). get_or (q ∷ r ∷ ps) i p) e)

pub last_given : (v : Version) (ps : List Parts) (p : Parts) → AreGiven v ps
    → p ≡ get_or ps (length ps - 1) p → p.trailer.now ≡ trailer_of (all_given ps)
last_given v ps p given is =
    last_has (trailer_of (all_given ps)) ps p
    (subst (λ (l : List BoxParts). HaveTrailer (trailer_of l) l) given.2
    (have_trailer opening_walk given.0 given.1.each)) is

pub trailer_short : (v : Version) (ps : List Parts) → AreGiven v ps
    → length (trailer_of (all_given ps)) < 2 ^ 32
trailer_short v ps given =
    subst (λ (l : List BoxParts). length (trailer_of l) < 2 ^ 32) given.2
    (trailer_fits opening_walk given.0 given.1.each)

-- ---- their counts and lengths

more_places : (n : ℕ) (places : Option (List ℕ)) → IfSome places (λ ps. length ps ≡ n + 1)
    → IfSome places (λ ps. n < length ps)
more_places n None is = tt
more_places n (Some ps) is = omega (arith, is)

all_give : (v : Version) (scans : List BoxSeen) (most : ℕ) → AllByRecursion (IsChecked v) scans
    → segment_count scans ≤ most → most < 2 ^ 8 → AllByRecursion CanGive (all_parts scans)
all_give v [] most all few small = tt
all_give v (s ∷ scans) most all few small =
    let sums = sum_first (length s.parts.handovers)
    (map (λ (s : BoxSeen). length s.parts.handovers) scans) in
    let can = all.0.can in (
      record {
        few = omega (arith, sums, few, small);
        header = can.header_fits;
        trailer = can.trailer_fits;
        list = can.list_fits;
        streams = can.streams;
        places = more_places (length s.parts.handovers) s.parts.places can.places_long;
      },
      all_give v scans most all.1 (omega (arith, sums, few)) small,
    )

each_of : (ps : List Parts) → AllByRecursion CanGive (all_given ps)
    → AllByRecursion (λ (p : Parts). CanGive (parts_given p)) ps
each_of [] all = tt
each_of (p ∷ ps) all = (all.0, each_of ps all.1)

pub all_can_give : (v : Version) (ps : List Parts) → AreGiven v ps
    → AllByRecursion (λ (p : Parts). CanGive (parts_given p)) ps
all_can_give v ps given =
    let is = given.1 in
    let more = most_more v in
    let few = is.few in
    each_of ps
    (subst (AllByRecursion CanGive) given.2
    (all_give v given.0 most_segments (all_checked v opening_walk given.0 is.each is.versions)
    (omega (arith, few, more)) (omega arith)))

-- ---- what was written one after another

said_is : (b : Bool) (n m : ℕ) (trailer t : List ℕ) → n ≡ m → trailer ≡ t
    → (if b then n ∷ big_bytes 4 (length trailer) else []) ≡ scans_said b m t
said_is true n m trailer t e f = rw (e, f) refl
said_is false n m trailer t e f = refl

pub front_written : (v : Version) (ps : List Parts) (n : ℕ) (trailer b0 b1 b2 b3 b4 : List ℕ)
    → n ≡ length ps → trailer ≡ trailer_of (all_given ps) → b0 ≡ []
    → b1 ≡ b0 ++ (magic ++ (layout_of v).byte
    ∷ (if (layout_of v).several then n ∷ big_bytes 4 (length trailer) else []))
    → b2 ≡ b1 ++ flat_map scan_fields (all_given ps)
    → b3 ≡ b2 ++ flat_map scan_header (all_given ps) → b4 ≡ b3 ++ trailer
    → b4 ++ flat_map scan_streams (all_given ps) ≡ container_bytes v (all_given ps)
unfolding container_bytes
front_written v ps n trailer b0 b1 b2 b3 b4 count t e0 e1 e2 e3 e4 =
    let said = said_is (layout_of v).several n (length (all_given ps)) trailer
    (trailer_of (all_given ps)) (count ∙ sym (length-map ps parts_given)) t in
    rw (e4, e3, e2, e1, e0, said, t) refl
