-- The checks on the scans of a container, which pass.
use Rattle.std.proofs.Common.{◌≡◌, ◌<◌, ◌≤◌, ◌+◌, ◌^◌, ◌&&◌, not, Bool, true, false, ℕ, List, [], ◌∷◌, ◌++◌, length, map, refl, sym, ap, ap₂, ◌∙◌, arith, subst}
use Rattle.std.specs.Prelude.{sum, Option, Some, None, IfSome}
use Rattle.std.specs.List.{AllByRecursion}
use Rattle.std.proofs.lemmas.Bool.{or_from}
use Rattle.std.proofs.lemmas.List.{append-nil}
use Rattle.jpeg_marker.specs.Walks.{Walk, next_walk}
use Rattle.scan_spec.specs.Slots.{shape_of}
use Rattle.scan_spec.specs.FileParts.{is_last}
use Rattle.box_format.specs.Parts.{BoxParts, BoxSeen, IsBoxIn, ArePlaces, pad_byte, list_bytes, bad_start, box_cut}
use Rattle.box_format.specs.Raws.{Raw, parts_of, pads_in}
use Rattle.box_format.specs.Versions.{layout_of}
use Rattle.box_format.specs.Containers.{AreBoxes, all_parts, all_plans, segment_count, trailer_of}
use Rattle.box_format.specs.Checks.{HeadersPass, are_complete, some_are_wrong, segments_of, boxes_of, are_wrong, is_bad_chunk, is_bad_pad, are_bad_places}
use Rattle.box_format.specs.declared.version.Version.{Version}
use Rattle.box_format.proofs.PadBytes.{pads_again, pads_good, none_listed}
use Rattle.box_format.proofs.PlaceLists.{not_bad_places, place_fits}
use Rattle.box_format.proofs.OneCuts.{parts_same as same_parts, not_wrong, not_bad, fits}
use Rattle.box_format.proofs.ScanRead.{CanPut}
use Rattle.box_format.proofs.ScansWalked.{HaveTrailer, raw_like}

-- what the checks say of a scan
pub record IsChecked (v : Version) (s : BoxSeen) : Type 0 where
  pub version : s.parts.version ≡ v
  pub wrong : are_wrong (layout_of v).most (box_cut s.plan s.parts.chunk (length s.parts.handovers))
      ≡ false
  pub chunk : is_bad_chunk s.plan.down s.parts.header s.parts.trailer s.parts.chunk ≡ false
  pub pad : is_bad_pad (layout_of s.parts.version).listed (shape_of s.plan)
      (pad_byte s.parts.pads) (list_bytes s.parts.pads) ≡ false
  pub starts : bad_start (shape_of s.plan) (box_cut s.plan s.parts.chunk (length s.parts.handovers))
      0 s.parts.handovers ≡ None
  pub places : are_bad_places (length s.parts.header) s.parts.places ≡ false
  pub again : parts_of (raw_like s.parts) ≡ s.parts
  pub can : CanPut (layout_of v) s.parts

places_count : (header n : ℕ) (places : Option (List ℕ)) → IfSome places (ArePlaces header n)
    → IfSome places (λ ps. length ps ≡ n + 1)
places_count header n None is = tt
places_count header n (Some ps) is = is.count

pub is_checked : (v : Version) (w : Walk) (s : BoxSeen) → IsBoxIn w s.plan s.parts
    → s.parts.version ≡ v → IsChecked v s
is_checked v w s is said =
    let plan = s.plan in
    let b = s.parts in
    let few : length b.handovers ≤ (layout_of v).most =
    subst (λ (v : Version). length b.handovers ≤ (layout_of v).most) said is.few in
    record {
      version = said;
      wrong = not_wrong (layout_of v).most (box_cut plan b.chunk (length b.handovers)) is.cut few;
      chunk = not_bad plan.down b.header b.trailer b.chunk is.chunk;
      pad = pads_good (layout_of b.version).listed (shape_of plan) b.pads is.pads;
      starts = is.starts;
      places = not_bad_places (length b.header) (length b.handovers) b.places is.places;
      again = same_parts b.version b.chunk b.places (pads_in (pad_byte b.pads) (list_bytes b.pads))
          b.header b.trailer b.handovers b.streams b refl refl refl
          (pads_again b.pads) refl refl refl refl;
      can = record {
        layout = ap layout_of (sym said);
        chunked = is.chunked ∙ ap (λ (v : Version). (layout_of v).chunked) said;
        chunk = fits plan.down b.header b.trailer b.chunk is.chunk;
        placed = is.placed ∙ ap (λ (v : Version). (layout_of v).placed) said;
        places = place_fits (length b.header) (length b.handovers) b.places is.places;
        places_long = places_count (length b.header) (length b.handovers) b.places is.places;
        header_fits = is.header_fits;
        trailer_fits = is.trailer_fits;
        list_fits = is.list_fits;
        unlisted = λ e. none_listed (layout_of b.version).listed (shape_of plan) b.pads is.pads
            (ap (λ (v : Version). (layout_of v).listed) said ∙ e);
        streams = is.streams;
        each = is.each;
        streams_fit = is.streams_fit;
      };
    }

pub all_checked : (v : Version) (w : Walk) (scans : List BoxSeen) → AreBoxes w scans
    → AllByRecursion (λ (s : BoxSeen). s.parts.version ≡ v) scans
    → AllByRecursion (IsChecked v) scans
all_checked v w [] are said = absurd are
all_checked v w (s ∷ []) are said = (is_checked v w s are.0 said.0, tt)
all_checked v w (s ∷ t ∷ scans) are said = (
  is_checked v w s are.0 said.0,
  all_checked v (next_walk s.plan.known 0) (t ∷ scans) are.3 said.1,
)

pub all_can : (v : Version) (scans : List BoxSeen) → AllByRecursion (IsChecked v) scans
    → AllByRecursion (CanPut (layout_of v)) (all_parts scans)
all_can v [] all = tt
all_can v (s ∷ scans) all = (all.0.can, all_can v scans all.1)

pub all_said : (v : Version) (scans : List BoxSeen) → AllByRecursion (IsChecked v) scans
    → AllByRecursion (λ (b : BoxParts). b.version ≡ v) (all_parts scans)
all_said v [] all = tt
all_said v (s ∷ scans) all = (all.0.version, all_said v scans all.1)

-- ---- only the last one has a trailer

pub have_trailer : (w : Walk) (scans : List BoxSeen) → AreBoxes w scans
    → HaveTrailer (trailer_of (all_parts scans)) (all_parts scans)
have_trailer w [] are = absurd are
have_trailer w (s ∷ []) are = sym (append-nil s.parts.trailer)
have_trailer w (s ∷ t ∷ scans) are = (
  are.2,
  subst (λ (l : List ℕ). HaveTrailer (l ++ trailer_of (all_parts (t ∷ scans)))
      (all_parts (t ∷ scans))) (sym are.2)
      (have_trailer (next_walk s.plan.known 0) (t ∷ scans) are.3),
)

pub trailer_fits : (w : Walk) (scans : List BoxSeen) → AreBoxes w scans
    → length (trailer_of (all_parts scans)) < 2 ^ 32
trailer_fits w [] are = absurd are
trailer_fits w (s ∷ []) are =
    subst (λ (l : List ℕ). length l < 2 ^ 32) (sym (append-nil s.parts.trailer)) are.0.trailer_fits
trailer_fits w (s ∷ t ∷ scans) are =
    subst (λ (l : List ℕ). length (l ++ trailer_of (all_parts (t ∷ scans))) < 2 ^ 32) (sym are.2)
    (trailer_fits (next_walk s.plan.known 0) (t ∷ scans) are.3)

-- ---- the checks on the fields of these scans

abbrev pub raws_like : List BoxSeen → List Raw
raws_like scans = map raw_like (all_parts scans)

pub boxes_again : (v : Version) (scans : List BoxSeen) → AllByRecursion (IsChecked v) scans
    → boxes_of (all_plans scans) (raws_like scans) ≡ scans
boxes_again v [] all = refl
boxes_again v (s ∷ scans) all =
    let same : ◌≡◌ {A = BoxSeen} (record { plan = s.plan; parts = parts_of (raw_like s.parts) }) s =
    ap (λ (b : BoxParts). let seen : BoxSeen = record { plan = s.plan; parts = b } in seen)
    all.0.again in
    ap₂ (λ (x : BoxSeen) (xs : List BoxSeen). x ∷ xs) same (boxes_again v scans all.1)

pub headers_pass : (w : Walk) (scans : List BoxSeen) → AreBoxes w scans
    → HeadersPass w (raws_like scans) (all_plans scans)
headers_pass w [] are = absurd are
headers_pass w (s ∷ []) are = (are.0.header, are.0.whole, tt)
headers_pass w (s ∷ t ∷ scans) are = (
  are.0.header,
  are.0.whole,
  headers_pass (next_walk s.plan.known 0) (t ∷ scans) are.3,
)

both : (a b : Bool) → a ≡ true → b ≡ true → (a && b) ≡ true
both a b e f = rw (e, f) refl

pub complete : (w : Walk) (scans : List BoxSeen) → AreBoxes w scans
    → are_complete (all_plans scans) ≡ true
complete w [] are = absurd are
complete w (s ∷ []) are = are.1
complete w (s ∷ t ∷ scans) are =
    both (not (is_last s.plan)) (are_complete (all_plans (t ∷ scans))) (ap not are.1)
    (complete (next_walk s.plan.known 0) (t ∷ scans) are.3)

pub none_wrong : (v : Version) (scans : List BoxSeen) → AllByRecursion (IsChecked v) scans
    → some_are_wrong (layout_of v).most (all_plans scans) (raws_like scans) ≡ false
none_wrong v [] all = refl
none_wrong v (s ∷ scans) all =
    or_from (are_wrong (layout_of v).most (box_cut s.plan s.parts.chunk (length s.parts.handovers)))
    (some_are_wrong (layout_of v).most (all_plans scans) (raws_like scans)) all.0.wrong
    (none_wrong v scans all.1)

counts_same : (scans : List BoxSeen)
    → map (λ (raw : Raw). length raw.handovers) (raws_like scans)
    ≡ map (λ (s : BoxSeen). length s.parts.handovers) scans
counts_same [] = refl
counts_same (s ∷ scans) =
    ap (λ (l : List ℕ). length s.parts.handovers ∷ l) (counts_same scans)

pub segments_same : (scans : List BoxSeen) → segments_of (raws_like scans) ≡ segment_count scans
segments_same scans = ap sum (counts_same scans)

pub count_same : (scans : List BoxSeen) → length (raws_like scans) ≡ length scans
count_same [] = refl
count_same (s ∷ scans) = let e = count_same scans in omega arith
