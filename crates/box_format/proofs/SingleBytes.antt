-- The bytes of a container of one scan, part by part, and as they are put in the second version.
use Rattle.std.proofs.Common.{◌≡◌, Bool, true, false, ℕ, List, [], ◌∷◌, ◌++◌, length, flat_map, refl, sym, ap, ◌∙◌, arith, append_assoc}
use Rattle.std.specs.Prelude.{Option, Some, None, is_some}
use Rattle.std.proofs.lemmas.List.{append-nil}
use Rattle.byteorder.specs.Endian.{big_bytes}
use Rattle.jpeg_marker.specs.Plans.{PlanFields}
use Rattle.scan_spec.specs.Slots.{Shape, shape_of}
use Rattle.scan_spec.specs.Pads.{PadBits, Same, Listed}
use Rattle.box_format.specs.Versions.{layout_of}
use Rattle.box_format.specs.Parts.{BoxParts, can_pad, magic, pad_byte, list_bytes, length_said, chunk_bytes, place_bytes, records, migrated}
use Rattle.box_format.specs.Containers.{container_bytes}
use Rattle.box_format.specs.Single.{IsBox, box_bytes}
use Rattle.box_format.specs.SingleLaws.{MigratedIsBox, RelaidIsMigrated, SecondStays, relaid}
use Rattle.box_format.specs.declared.chunk.Chunk.{Chunk}
use Rattle.box_format.specs.declared.version.Version.{Version}
use Rattle.box_format.specs.declared.version.Version.TheVariants.{First, Second, Third, Fourth, Fifth}
use Rattle.box_format.proofs.Layouts.{most_more}
use Rattle.box_format.proofs.OneCuts.{parts_same}

-- what follows the fields
abbrev pub after_fields : BoxParts → List ℕ
after_fields b = records b.places 0 b.handovers b.streams
    ++ (list_bytes b.pads ++ (b.header ++ (b.trailer ++ flat_map (λ stream. stream) b.streams)))

-- the whole, joined to the right
abbrev pub nested : Version → Option Chunk → Option (List ℕ) → PadBits → ℕ → ℕ → ℕ → List ℕ
    → List ℕ
nested v c places pads count header trailer after =
    magic ++ (layout_of v).byte ∷ pad_byte pads ∷ count ∷ (big_bytes 4 header ++ (big_bytes 4 trailer
    ++ (length_said (layout_of v).listed (list_bytes pads)
    ++ (chunk_bytes c ++ (place_bytes places count ++ after)))))

joined : (h t l c e r ls hd tr ss : List ℕ)
    → (h ++ t ++ l ++ c ++ e ++ r ++ []) ++ (ls ++ hd ++ []) ++ (tr ++ []) ++ (ss ++ [])
    ≡ h ++ (t ++ (l ++ (c ++ (e ++ (r ++ (ls ++ (hd ++ (tr ++ ss))))))))
joined h t l c e r ls hd tr ss = simp (append_assoc, append-nil)

pub nested_is : (b : BoxParts) → (layout_of b.version).several ≡ false
    → box_bytes b ≡ nested b.version b.chunk b.places b.pads (length b.handovers) (length b.header)
    (length b.trailer) (after_fields b)
unfolding container_bytes
nested_is b one = rw one
    (ap (λ (l : List ℕ). magic ++ (layout_of b.version).byte ∷ pad_byte b.pads ∷ length b.handovers ∷ l)
    (joined (big_bytes 4 (length b.header)) (big_bytes 4 (length b.trailer))
    (length_said (layout_of b.version).listed (list_bytes b.pads)) (chunk_bytes b.chunk)
    (place_bytes b.places (length b.handovers)) (records b.places 0 b.handovers b.streams)
    (list_bytes b.pads) b.header b.trailer (flat_map (λ stream. stream) b.streams)))

-- ---- the second version says all that the first one does

pub pads_more : (listed : Bool) (shape : Shape) (pads : PadBits) → can_pad listed shape pads ≡ true
    → can_pad true shape pads ≡ true
pads_more listed shape (Same pad) e = refl
pads_more true shape (Listed bytes) e = e
pads_more false shape (Listed bytes) e = cc

pub none_of : {A : Type 0} (o : Option A) → is_some o ≡ false → o ≡ None
none_of None e = refl
none_of (Some x) e = cc

pub no_chunk : (plan : PlanFields) (b : BoxParts) → (layout_of b.version).chunked ≡ false
    → IsBox plan b → b.chunk ≡ None
no_chunk plan b whole is = none_of b.chunk (is.chunked ∙ whole)

pub no_places : (plan : PlanFields) (b : BoxParts) → (layout_of b.version).placed ≡ false
    → IsBox plan b → b.places ≡ None
no_places plan b unplaced is = none_of b.places (is.placed ∙ unplaced)

pub migrated_is : MigratedIsBox
migrated_is plan b whole is =
    let more = most_more b.version in
    let few = is.few in
    record {
      known = is.known;
      header = is.header;
      whole = is.whole;
      few = omega (arith, more, few);
      cut = is.cut;
      chunked = is.chunked ∙ whole;
      chunk = is.chunk;
      placed = refl;
      places = tt;
      pads = pads_more (layout_of b.version).listed (shape_of plan) b.pads is.pads;
      streams = is.streams;
      each = is.each;
      starts = is.starts;
      header_fits = is.header_fits;
      trailer_fits = is.trailer_fits;
      list_fits = is.list_fits;
      streams_fit = is.streams_fit;
      list_bytes_are = is.list_bytes_are;
      header_bytes = is.header_bytes;
      trailer_bytes = is.trailer_bytes;
      stream_bytes = is.stream_bytes;
    }

-- ---- the bytes of the first version, as they are put in the second one

same_parts : (b : BoxParts) (v : Version) (places : Option (List ℕ)) → b.version ≡ v
    → b.places ≡ places → ◌≡◌ {A = BoxParts} b (record b { version = v; places = places })
same_parts b v places e f =
    sym (parts_same v b.chunk places b.pads b.header b.trailer b.handovers b.streams b
    (sym e) refl (sym f) refl refl refl refl refl)

unplaced : (v : Version) (places : Option (List ℕ)) → is_some places ≡ (layout_of v).placed
    → (layout_of v).placed ≡ false → places ≡ None
unplaced v None at none = refl
unplaced v (Some ps) at none = cc

relaid_nested : (shape : Shape) (v : Version) (c : Option Chunk) (pads : PadBits)
    (count header trailer : ℕ) (after : List ℕ) → v ≡ First → is_some c ≡ (layout_of v).chunked
    → can_pad (layout_of v).listed shape pads ≡ true
    → relaid (nested v c None pads count header trailer after)
    ≡ nested Second c None pads count header trailer after
relaid_nested shape First None (Same pad) count header trailer after e is can = refl
relaid_nested shape First None (Listed bytes) count header trailer after e is can = cc
relaid_nested shape First (Some c) pads count header trailer after e is can = cc
relaid_nested shape Second c pads count header trailer after e is can = cc
relaid_nested shape Third c pads count header trailer after e is can = cc
relaid_nested shape Fourth c pads count header trailer after e is can = cc
relaid_nested shape Fifth c pads count header trailer after e is can = cc

-- the same parts with no places
abbrev placeless : BoxParts → BoxParts
placeless b = record b { places = None }

relaid_placeless : (plan : PlanFields) (b : BoxParts) → IsBox plan b → b.version ≡ First
    → relaid (box_bytes (placeless b)) ≡ box_bytes (migrated b)
relaid_placeless plan b is first =
    let one = ap (λ (v : Version). (layout_of v).several) first in
    ap relaid (nested_is (placeless b) one)
    ∙ relaid_nested (shape_of plan) b.version b.chunk b.pads (length b.handovers)
    (length b.header) (length b.trailer) (after_fields (placeless b)) first is.chunked is.pads
    ∙ sym (nested_is (migrated b) refl)

pub relaid_is : RelaidIsMigrated
relaid_is plan b is first =
    let none = unplaced b.version b.places is.placed (ap (λ v. (layout_of v).placed) first) in
    ap (λ (l : BoxParts). relaid (box_bytes l)) (same_parts b b.version None refl none)
    ∙ relaid_placeless plan b is first

-- parts of the second version stay
pub migrated_stays : SecondStays
migrated_stays plan b is second =
    let none = unplaced b.version b.places is.placed (ap (λ v. (layout_of v).placed) second) in
    sym (same_parts b Second None second none)
