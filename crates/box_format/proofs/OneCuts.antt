-- What the checks on one scan say, and the other way round.
use Rattle.std.proofs.Common.{◌≡◌, ◌<◌, ◌≤◌, ◌+◌, ◌-◌, ◌^◌, ◌==◌, ◌||◌, ◌&&◌, not, Bool, true, false, refl, ℕ, List, [], ◌∷◌, length, map, nat_lt, ap, arith}
use Rattle.std.specs.Prelude.{Option, Some, None, IfSome}
use Rattle.std.specs.List.{AllByRecursion}
use Rattle.std.proofs.lemmas.Bool.{ltb-false, ltb-true, le-ltb, lt-ltb, eqb-false, eqb-true, eq-eqb, ne_eqb, or_parts, or_from, and_right}
use Rattle.jpeg_marker.specs.Plans.{PlanFields}
use Rattle.handover.specs.Handovers.{HandoverFields}
use Rattle.cut_spec.specs.Cuts.{Cut}
use Rattle.scan_spec.specs.Pads.{PadBits}
use Rattle.box_format.specs.Parts.{BoxParts, IsCut, IsChunkIn, header_part, rows_most, box_cut}
use Rattle.box_format.specs.Checks.{are_wrong, is_bad_chunk}
use Rattle.box_format.specs.declared.chunk.Chunk.{Chunk}
use Rattle.box_format.specs.declared.version.Version.{Version}
use Rattle.box_format.proofs.Layouts.{false_not}

-- a chunk's numbers go into their fields
pub record Fits (c : Chunk) : Type 0 where
  pub place : c.place < 2 ^ 64
  pub long : c.length < 2 ^ 64
  pub skip : c.skip < 2 ^ 64
  pub from : c.from < 2 ^ 32
  pub to : c.to < 2 ^ 32

-- rows in their segments
not_zero : (n : ℕ) → (n ≡ 0 → ⊥) → 0 < n
not_zero n f = omega arith

pub and_false : (a b : Bool) → (a && b) ≡ false → a ≡ true → b ≡ false
and_false true b e f = e
and_false false b e f = cc

pub cut_is : (most : ℕ) (cut : Cut) → cut.from ≤ cut.to → are_wrong most cut ≡ false
    → IsCut cut × (cut.segments ≤ most)
cut_is most cut order e =
    let more = not (nat_lt cut.to cut.from) && nat_lt (cut.to - cut.from) cut.segments in
    let none = nat_lt cut.from cut.to && cut.segments == 0 in
    let one = or_parts (nat_lt most cut.segments) (more || none) e in
    let two = or_parts more none one.1 in
    let ordered : not (nat_lt cut.to cut.from) ≡ true = ap not (le-ltb cut.to cut.from order) in (
      record {
        some = λ below. not_zero cut.segments (eqb-false cut.segments 0
            (and_false (nat_lt cut.from cut.to) (cut.segments == 0) two.1
            (lt-ltb cut.from cut.to below)));
        rows = ltb-false (cut.to - cut.from) cut.segments
            (and_false (not (nat_lt cut.to cut.from)) (nat_lt (cut.to - cut.from) cut.segments)
            two.0 ordered);
      },
      ltb-false most cut.segments one.0,
    )

-- a chunk of a grid's rows
pub chunk_is : (down : ℕ) (header trailer : List ℕ) (c : Chunk) → Fits c
    → is_bad_chunk down header trailer (Some c) ≡ false → IsChunkIn down header trailer c
chunk_is down header trailer c fit e =
    let parts = length (header_part c header) + length trailer in
    let other = not (rows_most c header trailer == 0) || not (c.skip == 0) in
    let rowless = c.from == c.to && other in
    let one = or_parts (nat_lt c.to c.from) (nat_lt down c.to || (nat_lt c.length parts || rowless)) e
    in
    let two = or_parts (nat_lt down c.to) (nat_lt c.length parts || rowless) one.1 in
    let three = or_parts (nat_lt c.length parts) rowless two.1 in
    record {
      order = ltb-false c.to c.from one.0;
      within = ltb-false down c.to two.0;
      room = ltb-false c.length parts three.0;
      rowless = λ same.
          let four = or_parts (not (rows_most c header trailer == 0)) (not (c.skip == 0))
          (and_false (c.from == c.to) other three.1 (eq-eqb c.from c.to same)) in (
            eqb-true (rows_most c header trailer) 0
                (false_not (rows_most c header trailer == 0) four.0),
            eqb-true c.skip 0 (false_not (c.skip == 0) four.1),
          );
      place_fits = fit.place;
      length_fits = fit.long;
      skip_fits = fit.skip;
      from_fits = fit.from;
      to_fits = fit.to;
    }

pub chunk_is_in : (down : ℕ) (header trailer : List ℕ) (c : Option Chunk) → IfSome c Fits
    → is_bad_chunk down header trailer c ≡ false → IfSome c (IsChunkIn down header trailer)
chunk_is_in down header trailer None fit e = tt
chunk_is_in down header trailer (Some c) fit e = chunk_is down header trailer c fit e

-- in their order
pub ordered : (plan : PlanFields) (header trailer : List ℕ) (c : Option Chunk) (n : ℕ)
    → IfSome c (IsChunkIn plan.down header trailer)
    → (box_cut plan c n).from ≤ (box_cut plan c n).to
ordered plan header trailer None n is = omega arith
ordered plan header trailer (Some c) n is = is.order

-- and of the grid
pub in_grid : (plan : PlanFields) (header trailer : List ℕ) (c : Option Chunk) (n : ℕ)
    → IfSome c (IsChunkIn plan.down header trailer) → (box_cut plan c n).to ≤ plan.down
in_grid plan header trailer None n is = omega arith
in_grid plan header trailer (Some c) n is = is.within

-- what holds of lengths
pub all_lengths : (P : ℕ → Type 0) (streams : List (List ℕ))
    → AllByRecursion P (map (λ (s : List ℕ). length s) streams)
    → AllByRecursion (λ (s : List ℕ). P (length s)) streams
all_lengths P [] h = tt
all_lengths P (s ∷ streams) h = (h.0, all_lengths P streams h.1)

pub parts_same : (v : Version) (c : Option Chunk) (ps : Option (List ℕ)) (p : PadBits)
    (h t : List ℕ) (hs : List HandoverFields) (ss : List (List ℕ)) (b : BoxParts)
    → v ≡ b.version → c ≡ b.chunk → ps ≡ b.places → p ≡ b.pads → h ≡ b.header → t ≡ b.trailer
    → hs ≡ b.handovers → ss ≡ b.streams
    → ◌≡◌ {A = BoxParts} (record {
      version = v;
      chunk = c;
      places = ps;
      pads = p;
      header = h;
      trailer = t;
      handovers = hs;
      streams = ss;
    }) b
parts_same v c ps p h t hs ss b d k q e f g i j = rw (d, k, q, e, f, g, i, j) refl

some_if : (cut : Cut) → (nat_lt cut.from cut.to ≡ true → 0 < cut.segments)
    → (nat_lt cut.from cut.to && cut.segments == 0) ≡ false
some_if cut some = by_case (nat_lt cut.from cut.to) some where
  by_case : (b : Bool) → (b ≡ true → 0 < cut.segments) → (b && cut.segments == 0) ≡ false
  by_case true some = let h = some refl in ne_eqb cut.segments 0 (λ e. omega arith)
  by_case false some = refl

pub not_wrong : (most : ℕ) (cut : Cut) → IsCut cut → cut.segments ≤ most → are_wrong most cut ≡ false
not_wrong most cut is few =
    or_from (nat_lt most cut.segments)
    ((not (nat_lt cut.to cut.from) && nat_lt (cut.to - cut.from) cut.segments)
    || (nat_lt cut.from cut.to && cut.segments == 0))
    (le-ltb most cut.segments few)
    (or_from (not (nat_lt cut.to cut.from) && nat_lt (cut.to - cut.from) cut.segments)
    (nat_lt cut.from cut.to && cut.segments == 0)
    (and_right (not (nat_lt cut.to cut.from)) (nat_lt (cut.to - cut.from) cut.segments)
    (le-ltb (cut.to - cut.from) cut.segments is.rows))
    (some_if cut (λ below. is.some (ltb-true cut.from cut.to below))))

-- a chunk of the grid
rowless_is : (from to most skip : ℕ) → (from ≡ to → (most ≡ 0) × (skip ≡ 0))
    → (from == to && (not (most == 0) || not (skip == 0))) ≡ false
rowless_is from to most skip none = by_case (from == to) (λ e. none (eqb-true from to e)) where
  by_case : (b : Bool) → (b ≡ true → (most ≡ 0) × (skip ≡ 0))
      → (b && (not (most == 0) || not (skip == 0))) ≡ false
  by_case true none =
      let h = none refl in
      or_from (not (most == 0)) (not (skip == 0)) (ap not (eq-eqb most 0 h.0))
      (ap not (eq-eqb skip 0 h.1))
  by_case false none = refl

pub not_bad : (down : ℕ) (header trailer : List ℕ) (c : Option Chunk)
    → IfSome c (IsChunkIn down header trailer) → is_bad_chunk down header trailer c ≡ false
not_bad down header trailer None is = refl
not_bad down header trailer (Some c) is =
    let parts = length (header_part c header) + length trailer in
    let rowless = c.from == c.to && (not (rows_most c header trailer == 0) || not (c.skip == 0)) in
    or_from (nat_lt c.to c.from) (nat_lt down c.to || (nat_lt c.length parts || rowless))
    (le-ltb c.to c.from is.order)
    (or_from (nat_lt down c.to) (nat_lt c.length parts || rowless) (le-ltb down c.to is.within)
    (or_from (nat_lt c.length parts) rowless (le-ltb c.length parts is.room)
    (rowless_is c.from c.to (rows_most c header trailer) c.skip is.rowless)))

pub fits : (down : ℕ) (header trailer : List ℕ) (c : Option Chunk)
    → IfSome c (IsChunkIn down header trailer) → IfSome c Fits
fits down header trailer None is = tt
fits down header trailer (Some c) is = record {
  place = is.place_fits;
  long = is.length_fits;
  skip = is.skip_fits;
  from = is.from_fits;
  to = is.to_fits;
}
