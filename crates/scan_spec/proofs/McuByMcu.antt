-- An MCU that is read is put as the bytes that stand there.
use Rattle.std.proofs.Common.{◌≡◌, ℕ, ◌+◌, ◌-◌, ◌%◌, ◌<◌, Bool, true, false, ◌==◌, ◌||◌, if◌then◌else◌, List, [], ◌∷◌, ◌++◌, length, drop, replicate, ℤ, Option, Some, None, Ok, refl, sym, ap, ap₂, ◌∙◌, subst, arith, append_assoc, append-nil, length-append}
use Rattle.std.specs.Prelude.{unwrap_or}
use Rattle.std.specs.List.{AllByRecursion}
use Rattle.std.proofs.lemmas.List.{drop-drop, drop_at, length-replicate}
use Rattle.bit_list.specs.Bits.{IsByte, bits_of, bytes_after, begun_after, padding, stuffed}
use Rattle.bit_list.specs.Units.{Cursor, starting}
use Rattle.bit_list.specs.BitSpans.{Spans}
use Rattle.bit_list.proofs.Wholes.{bytes_after-bits_of, bits_of-bytes_after, bytes_cut, bytes_joined, begun_joined, begun_count, none_begun}
use Rattle.bit_list.proofs.Stuffing.{stuffed-append}
use Rattle.bit_list.proofs.Spanning.{stand, spans_then}
use Rattle.scan_spec.specs.BlockBits.{Text}
use Rattle.scan_spec.specs.Blocks.{blocks_text, dcs_after}
use Rattle.scan_spec.specs.Slots.{Shape}
use Rattle.scan_spec.specs.Scans.{no_dcs, restart_marker, ends_interval}
use Rattle.scan_spec.specs.Spots.{Spot, interval_number, put_text, mcu_put}
use Rattle.scan_spec.specs.ScanReading.{and_then, BlocksRead, Standing, after_mcu, mcu_at}
use Rattle.scan_spec.specs.ScanLaws.{StandTogether, IsMcuSpelled, IsMcuReadAgain}
use Rattle.scan_spec.proofs.BitsTaken.{is_fine}
use Rattle.scan_spec.proofs.BlocksTaken.{blocks_read, blocks_again}
use Rattle.scan_spec.proofs.Intervals.{Agrees, length-bits_of}
use Rattle.scan_spec.proofs.ScanTaken.{on_standing, end_by, end_taken, marker_taken, mcu_fine}

all_right : (xs ys : List ℕ) → AllByRecursion IsByte (xs ++ ys) → AllByRecursion IsByte ys
all_right [] ys all = all
all_right (x ∷ xs) ys all = all_right xs ys all.1

-- bits from the start of a unit: the bytes that they complete stand there, and those of the byte begun after them
record Shifted (bytes : List ℕ) (place : ℕ) (bits : List Bool) (to : Cursor) (text : List ℕ) : Type 0 where
  there : drop place bytes ≡ text ++ drop (place + length text) bytes
  few : length (begun_after [] bits) < 8
  spans : Spans bytes (starting (place + length text) 0) (begun_after [] bits) to

shifted : (bytes : List ℕ) (place : ℕ) (bits : List Bool) (to : Cursor) → Spans bytes (starting place 0) bits to → Shifted bytes place bits to (stuffed (bytes_after [] bits))
shifted bytes place bits to s =
    let prefix = bytes_after [] bits in
    let begun = begun_after [] bits in
    let last = bytes_after begun to.left in
    let text = stuffed prefix in
    let count : length begun ≡ (0 + length bits) % 8 = begun_count [] bits (omega arith) in
    let few : length begun < 8 = omega (arith, count) in
    let units : s.units ≡ prefix ++ last = sym (bytes_after-bits_of s.units s.are_bytes) ∙ ap (bytes_after []) s.spelled ∙ bytes_cut [] bits to.left in
    let whole : stuffed s.units ≡ text ++ stuffed last = ap stuffed units ∙ stuffed-append prefix last in
    let all : drop place bytes ≡ text ++ (stuffed last ++ drop to.next bytes) = s.text ∙ ap (λ (l : List ℕ). l ++ drop to.next bytes) whole ∙ append_assoc text (stuffed last) (drop to.next bytes) in
    let after : drop (place + length text) bytes ≡ stuffed last ++ drop to.next bytes =
    sym (drop-drop (length text) place bytes) ∙ ap (drop (length text)) all ∙ drop_at text (stuffed last ++ drop to.next bytes) (length text) refl in
    let eight : length (begun ++ to.left) % 8 ≡ 0 =
    let a = ap length s.spelled in let b = length-append bits to.left in let c = length-append begun to.left in let d = length-bits_of s.units in omega (arith, a, b, c, d, count) in
    record {
      there = all ∙ ap (λ (l : List ℕ). text ++ l) (sym after);
      few = few;
      spans = record {
        units = last;
        are_bytes = all_right prefix last (subst (λ (l : List ℕ). AllByRecursion IsByte l) units s.are_bytes);
        text = after;
        spelled = ap bits_of (bytes_joined begun to.left few) ∙ bits_of-bytes_after (begun ++ to.left) eight;
        place = let a = s.place in let b = ap length whole in let c = length-append text (stuffed last) in omega (arith, a, b, c);
        within = s.within;
      };
    }

-- the bits after those of a byte begun
abbrev Moved : List ℕ → ℕ → List Bool → List Bool → Cursor → Type 0
Moved bytes place begun bits to =
    (drop place bytes ≡ stuffed (bytes_after begun bits) ++ drop (place + length (stuffed (bytes_after begun bits))) bytes) × (length (begun_after begun bits) < 8)
    × Spans bytes (starting (place + length (stuffed (bytes_after begun bits))) 0) (begun_after begun bits) to

moved : (bytes : List ℕ) (place : ℕ) (begun bits : List Bool) (to : Cursor) → length begun < 8 → Spans bytes (starting place 0) (begun ++ bits) to → Moved bytes place begun bits to
moved bytes place begun bits to few s =
    let h = shifted bytes place (begun ++ bits) to s in
    let a : bytes_after [] (begun ++ bits) ≡ bytes_after begun bits = sym (bytes_joined begun bits few) in
    let b : begun_after [] (begun ++ bits) ≡ begun_after begun bits = sym (begun_joined begun bits few) in (
      subst (λ (l : List ℕ). drop place bytes ≡ stuffed l ++ drop (place + length (stuffed l)) bytes) a h.there,
      subst (λ (l : List Bool). length l < 8) b h.few,
      subst (λ (l : List Bool). Spans bytes (starting (place + length (stuffed (bytes_after begun bits))) 0) l to) b
          (subst (λ (l : List ℕ). Spans bytes (starting (place + length (stuffed l)) 0) (begun_after [] (begun ++ bits)) to) a h.spans),
    )

abbrev no_left : Cursor → Cursor
no_left cursor = record cursor { left = [] }

-- with the pad bits that are left
pads_spanned : (bytes : List ℕ) (place : ℕ) (bits : List Bool) (to : Cursor) → Spans bytes (starting place 0) bits to → Spans bytes (starting place 0) (bits ++ to.left) (no_left to)
pads_spanned bytes place bits to s = record {
  units = s.units;
  are_bytes = s.are_bytes;
  text = s.text;
  spelled = s.spelled ∙ sym (append-nil (bits ++ to.left));
  place = s.place;
  within = record { few = omega arith; skip = let h = s.within in h.skip };
}

-- what closes an interval
record ClosedAt (bytes : List ℕ) (place : ℕ) (begun bits : List Bool) (pad : Bool) (to : Cursor) (text : List ℕ) : Type 0 where
  there : drop place bytes ≡ text ++ drop (place + length text) bytes
  next : to.next ≡ place + length text
  spans : Spans bytes (starting (place + length text) 0) [] (no_left to)

abbrev pub closing : List Bool → List Bool → Bool → List ℕ
closing begun bits pad = stuffed (bytes_after begun (bits ++ padding (begun_after begun bits) pad))

closed_at : (bytes : List ℕ) (place k : ℕ) (begun bits : List Bool) (pad : Bool) (to : Cursor) → length begun < 8 → Spans bytes (starting place 0) (begun ++ bits) to → to.left ≡ replicate k pad
    → ClosedAt bytes place begun bits pad to (closing begun bits pad)
closed_at bytes place k begun bits pad to few s left =
    let rest = begun_after begun bits in
    let count : length rest ≡ (length begun + length bits) % 8 = begun_count begun bits few in
    let within : length to.left < 8 = let h = s.within in h.few in
    let a = ap length s.spelled in
    let b = length-append (begun ++ bits) to.left in
    let c = length-append begun bits in
    let d = length-bits_of s.units in
    let f = ap length left in
    let g = length-replicate k pad in
    let same : k ≡ (8 - length rest) % 8 = omega (arith, count, within, a, b, c, d, f, g) in
    let pads : to.left ≡ padding rest pad = left ∙ ap (λ (n : ℕ). replicate n pad) same in
    let more = bits ++ padding rest pad in
    let whole : (begun ++ bits) ++ to.left ≡ begun ++ more = append_assoc begun bits to.left ∙ ap (λ (l : List Bool). begun ++ (bits ++ l)) pads in
    let t : Spans bytes (starting place 0) (begun ++ more) (no_left to) = subst (λ (l : List Bool). Spans bytes (starting place 0) l (no_left to)) whole (pads_spanned bytes place (begun ++ bits) to s) in
    let m = moved bytes place begun more (no_left to) few t in
    let even : length (begun ++ more) % 8 ≡ 0 = let e = ap length whole in let h = length-append (begun ++ bits) to.left in omega (arith, a, d, e, h) in
    let none : begun_after begun more ≡ [] = begun_joined begun more few ∙ none_begun (begun ++ more) even in
    let text = closing begun bits pad in
    let u : Spans bytes (starting (place + length text) 0) [] (no_left to) = subst (λ (l : List Bool). Spans bytes (starting (place + length text) 0) l (no_left to)) none m.2 in
    record {
      there = m.0;
      next =
          let p = u.place in
          let q = ap length u.spelled in
          let r = length-bits_of u.units in
          let nothing : u.units ≡ [] = no_units u.units (omega (arith, q, r)) in
          let z = ap (λ (l : List ℕ). length (stuffed l)) nothing in
          omega (arith, p, z);
      spans = u;
    } where
      no_units : (l : List ℕ) → length l ≡ 0 → l ≡ []
      no_units [] e = refl
      no_units (x ∷ l) e = absurd (omega (arith, e))

agrees_from : (known : Option Bool) (pad : Bool) → unwrap_or known pad ≡ pad → Agrees known pad
agrees_from None pad e = tt
agrees_from (Some known) pad e = e

-- an MCU's bytes, by where it stands
abbrev pub put_by : Bool → Bool → Shape → (ℕ → Bool) → Spot → List ℤ → List Bool → List ℕ × Spot
put_by over ends shape pads spot before bits =
    if over || ends
    then (closing spot.begun bits (pads (interval_number shape spot.count)) ++ (if over then [] else restart_marker (interval_number shape spot.count)), record { begun = []; before = no_dcs; count = spot.count + 1 })
    else (stuffed (bytes_after spot.begun bits), record { begun = begun_after spot.begun bits; before = before; count = spot.count + 1 })

abbrev PutThere : List ℕ → ℕ → Standing → List ℕ × Spot → Type 0
PutThere bytes place next put = (drop place bytes ≡ put.0 ++ drop (place + length put.0) bytes) × StandTogether bytes (place + length put.0) put.1 next

put_there : (over ends : Bool) (shape : Shape) (bytes : List ℕ) (place : ℕ) (spot : Spot) (s next : Standing) (read : BlocksRead) (bits : List Bool) (pads : ℕ → Bool)
    → StandTogether bytes place spot s → Spans bytes (starting place 0) (spot.begun ++ bits) read.cursor → end_by over ends shape bytes s read ≡ Ok next → Agrees next.pad (pads (interval_number shape spot.count))
    → PutThere bytes place next (put_by over ends shape pads spot read.before bits)
put_there true ends shape bytes place spot s next read bits pads at spans e a =
    let pad = pads (interval_number shape spot.count) in
    let t = end_taken ends shape bytes s next read pad e a in
    let taken = t.pads in
    let c = closed_at bytes place taken.k spot.begun bits pad read.cursor at.begun spans taken.left in
    let text = closing spot.begun bits pad in
    let same : text ≡ text ++ [] = sym (append-nil text) in
    let is = t.is in
    subst (λ (l : List ℕ). PutThere bytes place next (l, record { begun = []; before = no_dcs; count = spot.count + 1 })) same (
      c.there,
      record {
        begun = omega arith;
        spans = subst (λ (d : Cursor). Spans bytes (starting (place + length text) 0) [] d) (sym (ap (λ (g : Standing). g.cursor) is)) c.spans;
        before = sym (ap (λ (g : Standing). g.before) is);
        count = ap (λ (n : ℕ). n + 1) at.count ∙ sym (ap (λ (g : Standing). g.count) is);
      },
    )
put_there false true shape bytes place spot s next read bits pads at spans e a =
    let pad = pads (interval_number shape spot.count) in
    let t = marker_taken shape bytes s next read e in
    let is = t.is in
    let taken = t.pads pad (subst (λ (o : Option Bool). Agrees o pad) (ap (λ (g : Standing). g.pad) is) a) in
    let c = closed_at bytes place taken.k spot.begun bits pad read.cursor at.begun spans taken.left in
    let text = closing spot.begun bits pad in
    let marker = restart_marker (interval_number shape spot.count) in
    let number : restart_marker (interval_number shape s.count) ≡ marker = ap (λ (n : ℕ). restart_marker (interval_number shape n)) (sym at.count) in
    let long : length (text ++ marker) ≡ length text + 2 = length-append text marker in
    let stop : t.place ≡ place + length (text ++ marker) = let p = t.place_is in let q = c.next in omega (arith, p, q, long) in
    let there : drop place bytes ≡ (text ++ marker) ++ drop (place + length (text ++ marker)) bytes =
    c.there ∙ ap (λ (k : ℕ). text ++ drop k bytes) (sym c.next) ∙ ap (λ (l : List ℕ). text ++ l) (t.marker ∙ ap₂ (λ (l : List ℕ) (k : ℕ). l ++ drop k bytes) number stop)
    ∙ sym (append_assoc text marker (drop (place + length (text ++ marker)) bytes)) in
    let here : Spans bytes (starting (place + length (text ++ marker)) 0) [] (starting (place + length (text ++ marker)) 0) =
    record { units = []; are_bytes = tt; text = refl; spelled = refl; place = omega arith; within = record { few = omega arith; skip = refl } } in
    let cursor : starting (place + length (text ++ marker)) 0 ≡ next.cursor = ap (λ (k : ℕ). starting k 0) (sym stop) ∙ sym (ap (λ (g : Standing). g.cursor) is) in (
      there,
      record {
        begun = omega arith;
        spans = subst (λ (d : Cursor). Spans bytes (starting (place + length (text ++ marker)) 0) [] d) cursor here;
        before = sym (ap (λ (g : Standing). g.before) is);
        count = ap (λ (n : ℕ). n + 1) at.count ∙ sym (ap (λ (g : Standing). g.count) is);
      },
    )
put_there false false shape bytes place spot s next read bits pads at spans e a =
    let is : on_standing read.cursor read.before s.count ≡ next = is_fine (on_standing read.cursor read.before s.count) next e in
    let m = moved bytes place spot.begun bits read.cursor at.begun spans in (
      m.0,
      record {
        begun = m.1;
        spans = subst (λ (d : Cursor). Spans bytes (starting (place + length (stuffed (bytes_after spot.begun bits))) 0) (begun_after spot.begun bits) d) (ap (λ (g : Standing). g.cursor) is) m.2;
        before = ap (λ (g : Standing). g.before) is;
        count = ap (λ (n : ℕ). n + 1) at.count ∙ ap (λ (g : Standing). g.count) is;
      },
    )

pub mcu_spelled : IsMcuSpelled
unfolding mcu_put
mcu_spelled shape bytes place spot s next blocks pads is all at e told =
    let one = mcu_fine shape bytes s (blocks, next) e in
    let read = one.read in
    let m = blocks_read shape.slots s.before bytes s.cursor read is.slots one.is in
    let spans = at.spans in
    let t = (stand (length m.bits) bytes s.cursor read.cursor m.bits all spans.within m.takes).0 in
    let whole = spans_then bytes (starting place 0) s.cursor read.cursor spot.begun m.bits spans t in
    let count = at.count in
    let ap_agrees = λ (t : unwrap_or next.pad (pads (interval_number shape s.count)) ≡ pads (interval_number shape s.count)).
    agrees_from next.pad (pads (interval_number shape spot.count)) (subst (λ (n : ℕ). unwrap_or next.pad (pads (interval_number shape n)) ≡ pads (interval_number shape n)) (sym count) t) in
    let put = put_by (spot.count + 1 == shape.mcus) (ends_interval shape.interval (spot.count + 1)) shape pads spot read.before m.bits in
    let p : PutThere bytes place next put =
    put_there (spot.count + 1 == shape.mcus) (ends_interval shape.interval (spot.count + 1)) shape bytes place spot s next read m.bits pads at whole
    (ap (λ (n : ℕ). end_by (n + 1 == shape.mcus) (ends_interval shape.interval (n + 1)) shape bytes s read) count ∙ one.after) (ap_agrees told) in
    let text : blocks_text shape.slots spot.before m.mcu ≡ Ok m.bits = ap (λ (d : List ℤ). blocks_text shape.slots d m.mcu) at.before ∙ m.text in
    let last : dcs_after shape.slots spot.before m.mcu ≡ read.before = ap (λ (d : List ℤ). dcs_after shape.slots d m.mcu) at.before ∙ sym m.last in (
      m.mcu,
      put.0,
      put.1,
      (m.long, m.each),
      one.same ∙ m.same,
      ap₂ (λ (d : List ℤ) (x : Text). put_text shape pads spot d x) last text,
      p.0,
      p.1,
    )

pub mcu_read_again : IsMcuReadAgain
unfolding mcu_at
mcu_read_again shape bytes s mcu bits to is one text stands =
    ap (λ r. and_then {A = BlocksRead} {B = List (List ℤ) × Standing} r (λ read. and_then (after_mcu shape bytes s read) (λ next. Ok (read.blocks, next))))
    (blocks_again shape.slots s.before mcu bytes bits s.cursor to is.slots one.1 one.0 text stands)
