-- Bits between cursors stand in units, and are taken from them.
use Rattle.std.proofs.Common.{◌≡◌, ℕ, zero, suc, ◌+◌, ◌<◌, ◌≤◌, Bool, true, false, ◌==◌, if◌then◌else◌, ◌/◌, ◌%◌, ◌^◌, List, [], ◌∷◌, ◌++◌, length, take, drop, Result, Ok, Err, refl, sym, ap, ap₂, ◌∙◌, subst, arith, append_assoc, append-nil, length-append}
use Rattle.std.specs.List.{AllByRecursion}
use Rattle.std.proofs.lemmas.Bool.{eqb-true}
use Rattle.std.proofs.lemmas.List.{drop-drop, drop_at, take-append-drop, length-take-le, length-drop}
use Rattle.bit_list.specs.Bits.{IsByte, low_bits, bits_of, stuffed}
use Rattle.bit_list.specs.Units.{Cursor, and_then, starting, unit_of, unit_at, filled, bit_at, bits_at}
use Rattle.bit_list.specs.BitSpans.{IsWithin, Spans, TakenStand, StandingAreTaken, TakenFromWithin, StuffedAreFew}
use Rattle.bit_list.specs.NumbersOfBits.{length-low_bits}
use Rattle.bit_list.specs.declared.fault.BitFault.{BitFault}
use Rattle.bit_list.specs.declared.fault.BitFault.TheVariants.{Cut, MarkerInScan}
use Rattle.bit_list.proofs.Stuffing.{unit_bytes, unit_again, stuffed_first, stuffed-append, length-unit_bytes}
use Rattle.bit_list.proofs.Cursors.{after_bit, after_bits, then_bits, in_parts, filled_now, bit_left, bits_left, bits_filled, bits_fault}

abbrev done : {A : Type 0} → A → Result A BitFault
done x = Ok x

abbrev failed : {A : Type 0} → BitFault → Result A BitFault
failed e = Err e

pub is_both : {A B : Type 0} (x y : A × B) → done x ≡ done y → (x.0 ≡ y.0) × (x.1 ≡ y.1)
is_both x y e = (cc, cc)

apart : {A : Type 0} (e : BitFault) (x : A) → failed {A = A} e ≡ done x → ⊥
apart e x h = cc

-- stuffed bytes
pub few_stuffed : StuffedAreFew
few_stuffed [] = omega arith
few_stuffed (byte ∷ bytes) =
    let first = ap length (stuffed_first byte bytes) ∙ length-append (unit_bytes byte) (stuffed bytes) in
    omega (arith, first, length-unit_bytes byte, few_stuffed bytes)

abbrev unit_is : ℕ → ℕ → Result (ℕ × ℕ) BitFault
unit_is unit next = Ok (unit, next)

abbrev no_unit : BitFault → Result (ℕ × ℕ) BitFault
no_unit fault = Err fault

both_numbers : (a b c d : ℕ) → unit_is a b ≡ unit_is c d → (a ≡ c) × (b ≡ d)
both_numbers a b c d e = is_both {A = ℕ} {B = ℕ} (a, b) (c, d) e

never : (fault : BitFault) (c d : ℕ) → no_unit fault ≡ unit_is c d → ⊥
never fault c d e = cc

-- the unit at the head
record Head (end place : ℕ) (bytes : List ℕ) (unit next : ℕ) : Type 0 where
  more : List ℕ
  text : bytes ≡ unit_bytes unit ++ more
  place_after : next ≡ place + length (unit_bytes unit)

abbrev bytes_by : Bool → ℕ → List ℕ
bytes_by t byte = byte ∷ (if t then 0 ∷ [] else [])

plain_head : (end place byte unit next : ℕ) (more : List ℕ) → (byte == 255) ≡ false → unit_is byte (place + 1) ≡ unit_is unit next → Head end place (byte ∷ more) unit next
plain_head end place byte unit next more other e =
    let v = both_numbers byte (place + 1) unit next e in
    let one : unit_bytes unit ≡ unit ∷ [] = ap (λ (t : Bool). bytes_by t unit) (ap (λ (b : ℕ). b == 255) (sym v.0) ∙ other) in
    record { more = more; text = ap (λ (b : ℕ). b ∷ more) v.0 ∙ ap (λ (l : List ℕ). l ++ more) (sym one); place_after = sym v.1 ∙ ap (λ (l : List ℕ). place + length l) (sym one) }

last_head : (t : Bool) (end place byte unit next : ℕ) → (byte == 255) ≡ t → (if t then no_unit (Cut end) else unit_is byte (place + 1)) ≡ unit_is unit next → Head end place (byte ∷ []) unit next
last_head true end place byte unit next is e = absurd (never (Cut end) unit next e)
last_head false end place byte unit next is e = plain_head end place byte unit next [] is e

full_head : (t : Bool) (end place second unit next : ℕ) (rest : List ℕ) → (second == 0) ≡ t → (if t then unit_is 255 (place + 2) else no_unit (MarkerInScan place)) ≡ unit_is unit next
    → Head end place (255 ∷ second ∷ rest) unit next
full_head true end place second unit next rest is e =
    let v = both_numbers 255 (place + 2) unit next e in
    let none : second ≡ 0 = eqb-true second 0 is in
    let two : unit_bytes unit ≡ 255 ∷ 0 ∷ [] = ap unit_bytes (sym v.0) in
    record { more = rest; text = ap (λ (b : ℕ). 255 ∷ b ∷ rest) none ∙ ap (λ (l : List ℕ). l ++ rest) (sym two); place_after = sym v.1 ∙ ap (λ (l : List ℕ). place + length l) (sym two) }
full_head false end place second unit next rest is e = absurd (never (MarkerInScan place) unit next e)

two_head : (t : Bool) (end place byte second unit next : ℕ) (rest : List ℕ) → (byte == 255) ≡ t
    → (if t then (if second == 0 then unit_is 255 (place + 2) else no_unit (MarkerInScan place)) else unit_is byte (place + 1)) ≡ unit_is unit next → Head end place (byte ∷ second ∷ rest) unit next
two_head true end place byte second unit next rest is e =
    let full : byte ≡ 255 = eqb-true byte 255 is in
    let h = full_head (second == 0) end place second unit next rest refl e in
    record { more = h.more; text = ap (λ (b : ℕ). b ∷ second ∷ rest) full ∙ h.text; place_after = h.place_after }
two_head false end place byte second unit next rest is e = plain_head end place byte unit next (second ∷ rest) is e

head : (end place unit next : ℕ) (bytes : List ℕ) → unit_of end place bytes ≡ Ok (unit, next) → Head end place bytes unit next
head end place unit next [] e = absurd (never (Cut end) unit next e)
head end place unit next (byte ∷ []) e = last_head (byte == 255) end place byte unit next refl e
head end place unit next (byte ∷ second ∷ rest) e = two_head (byte == 255) end place byte second unit next rest refl e

-- where it ends
pub unit_spans : (bytes : List ℕ) (place unit next : ℕ) → unit_at bytes place ≡ Ok (unit, next) → (place < next) × (next ≤ place + 2)
unfolding unit_at
unit_spans bytes place unit next e =
    let h = head (length bytes) place unit next (drop place bytes) e in
    (omega (arith, h.place_after), omega (arith, h.place_after, length-unit_bytes unit))

-- bytes from a place on are bytes
bytes_drop : (n : ℕ) (bytes : List ℕ) → AllByRecursion IsByte bytes → AllByRecursion IsByte (drop n bytes)
bytes_drop zero bytes all = all
bytes_drop (suc n) [] all = all
bytes_drop (suc n) (byte ∷ bytes) all = bytes_drop n bytes all.1

first_byte : (unit : ℕ) (more bytes : List ℕ) → bytes ≡ unit_bytes unit ++ more → AllByRecursion IsByte bytes → IsByte unit
first_byte unit more bytes e all = (subst (λ (l : List ℕ). AllByRecursion IsByte l) e all).0

-- the unit at a place
record Unit_there (bytes : List ℕ) (place unit next : ℕ) : Type 0 where
  text : drop place bytes ≡ unit_bytes unit ++ drop next bytes
  next_is : next ≡ place + length (unit_bytes unit)
  small : IsByte unit

unit_there : (bytes : List ℕ) (place unit next : ℕ) → AllByRecursion IsByte bytes → unit_at bytes place ≡ Ok (unit, next) → Unit_there bytes place unit next
unfolding unit_at
unit_there bytes place unit next all e =
    let h = head (length bytes) place unit next (drop place bytes) e in
    let after : drop next bytes ≡ h.more =
    ap (λ (k : ℕ). drop k bytes) (h.place_after ∙ omega arith) ∙ sym (drop-drop (length (unit_bytes unit)) place bytes) ∙ ap (drop (length (unit_bytes unit))) h.text
    ∙ drop_at (unit_bytes unit) h.more (length (unit_bytes unit)) refl in
    record {
      text = h.text ∙ ap (λ (l : List ℕ). unit_bytes unit ++ l) (sym after);
      next_is = h.place_after;
      small = first_byte unit h.more (drop place bytes) h.text (bytes_drop place bytes all);
    }

bits_of-append : (xs ys : List ℕ) → bits_of (xs ++ ys) ≡ bits_of xs ++ bits_of ys
bits_of-append [] ys = refl
bits_of-append (x ∷ xs) ys = ap (λ (l : List Bool). low_bits 8 x ++ l) (bits_of-append xs ys) ∙ sym (append_assoc (low_bits 8 x) (bits_of xs) (bits_of ys))

all-append : (xs ys : List ℕ) → AllByRecursion IsByte xs → AllByRecursion IsByte ys → AllByRecursion IsByte (xs ++ ys)
all-append [] ys a b = b
all-append (x ∷ xs) ys a b = (a.0, all-append xs ys a.1 b)

-- one span and then another
pub spans_then : (bytes : List ℕ) (from mid to : Cursor) (xs ys : List Bool) → Spans bytes from xs mid → Spans bytes mid ys to → Spans bytes from (xs ++ ys) to
spans_then bytes from mid to xs ys a b = record {
  units = a.units ++ b.units;
  are_bytes = all-append a.units b.units a.are_bytes b.are_bytes;
  text =
      a.text ∙ ap (λ (l : List ℕ). stuffed a.units ++ l) b.text ∙ sym (append_assoc (stuffed a.units) (stuffed b.units) (drop to.next bytes))
      ∙ ap (λ (l : List ℕ). l ++ drop to.next bytes) (sym (stuffed-append a.units b.units));
  spelled =
      ap (λ (l : List Bool). from.left ++ l) (bits_of-append a.units b.units) ∙ sym (append_assoc from.left (bits_of a.units) (bits_of b.units))
      ∙ ap (λ (l : List Bool). l ++ bits_of b.units) a.spelled ∙ append_assoc xs mid.left (bits_of b.units) ∙ ap (λ (l : List Bool). xs ++ l) b.spelled
      ∙ sym (append_assoc xs ys to.left);
  place =
      let n = ap length (stuffed-append a.units b.units) ∙ length-append (stuffed a.units) (stuffed b.units) in
      omega (arith, n, a.place, b.place);
  within = b.within;
}

-- nothing is spanned
spans_none : (bytes : List ℕ) (from : Cursor) → IsWithin from → Spans bytes from [] from
spans_none bytes from within = record { units = []; are_bytes = tt; text = refl; spelled = append-nil from.left; place = omega arith; within = within }

-- a bit that is left
left_step : (bytes : List ℕ) (x bit : Bool) (xs : List Bool) (skip last next : ℕ) (to : Cursor) → IsWithin (record { left = x ∷ xs; skip = skip; last = last; next = next })
    → bit_at bytes (record { left = x ∷ xs; skip = skip; last = last; next = next }) ≡ Ok (bit, to)
    → Spans bytes (record { left = x ∷ xs; skip = skip; last = last; next = next }) (bit ∷ []) to
left_step bytes x bit xs skip last next to within e =
    let after : Cursor = record { left = xs; skip = skip; last = last; next = next } in
    let v = is_both (x, after) (bit, to) (sym (bit_left x xs bytes skip last next) ∙ e) in
    let from : Cursor = record { left = x ∷ xs; skip = skip; last = last; next = next } in
    let few : length xs < 8 = let h = within.few in omega (arith, h) in
    let s : Spans bytes from (x ∷ []) after = record { units = []; are_bytes = tt; text = refl; spelled = append-nil (x ∷ xs); place = omega arith; within = record { few = few; skip = within.skip } } in
    subst (λ (c : Cursor). Spans bytes from (bit ∷ []) c) v.1 (subst (λ (b : Bool). Spans bytes from (b ∷ []) after) v.0 s)

-- the bits of a unit
abbrev unit_cursor : ℕ → ℕ → ℕ → Cursor
unit_cursor unit last next = record { left = low_bits 8 unit; skip = 0; last = last; next = next }

abbrev rest_cursor : ℕ → ℕ → ℕ → Cursor
rest_cursor unit last next = record { left = low_bits 7 unit; skip = 0; last = last; next = next }

-- a fetched unit, where no bit is left
fetched_is : (bytes : List ℕ) (last next unit after : ℕ) → unit_at bytes next ≡ Ok (unit, after) → filled bytes (record { left = []; skip = 0; last = last; next = next }) ≡ Ok (unit_cursor unit next after)
fetched_is bytes last next unit after e =
    let c : Cursor = record { left = []; skip = 0; last = last; next = next } in
    filled_now bytes c refl ∙ ap (λ (r : Result (ℕ × ℕ) BitFault). and_then r (λ u. Ok (record { left = drop 0 (low_bits 8 u.0); skip = 0; last = next; next = u.1 }))) e

-- the first bit of a unit
unit_step_of : (bytes : List ℕ) (bit : Bool) (last next : ℕ) (to : Cursor) (r : Result (ℕ × ℕ) BitFault) → AllByRecursion IsByte bytes → unit_at bytes next ≡ r
    → bit_at bytes (record { left = []; skip = 0; last = last; next = next }) ≡ Ok (bit, to) → Spans bytes (record { left = []; skip = 0; last = last; next = next }) (bit ∷ []) to
unfolding bit_at
unit_step_of bytes bit last next to (Err fault) all u e =
    let c : Cursor = record { left = []; skip = 0; last = last; next = next } in
    let f : filled bytes c ≡ Err fault =
    filled_now bytes c refl ∙ ap (λ (r : Result (ℕ × ℕ) BitFault). and_then r (λ x. Ok (record { left = drop 0 (low_bits 8 x.0); skip = 0; last = next; next = x.1 }))) u in
    absurd (apart fault (bit, to) (sym (ap (λ (r : Result Cursor BitFault). and_then {A = Cursor} {B = Bool × Cursor} r (λ at. Ok (Rattle.std.specs.Prelude.slice_index_or at.left 0 false, record at { left = drop 1 at.left }))) f) ∙ e))
unit_step_of bytes bit last next to (Ok x) all u e =
    let c : Cursor = record { left = []; skip = 0; last = last; next = next } in
    let there = unit_there bytes next x.0 x.1 all u in
    let f = fetched_is bytes last next x.0 x.1 u in
    let first : Bool = x.0 / 2 ^ 7 % 2 == 1 in
    let v = is_both (first, rest_cursor x.0 next x.1) (bit, to) (sym (ap (λ (r : Result Cursor BitFault). and_then {A = Cursor} {B = Bool × Cursor} r (λ at. Ok (Rattle.std.specs.Prelude.slice_index_or at.left 0 false, record at { left = drop 1 at.left }))) f) ∙ e) in
    let s : Spans bytes c (first ∷ []) (rest_cursor x.0 next x.1) = record {
      units = x.0 ∷ [];
      are_bytes = (there.small, tt);
      text = there.text;
      spelled = append-nil (low_bits 8 x.0);
      place = there.next_is;
      within = record { few = let n = length-low_bits 7 x.0 in omega (arith, n); skip = refl };
    } in
    subst (λ (d : Cursor). Spans bytes c (bit ∷ []) d) v.1 (subst (λ (b : Bool). Spans bytes c (b ∷ []) (rest_cursor x.0 next x.1)) v.0 s)

-- one bit
step : (bytes : List ℕ) (bit : Bool) (from to : Cursor) → AllByRecursion IsByte bytes → IsWithin from → bit_at bytes from ≡ Ok (bit, to) → Spans bytes from (bit ∷ []) to
step bytes bit from to all within e =
    step_by from.left from.skip from.last from.next within.skip within e where
      step_by : (left : List Bool) (skip last next : ℕ) → skip ≡ 0 → IsWithin (record { left = left; skip = skip; last = last; next = next })
          → bit_at bytes (record { left = left; skip = skip; last = last; next = next }) ≡ Ok (bit, to) → Spans bytes (record { left = left; skip = skip; last = last; next = next }) (bit ∷ []) to
      step_by [] skip last next none w h =
          subst (λ (k : ℕ). bit_at bytes (record { left = []; skip = k; last = last; next = next }) ≡ Ok (bit, to) → Spans bytes (record { left = []; skip = k; last = last; next = next }) (bit ∷ []) to) (sym none)
          (λ g. unit_step_of bytes bit last next to (unit_at bytes next) all refl g) h
      step_by (x ∷ xs) skip last next none w h = left_step bytes x bit xs skip last next to w h

-- what is taken spans units
abbrev Taken : ℕ → List ℕ → Cursor → Cursor → List Bool → Type 0
Taken n bytes from to bits = Spans bytes from bits to × (length bits ≡ n)

-- a bit and then some
then_some : (n : ℕ) (bytes : List ℕ) (from mid to : Cursor) (bit : Bool) (bits : List Bool) (r : Result (List Bool × Cursor) BitFault)
    → ((end : Cursor) (more : List Bool) → r ≡ Ok (more, end) → Taken n bytes mid end more) → Spans bytes from (bit ∷ []) mid → after_bit bit r ≡ Ok (bits, to) → Taken (suc n) bytes from to bits
then_some n bytes from mid to bit bits (Err fault) more one h = absurd (apart fault (bits, to) h)
then_some n bytes from mid to bit bits (Ok x) more one h =
    let v = is_both (bit ∷ x.0, x.1) (bits, to) h in
    let b = more x.1 x.0 refl in
    let s = spans_then bytes from mid x.1 (bit ∷ []) x.0 one b.0 in
    (subst (λ (l : List Bool). Spans bytes from l to) v.0 (subst (λ (c : Cursor). Spans bytes from (bit ∷ x.0) c) v.1 s), ap length (sym v.0) ∙ ap suc b.1)

first_some : (n : ℕ) (bytes : List ℕ) (from to : Cursor) (bits : List Bool) (first : Result (Bool × Cursor) BitFault) → AllByRecursion IsByte bytes → IsWithin from → bit_at bytes from ≡ first
    → ((mid end : Cursor) (more : List Bool) → IsWithin mid → bits_at n bytes mid ≡ Ok (more, end) → Taken n bytes mid end more)
    → and_then first (λ one. after_bit one.0 (bits_at n bytes one.1)) ≡ Ok (bits, to) → Taken (suc n) bytes from to bits
first_some n bytes from to bits (Err fault) all within is more h = absurd (apart fault (bits, to) h)
first_some n bytes from to bits (Ok x) all within is more h =
    let a = step bytes x.0 from x.1 all within is in
    then_some n bytes from x.1 to x.0 bits (bits_at n bytes x.1) (λ end rest e. more x.1 end rest a.within e) a h

pub stand : TakenStand
unfolding bits_at
stand zero bytes from to bits all within e =
    let v = is_both ([], from) (bits, to) e in
    (subst (λ (b : List Bool). Spans bytes from b to) v.0 (subst (λ (c : Cursor). Spans bytes from [] c) v.1 (spans_none bytes from within)), ap length (sym v.0))
stand (suc n) bytes from to bits all within e =
    first_some n bytes from to bits (bit_at bytes from) all within refl (λ mid end rest w h. stand n bytes mid end rest all w h) e

-- ---- and back

-- a longer prefix
prefix_of : (xs ys zs ws : List Bool) → xs ++ ys ≡ zs ++ ws → length xs ≤ length zs → (m : List Bool) × (zs ≡ xs ++ m) × (ys ≡ m ++ ws)
prefix_of [] ys zs ws e h = (zs, refl, e)
prefix_of (x ∷ xs) ys [] ws e h = absurd (omega arith)
prefix_of (x ∷ xs) ys (z ∷ zs) ws e h =
    let same : x ≡ z = cc in
    let tails : xs ++ ys ≡ zs ++ ws = cc in
    let r = prefix_of xs ys zs ws tails (omega arith) in
    (r.0, ap₂ (λ (b : Bool) (l : List Bool). b ∷ l) (sym same) r.1, r.2)

-- what is taken of bits that stand
abbrev Found : List ℕ → List ℕ → Cursor → List Bool → List Bool → Type 0
Found units bytes from bits more = (to : Cursor) × (bits_at (length bits) bytes from ≡ Ok (bits, to)) × (to.left ≡ more) × (to.skip ≡ 0) × (to.next ≡ from.next + length (stuffed units))

-- a unit that stands at a place
unit_stands : (bytes : List ℕ) (place unit : ℕ) (more : List ℕ) → drop place bytes ≡ unit_bytes unit ++ more → unit_at bytes place ≡ Ok (unit, place + length (unit_bytes unit))
unfolding unit_at
unit_stands bytes place unit more e = ap (unit_of (length bytes) place) e ∙ unit_again (length bytes) place unit more (unit == 255) refl

-- after the bits that are left
left_then : (bytes : List ℕ) (left m : List Bool) (skip last next : ℕ) (to : Cursor) → bits_at (length m) bytes (record { left = []; skip = skip; last = last; next = next }) ≡ Ok (m, to)
    → bits_at (length (left ++ m)) bytes (record { left = left; skip = skip; last = last; next = next }) ≡ Ok (left ++ m, to)
left_then bytes left m skip last next to e =
    let from : Cursor = record { left = left; skip = skip; last = last; next = next } in
    let none : Cursor = record { left = []; skip = skip; last = last; next = next } in
    let all : bits_at (length left) bytes from ≡ Ok (left, none) =
    ap (λ (l : List Bool). bits_at (length left) bytes (record { left = l; skip = skip; last = last; next = next })) (sym (append-nil left)) ∙ bits_left left [] bytes skip last next in
    ap (λ (n : ℕ). bits_at n bytes from) (length-append left m) ∙ in_parts (length left) (length m) bytes from
    ∙ ap (λ (r : Result (List Bool × Cursor) BitFault). and_then r (then_bits (length m) bytes)) all
    ∙ ap (after_bits left) e

pub standing : StandingAreTaken
standing [] rest bytes from bits more none text spelled few =
    let e : from.left ≡ bits ++ more = sym (append-nil from.left) ∙ spelled in (
      record from { left = more },
      ap (λ (l : List Bool). bits_at (length bits) bytes (record from { left = l })) e ∙ bits_left bits more bytes from.skip from.last from.next,
      refl,
      none,
      omega arith,
    )
standing (unit ∷ units) rest bytes from bits more none text spelled few =
    let n = length-append (low_bits 8 unit) (bits_of units) in
    let eight = length-low_bits 8 unit in
    let a = length-append from.left (bits_of (unit ∷ units)) in
    let b = length-append bits more in
    let c = ap length spelled in
    let f = prefix_of from.left (bits_of (unit ∷ units)) bits more spelled (omega (arith, n, eight, a, b, c, few)) in
    let m = f.0 in
    let d = ap length f.2 in
    let g = length-append m more in
    let some : 0 < length m = omega (arith, d, g, n, eight, few) in
    let tail : drop from.next bytes ≡ unit_bytes unit ++ (stuffed units ++ rest) =
    text ∙ ap (λ (l : List ℕ). l ++ rest) (stuffed_first unit units) ∙ append_assoc (unit_bytes unit) (stuffed units) rest in
    let after = from.next + length (unit_bytes unit) in
    let there = unit_stands bytes from.next unit (stuffed units ++ rest) tail in
    let later : drop after bytes ≡ stuffed units ++ rest =
    sym (drop-drop (length (unit_bytes unit)) from.next bytes) ∙ ap (drop (length (unit_bytes unit))) tail ∙ drop_at (unit_bytes unit) (stuffed units ++ rest) (length (unit_bytes unit)) refl in
    let full = unit_cursor unit from.next after in
    let r = standing units rest bytes full m more refl later f.2 few in
    let empty : Cursor = record { left = []; skip = 0; last = from.last; next = from.next } in
    let got : bits_at (length m) bytes empty ≡ Ok (m, r.0) =
    bits_filled (length m) bytes empty full some (fetched_is bytes from.last from.next unit after there) (omega (arith, eight)) ∙ r.1 in
    let whole : bits_at (length (from.left ++ m)) bytes (record { left = from.left; skip = 0; last = from.last; next = from.next }) ≡ Ok (from.left ++ m, r.0) =
    left_then bytes from.left m 0 from.last from.next r.0 got in
    let skipped : bits_at (length (from.left ++ m)) bytes from ≡ Ok (from.left ++ m, r.0) = ap (λ (k : ℕ). bits_at (length (from.left ++ m)) bytes (record from { skip = k })) none ∙ whole in
    let long = ap length (stuffed_first unit units) ∙ length-append (unit_bytes unit) (stuffed units) in
    let p = r.4 in (
      r.0,
      subst (λ (l : List Bool). bits_at (length l) bytes from ≡ Ok (l, r.0)) (sym f.1) skipped,
      r.2,
      r.3,
      omega (arith, long, p),
    )

-- from within a unit
skipped_is : (bytes : List ℕ) (place skip unit after : ℕ) → unit_at bytes place ≡ Ok (unit, after)
    → filled bytes (starting place skip) ≡ Ok (record { left = drop skip (low_bits 8 unit); skip = 0; last = place; next = after })
skipped_is bytes place skip unit after e =
    filled_now bytes (starting place skip) refl ∙ ap (λ (r : Result (ℕ × ℕ) BitFault). and_then r (λ u. Ok (record { left = drop skip (low_bits 8 u.0); skip = 0; last = place; next = u.1 }))) e

unit_fault : (bytes : List ℕ) (place : ℕ) (fault : BitFault) → unit_at bytes place ≡ Err fault → filled bytes (starting place 0) ≡ Err fault
unit_fault bytes place fault e =
    filled_now bytes (starting place 0) refl ∙ ap (λ (r : Result (ℕ × ℕ) BitFault). and_then r (λ u. Ok (record { left = drop 0 (low_bits 8 u.0); skip = 0; last = place; next = u.1 }))) e

within_of : (r : Result (ℕ × ℕ) BitFault) (n skip place : ℕ) (bytes : List ℕ) (prefix : List Bool) (at : Cursor) → unit_at bytes place ≡ r → 0 < n → 0 < skip → skip < 8
    → bits_at skip bytes (starting place 0) ≡ Ok (prefix, at) → bits_at n bytes (starting place skip) ≡ bits_at n bytes at
within_of (Err fault) n skip place bytes prefix at u some begun few e =
    absurd (apart fault (prefix, at) (sym (bits_fault skip bytes (starting place 0) fault begun (unit_fault bytes place fault u)) ∙ e))
within_of (Ok x) n skip place bytes prefix at u some begun few e =
    let bits = low_bits 8 x.0 in
    let eight = length-low_bits 8 x.0 in
    let full = unit_cursor x.0 place x.1 in
    let later : Cursor = record { left = drop skip bits; skip = 0; last = place; next = x.1 } in
    let size : length (take skip bits) ≡ skip = length-take-le skip bits (omega (arith, eight)) in
    let first : bits_at skip bytes full ≡ Ok (take skip bits, later) =
    ap₂ (λ (k : ℕ) (l : List Bool). bits_at k bytes (record { left = l; skip = 0; last = place; next = x.1 })) (sym size) (sym (take-append-drop skip bits))
    ∙ bits_left (take skip bits) (drop skip bits) bytes 0 place x.1 in
    let v = is_both (take skip bits, later) (prefix, at) (sym first ∙ sym (bits_filled skip bytes (starting place 0) full begun (fetched_is bytes place place x.0 x.1 u) (omega (arith, eight))) ∙ e) in
    let left : 0 < length (drop skip bits) = let d = length-drop skip bits in omega (arith, d, eight) in
    bits_filled n bytes (starting place skip) later some (skipped_is bytes place skip x.0 x.1 u) left ∙ ap (λ (c : Cursor). bits_at n bytes c) v.1

pub from_within : TakenFromWithin
from_within n skip place bytes prefix at some begun few e = within_of (unit_at bytes place) n skip place bytes prefix at refl some begun few e
