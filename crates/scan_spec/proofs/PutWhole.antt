-- MCUs that are put one by one are the whole scan.
use Rattle.std.proofs.Common.{◌≡◌, ℕ, suc, ◌+◌, ◌*◌, ◌/◌, ◌%◌, ◌<◌, Bool, true, false, ◌==◌, ◌||◌, if◌then◌else◌, List, [], ◌∷◌, ◌++◌, length, ℤ, Ok, Err, refl, sym, ap, ap₂, ◌∙◌, arith, append_assoc, append-nil, inl, inr}
use Rattle.std.specs.Prelude.{not, ◌&&◌, flat_map}
use Rattle.std.specs.List.{AllByRecursion, onto_first}
use Rattle.std.proofs.lemmas.Bool.{eqb-true, eq-eqb, false_from_ne_true, cases_eq, cases_lt}
use Rattle.std.proofs.lemmas.Nat.{div-mul-add}
use Rattle.std.proofs.Math.Nat.{div-add-mod', mod-lt, zero-div}
use Rattle.bit_list.specs.Bits.{bytes_after, begun_after, padding, stuffed}
use Rattle.bit_list.proofs.Wholes.{bytes_cut, begun_cut}
use Rattle.bit_list.proofs.Stuffing.{stuffed-append}
use Rattle.scan_spec.specs.BlockBits.{Text, prefixed, then_text}
use Rattle.scan_spec.specs.Blocks.{blocks_text, dcs_after}
use Rattle.scan_spec.specs.Slots.{Shape}
use Rattle.scan_spec.specs.Scans.{Mcu, no_dcs, mcus_bits, restart_marker, ends_interval, intervals_after, Bytes, bytes_of, prefixed_bytes, then_bytes, intervals_bytes, scan_bytes, IsMcu, AreMcus}
use Rattle.scan_spec.specs.Spots.{Spot, first_spot, interval_number, Put, put_text, mcu_put, prefixed_put, then_put, mcus_put}
use Rattle.scan_spec.specs.ScanLaws.{IsShape, bytes_in}
use Rattle.scan_spec.specs.declared.slot.Slot.{Slot}
use Rattle.scan_spec.specs.declared.stop.WriteStop.{WriteStop}
use Rattle.scan_spec.proofs.Cuts.{text_in_parts}

-- ---- numbers of intervals

abbrev number : ℕ → ℕ → ℕ
number interval count = if interval == 0 then 0 else count / interval

quotient_next : (k c q r : ℕ) → 0 < k → r < k → q * k + r ≡ c → (c + 1) % k ≡ 0 → (c + 1) / k ≡ q + 1
quotient_next k c q r some below is none = elim (cases_lt (r + 1) k) [
  | inl lt ↦
      let d : (c + 1) / k ≡ q = ap (λ n. n / k) (sym (let e : q * k + (r + 1) ≡ c + 1 = omega (arith, is) in e)) ∙ div-mul-add q k (r + 1) lt in
      let e = div-add-mod' (c + 1) k in
      let f : q * k + 0 ≡ c + 1 = ap₂ (λ (a b : ℕ). a * k + b) (sym d) (sym none) ∙ e in
      absurd (omega (arith, f, is))
  | inr ge ↦
      let f : (q + 1) * k + 0 ≡ c + 1 = let g : r + 1 ≡ k = omega (arith, below, ge) in let h : (q + 1) * k ≡ q * k + k = omega arith in omega (arith, g, h, is) in
      ap (λ n. n / k) (sym f) ∙ div-mul-add (q + 1) k 0 some
]

quotient_same : (k c q r : ℕ) → 0 < k → r < k → q * k + r ≡ c → ((c + 1) % k ≡ 0 → ⊥) → (c + 1) / k ≡ q
quotient_same k c q r some below is more = elim (cases_lt (r + 1) k) [
  | inl lt ↦ ap (λ n. n / k) (sym (let e : q * k + (r + 1) ≡ c + 1 = omega (arith, is) in e)) ∙ div-mul-add q k (r + 1) lt
  | inr ge ↦
      let h : (q + 1) * k ≡ q * k + k = omega arith in
      let f : (q + 1) * k + 0 ≡ c + 1 = let g : r + 1 ≡ k = omega (arith, below, ge) in omega (arith, g, h, is) in
      let d : (c + 1) / k ≡ q + 1 = ap (λ n. n / k) (sym f) ∙ div-mul-add (q + 1) k 0 some in
      let e = div-add-mod' (c + 1) k in
      let m : (q + 1) * k + (c + 1) % k ≡ c + 1 = ap (λ (a : ℕ). a * k + (c + 1) % k) (sym d) ∙ e in
      absurd (more (omega (arith, m, f)))
]

pub number_next_of : (t : Bool) (k c : ℕ) → (k == 0) ≡ t → ends_interval k (c + 1) ≡ true → number k (c + 1) ≡ number k c + 1
number_next_of true k c is e = absurd (let f : false ≡ true = sym (ap (λ (t : Bool). not t && (c + 1) % k == 0) is) ∙ e in cc)
number_next_of false k c is e =
    let none : ((c + 1) % k == 0) ≡ true = sym (ap (λ (t : Bool). not t && (c + 1) % k == 0) is) ∙ e in
    let some : 0 < k = elim (cases_eq k 0) [ inl z ↦ absurd (let f : false ≡ true = sym is ∙ eq-eqb k 0 z in cc) | inr nz ↦ omega (arith, nz) ] in
    ap (λ (t : Bool). if t then 0 else (c + 1) / k) is ∙ quotient_next k c (c / k) (c % k) some (mod-lt c some) (div-add-mod' c k) (eqb-true ((c + 1) % k) 0 none)
    ∙ sym (ap (λ (t : Bool). (if t then 0 else c / k) + 1) is)

pub number_same_of : (t : Bool) (k c : ℕ) → (k == 0) ≡ t → ends_interval k (c + 1) ≡ false → number k (c + 1) ≡ number k c
number_same_of true k c is e = ap (λ (t : Bool). if t then 0 else (c + 1) / k) is ∙ sym (ap (λ (t : Bool). if t then 0 else c / k) is)
number_same_of false k c is e =
    let more : ((c + 1) % k == 0) ≡ false = sym (ap (λ (t : Bool). not t && (c + 1) % k == 0) is) ∙ e in
    let some : 0 < k = elim (cases_eq k 0) [ inl z ↦ absurd (let f : false ≡ true = sym is ∙ eq-eqb k 0 z in cc) | inr nz ↦ omega (arith, nz) ] in
    ap (λ (t : Bool). if t then 0 else (c + 1) / k) is
    ∙ quotient_same k c (c / k) (c % k) some (mod-lt c some) (div-add-mod' c k) (λ z. let f : false ≡ true = sym more ∙ eq-eqb ((c + 1) % k) 0 z in cc)
    ∙ sym (ap (λ (t : Bool). if t then 0 else c / k) is)

-- ---- the rest of an interval

-- the bytes of an interval that goes on after a byte begun
abbrev closed : List Bool → Bool → List Bool → List ℕ
closed begun pad bits = stuffed (bytes_after begun (bits ++ padding (begun_after begun bits) pad))

abbrev pub slots_for : List Slot → List Mcu → List Slot
slots_for slots mcus = flat_map (λ mcu. slots) mcus

abbrev blocks_in : List Mcu → List (List ℤ)
blocks_in mcus = flat_map (λ mcu. mcu) mcus

-- intervals of which the first was begun
abbrev rest_bytes : List Slot → (ℕ → Bool) → ℕ → List Bool → List ℤ → List (List Mcu) → Bytes
rest_bytes slots pads n begun before [] = Ok []
rest_bytes slots pads n begun before (mcus ∷ []) = bytes_of (closed begun (pads n)) (blocks_text (slots_for slots mcus) before (blocks_in mcus))
rest_bytes slots pads n begun before (mcus ∷ next ∷ more) =
    then_bytes (bytes_of (λ bits. closed begun (pads n) bits ++ restart_marker n) (blocks_text (slots_for slots mcus) before (blocks_in mcus))) (intervals_bytes slots pads (n + 1) (next ∷ more))

pub rest_is : (slots : List Slot) (pads : ℕ → Bool) (n : ℕ) (all : List (List Mcu)) → rest_bytes slots pads n [] no_dcs all ≡ intervals_bytes slots pads n all
unfolding intervals_bytes mcus_bits
rest_is slots pads n [] = refl
rest_is slots pads n (mcus ∷ []) = refl
rest_is slots pads n (mcus ∷ next ∷ more) = refl

-- bits in prefix of an interval's
closed_more : (begun a b : List Bool) (pad : Bool) → closed begun pad (a ++ b) ≡ stuffed (bytes_after begun a) ++ closed (begun_after begun a) pad b
closed_more begun a b pad =
    ap (λ (l : List Bool). stuffed (bytes_after begun ((a ++ b) ++ padding l pad))) (begun_cut begun a b)
    ∙ ap (λ (l : List Bool). stuffed (bytes_after begun l)) (append_assoc a b (padding (begun_after (begun_after begun a) b) pad))
    ∙ ap stuffed (bytes_cut begun a (b ++ padding (begun_after (begun_after begun a) b) pad))
    ∙ stuffed-append (bytes_after begun a) (bytes_after (begun_after begun a) (b ++ padding (begun_after (begun_after begun a) b) pad))

prefix_closed : (begun a : List Bool) (pad : Bool) (t : Text) → bytes_of (closed begun pad) (prefixed a t) ≡ prefixed_bytes (stuffed (bytes_after begun a)) (bytes_of (closed (begun_after begun a) pad) t)
prefix_closed begun a pad (Ok b) = ap (λ (l : List ℕ). Ok l) (closed_more begun a b pad)
prefix_closed begun a pad (Err stop) = refl

prefix_marked : (begun a : List Bool) (pad : Bool) (marker : List ℕ) (t : Text)
    → bytes_of (λ bits. closed begun pad bits ++ marker) (prefixed a t) ≡ prefixed_bytes (stuffed (bytes_after begun a)) (bytes_of (λ bits. closed (begun_after begun a) pad bits ++ marker) t)
prefix_marked begun a pad marker (Ok b) =
    ap (λ (l : List ℕ). Ok (l ++ marker)) (closed_more begun a b pad) ∙ ap (λ (l : List ℕ). Ok l) (append_assoc (stuffed (bytes_after begun a)) (closed (begun_after begun a) pad b) marker)
prefix_marked begun a pad marker (Err stop) = refl

after_then : (prefix : List ℕ) (a b : Bytes) → then_bytes (prefixed_bytes prefix a) b ≡ prefixed_bytes prefix (then_bytes a b)
after_then prefix (Ok x) (Ok y) = ap (λ (l : List ℕ). Ok l) (append_assoc prefix x y)
after_then prefix (Ok x) (Err stop) = refl
after_then prefix (Err stop) b = refl

-- an MCU in prefix of an interval's others
pub rest_more : (slots : List Slot) (pads : ℕ → Bool) (n : ℕ) (begun bits : List Bool) (before : List ℤ) (mcu : Mcu) (all : List (List Mcu)) → 0 < length all → length slots ≡ length mcu
    → blocks_text slots before mcu ≡ Ok bits
    → rest_bytes slots pads n begun before (onto_first mcu all) ≡ prefixed_bytes (stuffed (bytes_after begun bits)) (rest_bytes slots pads n (begun_after begun bits) (dcs_after slots before mcu) all)
rest_more slots pads n begun bits before mcu [] some size e = absurd (omega arith)
rest_more slots pads n begun bits before mcu (i ∷ []) some size e =
    let t = blocks_text (slots_for slots i) (dcs_after slots before mcu) (blocks_in i) in
    let whole : blocks_text (slots ++ slots_for slots i) before (mcu ++ blocks_in i) ≡ prefixed bits t =
    text_in_parts slots (slots_for slots i) before mcu (blocks_in i) size ∙ ap (λ (x : Text). then_text x t) e in
    ap (bytes_of (closed begun (pads n))) whole ∙ prefix_closed begun bits (pads n) t
rest_more slots pads n begun bits before mcu (i ∷ j ∷ js) some size e =
    let t = blocks_text (slots_for slots i) (dcs_after slots before mcu) (blocks_in i) in
    let whole : blocks_text (slots ++ slots_for slots i) before (mcu ++ blocks_in i) ≡ prefixed bits t =
    text_in_parts slots (slots_for slots i) before mcu (blocks_in i) size ∙ ap (λ (x : Text). then_text x t) e in
    let later = intervals_bytes slots pads (n + 1) (j ∷ js) in
    ap (λ (x : Bytes). then_bytes x later) (ap (bytes_of (λ b. closed begun (pads n) b ++ restart_marker n)) whole ∙ prefix_marked begun bits (pads n) (restart_marker n) t)
    ∙ after_then (stuffed (bytes_after begun bits)) (bytes_of (λ b. closed (begun_after begun bits) (pads n) b ++ restart_marker n) t) later

pub rest_stops : (slots : List Slot) (pads : ℕ → Bool) (n : ℕ) (begun : List Bool) (before : List ℤ) (mcu : Mcu) (stop : WriteStop) (all : List (List Mcu)) → length slots ≡ length mcu
    → blocks_text slots before mcu ≡ Err stop → rest_bytes slots pads n begun before (onto_first mcu all) ≡ Err stop
rest_stops slots pads n begun before mcu stop [] size e =
    let whole : blocks_text (slots ++ []) before (mcu ++ []) ≡ Err stop = text_in_parts slots [] before mcu [] size ∙ ap (λ (x : Text). then_text x (blocks_text [] (dcs_after slots before mcu) [])) e in
    ap (bytes_of (closed begun (pads n))) whole
rest_stops slots pads n begun before mcu stop (i ∷ []) size e =
    let t = blocks_text (slots_for slots i) (dcs_after slots before mcu) (blocks_in i) in
    ap (bytes_of (closed begun (pads n))) (text_in_parts slots (slots_for slots i) before mcu (blocks_in i) size ∙ ap (λ (x : Text). then_text x t) e)
rest_stops slots pads n begun before mcu stop (i ∷ j ∷ js) size e =
    let t = blocks_text (slots_for slots i) (dcs_after slots before mcu) (blocks_in i) in
    let later = intervals_bytes slots pads (n + 1) (j ∷ js) in
    ap (λ (x : Text). then_bytes (bytes_of (λ b. closed begun (pads n) b ++ restart_marker n) x) later) (text_in_parts slots (slots_for slots i) before mcu (blocks_in i) size ∙ ap (λ (x : Text). then_text x t) e)

-- ---- MCU by MCU

rest_first : (slots : List Slot) (pads : ℕ → Bool) (n : ℕ) (begun bits : List Bool) (before : List ℤ) (mcu : Mcu) (all : List (List Mcu)) → 0 < length all → blocks_text slots before mcu ≡ Ok bits
    → rest_bytes slots pads n begun before ((mcu ∷ []) ∷ all) ≡ prefixed_bytes (closed begun (pads n) bits ++ restart_marker n) (intervals_bytes slots pads (n + 1) all)
rest_first slots pads n begun bits before mcu [] some e = absurd (omega arith)
rest_first slots pads n begun bits before mcu (j ∷ js) some e =
    let whole : blocks_text (slots ++ []) before (mcu ++ []) ≡ Ok bits = ap₂ (λ (s : List Slot) (b : Mcu). blocks_text s before b) (append-nil slots) (append-nil mcu) ∙ e in
    ap (λ (x : Text). then_bytes (bytes_of (λ b. closed begun (pads n) b ++ restart_marker n) x) (intervals_bytes slots pads (n + 1) (j ∷ js))) whole

rest_last : (slots : List Slot) (pads : ℕ → Bool) (n : ℕ) (begun bits : List Bool) (before : List ℤ) (mcu : Mcu) → blocks_text slots before mcu ≡ Ok bits
    → rest_bytes slots pads n begun before ((mcu ∷ []) ∷ []) ≡ Ok (closed begun (pads n) bits)
rest_last slots pads n begun bits before mcu e =
    ap (bytes_of (closed begun (pads n))) (ap₂ (λ (s : List Slot) (b : Mcu). blocks_text s before b) (append-nil slots) (append-nil mcu) ∙ e)

-- there is an interval
pub onto_some : (mcu : Mcu) (all : List (List Mcu)) → 0 < length (onto_first mcu all)
onto_some mcu [] = omega arith
onto_some mcu (i ∷ is) = omega arith

if_some : (t : Bool) (a b : List (List Mcu)) → 0 < length a → 0 < length b → 0 < length (if t then a else b)
if_some true a b p q = p
if_some false a b p q = q

pub intervals_some : (interval before : ℕ) (mcu : Mcu) (mcus : List Mcu) → 0 < length (intervals_after interval before (mcu ∷ mcus))
intervals_some interval before mcu mcus =
    let more = intervals_after interval (before + 1) mcus in
    if_some (ends_interval interval (before + 1)) ((mcu ∷ []) ∷ more) (onto_first mcu more) (omega arith) (onto_some mcu more)

in_after : (prefix : List ℕ) (p : Put) → bytes_in (prefixed_put prefix p) ≡ prefixed_bytes prefix (bytes_in p)
in_after prefix (Ok x) = refl
in_after prefix (Err stop) = refl

-- an MCU's bits, by where it stands
abbrev put_by : Bool → Bool → Shape → (ℕ → Bool) → Spot → List ℤ → List Bool → List ℕ × Spot
put_by over ends shape pads spot before bits =
    if over || ends
    then (closed spot.begun (pads (interval_number shape spot.count)) bits ++ (if over then [] else restart_marker (interval_number shape spot.count)), record { begun = []; before = no_dcs; count = spot.count + 1 })
    else (stuffed (bytes_after spot.begun bits), record { begun = begun_after spot.begun bits; before = before; count = spot.count + 1 })

abbrev spot_of : List Bool → List ℤ → ℕ → Spot
spot_of begun before count = record { begun = begun; before = before; count = count }

abbrev Whole : Shape → (ℕ → Bool) → List Bool → List ℤ → ℕ → List Mcu → Type 0
Whole shape pads begun before count mcus =
    bytes_in (mcus_put shape pads (spot_of begun before count) mcus) ≡ rest_bytes shape.slots pads (interval_number shape count) begun before (intervals_after shape.interval count mcus)

-- a first MCU with its bits, after which there are others
more_by : (ends : Bool) (shape : Shape) (pads : ℕ → Bool) (begun bits : List Bool) (before : List ℤ) (count : ℕ) (mcu next : Mcu) (mcus : List Mcu) → length shape.slots ≡ length mcu
    → ends_interval shape.interval (count + 1) ≡ ends → blocks_text shape.slots before mcu ≡ Ok bits
    → ((b : List Bool) (d : List ℤ) → Whole shape pads b d (count + 1) (next ∷ mcus))
    → bytes_in (then_put (Ok (put_by false ends shape pads (spot_of begun before count) (dcs_after shape.slots before mcu) bits)) (λ s. mcus_put shape pads s (next ∷ mcus)))
    ≡ rest_bytes shape.slots pads (interval_number shape count) begun before
    (if ends then (mcu ∷ []) ∷ intervals_after shape.interval (count + 1) (next ∷ mcus) else onto_first mcu (intervals_after shape.interval (count + 1) (next ∷ mcus)))
more_by true shape pads begun bits before count mcu next mcus size is text whole =
    let n = interval_number shape count in
    let all = intervals_after shape.interval (count + 1) (next ∷ mcus) in
    let prefix = closed begun (pads n) bits ++ restart_marker n in
    let later = whole [] no_dcs ∙ rest_is shape.slots pads (interval_number shape (count + 1)) all
    ∙ ap (λ (k : ℕ). intervals_bytes shape.slots pads k all) (number_next_of (shape.interval == 0) shape.interval count refl is) in
    in_after prefix (mcus_put shape pads (spot_of [] no_dcs (count + 1)) (next ∷ mcus)) ∙ ap (prefixed_bytes prefix) later
    ∙ sym (rest_first shape.slots pads n begun bits before mcu all (intervals_some shape.interval (count + 1) next mcus) text)
more_by false shape pads begun bits before count mcu next mcus size is text whole =
    let n = interval_number shape count in
    let all = intervals_after shape.interval (count + 1) (next ∷ mcus) in
    let prefix = stuffed (bytes_after begun bits) in
    let b = begun_after begun bits in
    let d = dcs_after shape.slots before mcu in
    let later = whole b d ∙ ap (λ (k : ℕ). rest_bytes shape.slots pads k b d all) (number_same_of (shape.interval == 0) shape.interval count refl is) in
    in_after prefix (mcus_put shape pads (spot_of b d (count + 1)) (next ∷ mcus)) ∙ ap (prefixed_bytes prefix) later
    ∙ sym (rest_more shape.slots pads n begun bits before mcu all (intervals_some shape.interval (count + 1) next mcus) size text)

last_by : (ends : Bool) (shape : Shape) (pads : ℕ → Bool) (begun bits : List Bool) (before : List ℤ) (count : ℕ) (mcu : Mcu) → blocks_text shape.slots before mcu ≡ Ok bits
    → bytes_in (then_put (Ok (put_by true ends shape pads (spot_of begun before count) (dcs_after shape.slots before mcu) bits)) (λ s. Ok ([], s)))
    ≡ rest_bytes shape.slots pads (interval_number shape count) begun before (if ends then (mcu ∷ []) ∷ [] else (mcu ∷ []) ∷ [])
last_by true shape pads begun bits before count mcu text =
    let n = interval_number shape count in
    ap (λ (l : List ℕ). Ok l) (append-nil (closed begun (pads n) bits ++ []) ∙ append-nil (closed begun (pads n) bits)) ∙ sym (rest_last shape.slots pads n begun bits before mcu text)
last_by false shape pads begun bits before count mcu text =
    let n = interval_number shape count in
    ap (λ (l : List ℕ). Ok l) (append-nil (closed begun (pads n) bits ++ []) ∙ append-nil (closed begun (pads n) bits)) ∙ sym (rest_last shape.slots pads n begun bits before mcu text)

stops_by : (ends : Bool) (shape : Shape) (pads : ℕ → Bool) (n : ℕ) (begun : List Bool) (before : List ℤ) (mcu : Mcu) (stop : WriteStop) (all : List (List Mcu)) → length shape.slots ≡ length mcu
    → blocks_text shape.slots before mcu ≡ Err stop
    → rest_bytes shape.slots pads n begun before (if ends then (mcu ∷ []) ∷ all else onto_first mcu all) ≡ Err stop
stops_by true shape pads n begun before mcu stop all size text = rest_stops shape.slots pads n begun before mcu stop ([] ∷ all) size text
stops_by false shape pads n begun before mcu stop all size text = rest_stops shape.slots pads n begun before mcu stop all size text

-- the first MCU by its bits
first_by : (t : Text) (shape : Shape) (pads : ℕ → Bool) (begun : List Bool) (before : List ℤ) (count : ℕ) (mcu : Mcu) (mcus : List Mcu) → length shape.slots ≡ length mcu
    → count + suc (length mcus) ≡ shape.mcus → blocks_text shape.slots before mcu ≡ t
    → ((b : List Bool) (d : List ℤ) → Whole shape pads b d (count + 1) mcus)
    → bytes_in (then_put (put_text shape pads (spot_of begun before count) (dcs_after shape.slots before mcu) t) (λ s. mcus_put shape pads s mcus))
    ≡ rest_bytes shape.slots pads (interval_number shape count) begun before
    (if ends_interval shape.interval (count + 1) then (mcu ∷ []) ∷ intervals_after shape.interval (count + 1) mcus else onto_first mcu (intervals_after shape.interval (count + 1) mcus))
unfolding mcus_put
first_by (Err stop) shape pads begun before count mcu mcus size long text whole =
    sym (stops_by (ends_interval shape.interval (count + 1)) shape pads (interval_number shape count) begun before mcu stop (intervals_after shape.interval (count + 1) mcus) size text)
first_by (Ok bits) shape pads begun before count mcu [] size long text whole =
    let ends = ends_interval shape.interval (count + 1) in
    let over : (count + 1 == shape.mcus) ≡ true = eq-eqb (count + 1) shape.mcus (omega (arith, long)) in
    ap (λ (t : Bool). bytes_in (then_put (Ok (put_by t ends shape pads (spot_of begun before count) (dcs_after shape.slots before mcu) bits)) (λ s. Ok ([], s)))) over
    ∙ last_by ends shape pads begun bits before count mcu text
first_by (Ok bits) shape pads begun before count mcu (next ∷ mcus) size long text whole =
    let ends = ends_interval shape.interval (count + 1) in
    let over : (count + 1 == shape.mcus) ≡ false = false_from_ne_true (count + 1 == shape.mcus) (λ e. let same = eqb-true (count + 1) shape.mcus e in omega (arith, same, long)) in
    ap (λ (t : Bool). bytes_in (then_put (Ok (put_by t ends shape pads (spot_of begun before count) (dcs_after shape.slots before mcu) bits)) (λ s. mcus_put shape pads s (next ∷ mcus)))) over
    ∙ more_by ends shape pads begun bits before count mcu next mcus size refl text whole

put_all : (mcus : List Mcu) (shape : Shape) (pads : ℕ → Bool) (begun : List Bool) (before : List ℤ) (count : ℕ) → count + length mcus ≡ shape.mcus → AllByRecursion (IsMcu shape.slots) mcus
    → Whole shape pads begun before count mcus
unfolding mcus_put mcu_put
put_all [] shape pads begun before count long each = refl
put_all (mcu ∷ mcus) shape pads begun before count long each =
    first_by (blocks_text shape.slots before mcu) shape pads begun before count mcu mcus (sym each.0.0) long refl (λ b d. put_all mcus shape pads b d (count + 1) (omega (arith, long)) each.1)

pub put_whole : (shape : Shape) (pads : ℕ → Bool) (mcus : List Mcu) → IsShape shape → AreMcus shape mcus → bytes_in (mcus_put shape pads first_spot mcus) ≡ scan_bytes shape pads mcus
unfolding scan_bytes
put_whole shape pads mcus is are =
    let zero_of : interval_number shape 0 ≡ 0 = if_zero (shape.interval == 0) (0 / shape.interval) (zero-div shape.interval) in
    put_all mcus shape pads [] no_dcs 0 (let n = are.count in omega (arith, n)) are.each
    ∙ ap (λ (n : ℕ). rest_bytes shape.slots pads n [] no_dcs (intervals_after shape.interval 0 mcus)) zero_of
    ∙ rest_is shape.slots pads 0 (intervals_after shape.interval 0 mcus) where
      if_zero : (t : Bool) (n : ℕ) → n ≡ 0 → (if t then 0 else n) ≡ 0
      if_zero true n e = refl
      if_zero false n e = e
