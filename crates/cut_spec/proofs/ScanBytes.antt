-- The bytes of a scan are bytes.
use Rattle.std.proofs.Common.{◌≡◌, ℕ, zero, suc, ◌+◌, ◌-◌, ◌^◌, ◌<◌, Bool, true, false, ◌==◌, if◌then◌else◌, List, [], ◌∷◌, ◌++◌, length, drop, get_or, Ok, Err, refl, sym, ap, ◌∙◌, subst, arith, length-append}
use Rattle.std.specs.List.{AllByRecursion}
use Rattle.std.proofs.lemmas.Bool.{eqb-true, false≢true}
use Rattle.std.proofs.lemmas.List.{get_or-drop}
use Rattle.bit_list.specs.Bits.{IsByte, number_of, bytes_after, stuffed}
use Rattle.bit_list.proofs.LowBits.{number_below}
use Rattle.scan_spec.specs.BlockBits.{Text}
use Rattle.scan_spec.specs.Slots.{Shape}
use Rattle.scan_spec.specs.Scans.{Mcu, Bytes, bytes_of, then_bytes, padded, interval_bytes, restart_marker, mcus_bits, intervals_of, intervals_bytes, scan_bytes, pad_at}
use Rattle.scan_spec.specs.ScanLaws.{Begins}
use Rattle.scan_spec.specs.declared.slot.Slot.{Slot}
use Rattle.scan_spec.specs.declared.stop.WriteStop.{WriteStop}
use Rattle.cut_spec.proofs.BitsOn.{byte_at}
use Rattle.cut_spec.proofs.UnitsBegun.{AreBytes}

abbrev AllBytes : List ℕ → Type 0
AllBytes bytes = AllByRecursion IsByte bytes

-- bits complete bytes
full_by : (full : Bool) (begun bits : List Bool) (bit : Bool) → (length begun == 7) ≡ full
    → length begun < 8 → ((b : List Bool) → length b < 8 → AllBytes (bytes_after b bits))
    → AllBytes
    (if full then number_of (begun ++ bit ∷ []) ∷ bytes_after [] bits else bytes_after
    (begun ++ bit ∷ []) bits)
full_by true begun bits bit is few more =
    let sum = length-append begun (bit ∷ []) in
    let seven = eqb-true (length begun) 7 is in
    let count : length (begun ++ bit ∷ []) ≡ 8 = omega (arith, sum, seven) in (
      subst (λ (n : ℕ). number_of (begun ++ bit ∷ []) < 2 ^ n) count
          (number_below (begun ++ bit ∷ [])),
      more [] (omega arith),
    )
full_by false begun bits bit is few more =
    let other : length begun ≡ 7 → ⊥ = λ e. false≢true (sym is ∙ ap (λ (n : ℕ). n == 7) e) in
    let sum = length-append begun (bit ∷ []) in
    more (begun ++ bit ∷ []) (omega (arith, few, other, sum))

completed : (bits begun : List Bool) → length begun < 8 → AllBytes (bytes_after begun bits)
completed [] begun few = tt
completed (bit ∷ bits) begun few =
    full_by (length begun == 7) begun bits bit refl few (λ b h. completed bits b h)

-- and stuffing adds one
zero_by : (full : Bool) (bytes : List ℕ) → AllBytes bytes
    → AllBytes (if full then 0 ∷ bytes else bytes)
zero_by true bytes all = (omega arith, all)
zero_by false bytes all = all

all_stuffed : (bytes : List ℕ) → AllBytes bytes → AllBytes (stuffed bytes)
all_stuffed [] all = tt
all_stuffed (byte ∷ bytes) all =
    (all.0, zero_by (byte == 255) (stuffed bytes) (all_stuffed bytes all.1))

all_then : (xs ys : List ℕ) → AllBytes xs → AllBytes ys → AllBytes (xs ++ ys)
all_then [] ys a b = b
all_then (x ∷ xs) ys a b = (a.0, all_then xs ys a.1 b)

-- ---- intervals

abbrev made : List ℕ → Bytes
made bytes = Ok bytes

abbrev stopped : WriteStop → Bytes
stopped stop = Err stop

same_bytes : (a b : List ℕ) → made a ≡ made b → a ≡ b
same_bytes a b e = cc

not_stopped : (stop : WriteStop) (b : List ℕ) → stopped stop ≡ made b → ⊥
not_stopped stop b e = cc

of_text : (f : List Bool → List ℕ) (t : Text) (bytes : List ℕ)
    → ((bits : List Bool) → AllBytes (f bits)) → bytes_of f t ≡ Ok bytes → AllBytes bytes
of_text f (Ok bits) bytes all e = subst AllBytes (same_bytes (f bits) bytes e) (all bits)
of_text f (Err stop) bytes all e = absurd (not_stopped stop bytes e)

of_both : (a b : Bytes) (bytes : List ℕ) → ((x : List ℕ) → a ≡ Ok x → AllBytes x)
    → ((y : List ℕ) → b ≡ Ok y → AllBytes y) → then_bytes a b ≡ Ok bytes → AllBytes bytes
of_both (Ok x) (Ok y) bytes f g e =
    subst AllBytes (same_bytes (x ++ y) bytes e) (all_then x y (f x refl) (g y refl))
of_both (Ok x) (Err stop) bytes f g e = absurd (not_stopped stop bytes e)
of_both (Err stop) b bytes f g e = absurd (not_stopped stop bytes e)

of_interval : (pad : Bool) (bits : List Bool) → AllBytes (interval_bytes pad bits)
of_interval pad bits = all_stuffed (bytes_after [] (padded bits pad))
    (completed (padded bits pad) [] (omega arith))

of_intervals : (all : List (List Mcu)) (slots : List Slot) (pads : ℕ → Bool) (n : ℕ)
    (bytes : List ℕ) → intervals_bytes slots pads n all ≡ Ok bytes → AllBytes bytes
unfolding intervals_bytes
of_intervals [] slots pads n bytes e = subst AllBytes (same_bytes [] bytes e) tt
of_intervals (mcus ∷ []) slots pads n bytes e =
    of_text (interval_bytes (pads n)) (mcus_bits slots mcus) bytes (of_interval (pads n)) e
of_intervals (mcus ∷ next ∷ more) slots pads n bytes e =
    let prefix : List Bool → List ℕ = λ bits. interval_bytes (pads n) bits ++ restart_marker n in
    of_both (bytes_of prefix (mcus_bits slots mcus))
    (intervals_bytes slots pads (n + 1) (next ∷ more)) bytes
    (λ x h. of_text prefix (mcus_bits slots mcus) x
    (λ bits. all_then (interval_bytes (pads n) bits) (restart_marker n)
    (of_interval (pads n) bits) (omega arith, (omega arith, tt))) h)
    (λ y h. of_intervals (next ∷ more) slots pads (n + 1) y h) e

scan_of_bytes : (shape : Shape) (pads : ℕ → Bool) (mcus : List Mcu) (scan : List ℕ)
    → scan_bytes shape pads mcus ≡ Ok scan → AllBytes scan
unfolding scan_bytes
scan_of_bytes shape pads mcus scan e =
    of_intervals (intervals_of shape mcus) shape.slots pads 0 scan e

-- ---- where a scan stands

first_small : (xs ys : List ℕ) (i : ℕ) → AllBytes xs → i < length xs → get_or (xs ++ ys) i 0 < 256
first_small [] ys i all below = absurd (omega (arith, below))
first_small (x ∷ xs) ys zero all below = all.0
first_small (x ∷ xs) ys (suc i) all below = first_small xs ys i all.1 (omega (arith, below))

pub are_bytes : (shape : Shape) (mcus : List Mcu) (pads : List Bool) (bytes : List ℕ)
    (place after : ℕ) → Begins shape mcus pads bytes place after → AreBytes bytes place after
are_bytes shape mcus pads bytes place after b = λ p least below.
    let i = p - place in
    let at : place + i ≡ p = omega (arith, least) in
    let text = b.is.text in
    let long = b.long in
    let small = first_small b.scan (drop after bytes) i
    (scan_of_bytes shape (pad_at pads) mcus b.scan text) (omega (arith, long, below, least)) in
    let there : get_or (b.scan ++ drop after bytes) i 0 ≡ byte_at bytes p =
    ap (λ (l : List ℕ). get_or l i 0) (sym b.text) ∙ get_or-drop place bytes i 0
    ∙ ap (λ (n : ℕ). get_or bytes n 0) at in
    subst (λ (n : ℕ). n < 256) there small
