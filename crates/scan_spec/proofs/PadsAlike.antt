-- Which pad bits give the same bytes, and how many there are.
use Rattle.std.proofs.Common.{◌≡◌, ℕ, zero, suc, ◌+◌, ◌-◌, ◌<◌, Bool, true, false, ◌==◌, if◌then◌else◌, List, [], ◌∷◌, ◌++◌, length, replicate, Ok, Err, refl, sym, ap, ap₂, ◌∙◌, arith}
use Rattle.std.specs.List.{onto_first}
use Rattle.std.proofs.lemmas.List.{length-map}
use Rattle.bit_list.specs.Bits.{bytes_after, stuffed}
use Rattle.scan_spec.specs.BlockBits.{Text}
use Rattle.scan_spec.specs.Slots.{Shape}
use Rattle.scan_spec.specs.Scans.{Mcu, mcus_bits, interval_bytes, restart_marker, ends_interval, intervals_after, intervals_of, bytes_of, then_bytes, intervals_bytes, scan_bytes, pad_bits_of, pad_counts, ArePads, pad_at}
use Rattle.scan_spec.specs.Spots.{interval_number}
use Rattle.scan_spec.specs.Pads.{interval_count}
use Rattle.scan_spec.specs.declared.slot.Slot.{Slot}
use Rattle.scan_spec.proofs.Intervals.{pads_for, padding_is}
use Rattle.scan_spec.proofs.PutWhole.{number_next_of, number_same_of, intervals_some}
use Rattle.scan_spec.proofs.ScanTaken.{first_number}

-- the same bit for each interval that pads some, from interval n on
abbrev pub AgreeFor : (ℕ → Bool) → (ℕ → Bool) → ℕ → List ℕ → Type 0
AgreeFor f g n [] = Unit {0}
AgreeFor f g n (count ∷ counts) = (0 < count → f n ≡ g n) × AgreeFor f g (n + 1) counts

repeated : (k : ℕ) (a b : Bool) → (0 < k → a ≡ b) → replicate k a ≡ replicate k b
repeated zero a b e = refl
repeated (suc k) a b e = ap (replicate (suc k)) (e (omega arith))

interval_alike : (bits : List Bool) (a b : Bool) → (0 < pads_for bits → a ≡ b) → interval_bytes a bits ≡ interval_bytes b bits
interval_alike bits a b e =
    ap (λ (l : List Bool). stuffed (bytes_after [] (bits ++ l))) (padding_is bits a ∙ repeated (pads_for bits) a b e ∙ sym (padding_is bits b))

text_alike : (t : Text) (a b : Bool) → (0 < pad_bits_of t → a ≡ b) → bytes_of (interval_bytes a) t ≡ bytes_of (interval_bytes b) t
text_alike (Ok bits) a b e = ap (λ (l : List ℕ). Ok l) (interval_alike bits a b e)
text_alike (Err stop) a b e = refl

marked_alike : (t : Text) (a b : Bool) (marker : List ℕ) → (0 < pad_bits_of t → a ≡ b)
    → bytes_of (λ bits. interval_bytes a bits ++ marker) t ≡ bytes_of (λ bits. interval_bytes b bits ++ marker) t
marked_alike (Ok bits) a b marker e = ap (λ (l : List ℕ). Ok (l ++ marker)) (interval_alike bits a b e)
marked_alike (Err stop) a b marker e = refl

intervals_alike : (all : List (List Mcu)) (slots : List Slot) (f g : ℕ → Bool) (n : ℕ) → AgreeFor f g n (pad_counts slots all) → intervals_bytes slots f n all ≡ intervals_bytes slots g n all
unfolding intervals_bytes
intervals_alike [] slots f g n agree = refl
intervals_alike (mcus ∷ []) slots f g n agree = text_alike (mcus_bits slots mcus) (f n) (g n) agree.0
intervals_alike (mcus ∷ next ∷ more) slots f g n agree =
    ap₂ then_bytes (marked_alike (mcus_bits slots mcus) (f n) (g n) (restart_marker n) agree.0) (intervals_alike (next ∷ more) slots f g (n + 1) agree.1)

-- a scan has the same bytes with them
pub pads_alike : (shape : Shape) (mcus : List Mcu) (f g : ℕ → Bool) → AgreeFor f g 0 (pad_counts shape.slots (intervals_of shape mcus)) → scan_bytes shape f mcus ≡ scan_bytes shape g mcus
unfolding scan_bytes
pads_alike shape mcus f g agree = intervals_alike (intervals_of shape mcus) shape.slots f g 0 agree

-- ---- how many there are

pub are_long : (counts : List ℕ) (pads : List Bool) → ArePads counts pads → length pads ≡ length counts
are_long [] [] are = refl
are_long [] (pad ∷ pads) are = absurd are
are_long (count ∷ counts) [] are = absurd are
are_long (count ∷ counts) (pad ∷ pads) are = ap suc (are_long counts pads are.1)

one_alone : (ends : Bool) (mcu : Mcu) → length (if ends then (mcu ∷ []) ∷ [] else onto_first mcu []) ≡ 1
one_alone true mcu = refl
one_alone false mcu = refl

length-onto : (mcu : Mcu) (all : List (List Mcu)) → 0 < length all → length (onto_first mcu all) ≡ length all
length-onto mcu [] some = absurd (omega (arith, some))
length-onto mcu (i ∷ is) some = refl

with_next : (ends : Bool) (shape : Shape) (count : ℕ) (mcu next : Mcu) (mcus : List Mcu) (last : ℕ) → ends_interval shape.interval (count + 1) ≡ ends
    → length (intervals_after shape.interval (count + 1) (next ∷ mcus)) + interval_number shape (count + 1) ≡ last
    → length (intervals_after shape.interval count (mcu ∷ next ∷ mcus)) + interval_number shape count ≡ last
with_next true shape count mcu next mcus last is e =
    let all = intervals_after shape.interval (count + 1) (next ∷ mcus) in
    let whole = ap (λ (b : Bool). length (if b then (mcu ∷ []) ∷ all else onto_first mcu all)) is in
    let number = number_next_of (shape.interval == 0) shape.interval count refl is in
    omega (arith, whole, number, e)
with_next false shape count mcu next mcus last is e =
    let all = intervals_after shape.interval (count + 1) (next ∷ mcus) in
    let whole = ap (λ (b : Bool). length (if b then (mcu ∷ []) ∷ all else onto_first mcu all)) is ∙ length-onto mcu all (intervals_some shape.interval (count + 1) next mcus) in
    let number = number_same_of (shape.interval == 0) shape.interval count refl is in
    omega (arith, whole, number, e)

intervals_long : (mcus : List Mcu) (mcu : Mcu) (shape : Shape) (count : ℕ) → count + suc (length mcus) ≡ shape.mcus
    → length (intervals_after shape.interval count (mcu ∷ mcus)) + interval_number shape count ≡ interval_number shape (shape.mcus - 1) + 1
intervals_long [] mcu shape count e =
    let last : count ≡ shape.mcus - 1 = omega (arith, e) in
    let number = ap (interval_number shape) last in
    let one = one_alone (ends_interval shape.interval (count + 1)) mcu in
    omega (arith, number, one)
intervals_long (next ∷ mcus) mcu shape count e =
    with_next (ends_interval shape.interval (count + 1)) shape count mcu next mcus (interval_number shape (shape.mcus - 1) + 1) refl (intervals_long mcus next shape (count + 1) (omega (arith, e)))

-- as many as restart intervals
pub intervals_are : (shape : Shape) (mcus : List Mcu) → 0 < shape.mcus → length mcus ≡ shape.mcus → length (pad_counts shape.slots (intervals_of shape mcus)) ≡ interval_count shape
intervals_are shape [] some e = absurd (omega (arith, some, e))
intervals_are shape (mcu ∷ mcus) some e =
    let long = intervals_long mcus mcu shape 0 (omega (arith, e)) in
    let first = first_number shape in
    let same : length (pad_counts shape.slots (intervals_of shape (mcu ∷ mcus))) ≡ length (intervals_of shape (mcu ∷ mcus)) =
    length-map (intervals_of shape (mcu ∷ mcus)) (λ (interval : List Mcu). pad_bits_of (mcus_bits shape.slots interval)) in
    omega (arith, long, first, same)

-- ---- ones

pub ones_are : (counts : List ℕ) (n : ℕ) → n ≡ length counts → ArePads counts (replicate n true)
ones_are [] n e = ap_pads n e where
  ap_pads : (n : ℕ) → n ≡ 0 → ArePads [] (replicate n true)
  ap_pads zero e = tt
  ap_pads (suc n) e = absurd (omega (arith, e))
ones_are (count ∷ counts) zero e = absurd (omega (arith, e))
ones_are (count ∷ counts) (suc n) e = (λ none. refl, ones_are counts n (omega (arith, e)))

one_at : (k n : ℕ) → pad_at (replicate k true) n ≡ true
one_at zero n = refl
one_at (suc k) zero = refl
one_at (suc k) (suc n) = one_at k n

pub ones_agree : (counts : List ℕ) (k n : ℕ) → AgreeFor (pad_at (replicate k true)) (λ i. true) n counts
ones_agree [] k n = tt
ones_agree (count ∷ counts) k n = (λ some. one_at k n, ones_agree counts k (n + 1))
