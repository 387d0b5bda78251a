-- What is left of a scan: the bits of an interval that was begun, and the intervals after it.
use Rattle.std.proofs.Common.{◌≡◌, ℕ, ◌+◌, Bool, false, ◌==◌, if◌then◌else◌, List, [], ◌∷◌, ◌++◌, length, drop, replicate, ℤ, Ok, Err, refl, sym, ap, ap₂, ◌∙◌, subst, arith, append_assoc, append-nil, length-append}
use Rattle.std.specs.Prelude.{flat_map}
use Rattle.std.specs.List.{AllByRecursion, onto_first}
use Rattle.bit_list.specs.Bits.{IsByte}
use Rattle.bit_list.specs.Units.{Cursor, starting}
use Rattle.scan_spec.specs.BlockBits.{Text, then_text}
use Rattle.scan_spec.specs.Blocks.{blocks_text, dcs_after}
use Rattle.scan_spec.specs.Slots.{Shape}
use Rattle.scan_spec.specs.Scans.{Mcu, no_dcs, mcus_bits, interval_bytes, restart_marker, ends_interval, intervals_after, Bytes, bytes_of, then_bytes, intervals_bytes, pad_bits_of, pad_counts}
use Rattle.scan_spec.specs.Spots.{interval_number}
use Rattle.scan_spec.specs.declared.slot.Slot.{Slot}
use Rattle.scan_spec.specs.declared.stop.WriteStop.{WriteStop}
use Rattle.scan_spec.proofs.Cuts.{text_in_parts}
use Rattle.scan_spec.proofs.PutWhole.{number_same_of, slots_for}
use Rattle.scan_spec.proofs.BitsTaken.{Takes, takes_then}
use Rattle.scan_spec.proofs.Intervals.{opened, closed}

abbrev pub blocks_in : List Mcu → List (List ℤ)
blocks_in mcus = flat_map (λ mcu. mcu) mcus

-- after an interval's pad bits stands nothing more, or its marker and the others
abbrev pub Later : List Slot → (ℕ → Bool) → List ℕ → ℕ → ℕ → List (List Mcu) → ℕ → Type 0
Later slots pads bytes after n [] place = place ≡ after
Later slots pads bytes after n (interval ∷ intervals) place =
    (text : List ℕ) × (intervals_bytes slots pads (n + 1) (interval ∷ intervals) ≡ Ok text) × (drop place bytes ≡ restart_marker n ++ (text ++ drop after bytes)) × (after ≡ place + (2 + length text))

-- the bits of the MCUs that are left of an interval stand from a cursor on, so many pad bits after them, and the other
-- intervals
pub record Rest (slots : List Slot) (pads : ℕ → Bool) (bytes : List ℕ) (after n : ℕ) (before : List ℤ) (cursor : Cursor) (k : ℕ) (first : List Mcu) (others : List (List Mcu)) : Type 0 where
  pub bits : List Bool
  pub text : blocks_text (slots_for slots first) before (blocks_in first) ≡ Ok bits
  pub to : Cursor
  pub takes : Takes bytes cursor bits to
  pub left : to.left ≡ replicate k (pads n)
  pub later : Later slots pads bytes after n others to.next

-- the same of MCUs in intervals
pub record RestOf (shape : Shape) (pads : ℕ → Bool) (bytes : List ℕ) (after count : ℕ) (before : List ℤ) (cursor : Cursor) (k : ℕ) (mcus : List Mcu) (others : List (List Mcu)) : Type 0 where
  pub first : List Mcu
  pub is : intervals_after shape.interval count mcus ≡ first ∷ others
  pub rest : Rest shape.slots pads bytes after (interval_number shape count) before cursor k first others

-- ---- results of bytes

abbrev fine_bytes : List ℕ → Bytes
fine_bytes bytes = Ok bytes

abbrev no_bytes : WriteStop → Bytes
no_bytes stop = Err stop

bytes_stop : (stop : WriteStop) (bytes : List ℕ) → no_bytes stop ≡ fine_bytes bytes → ⊥
bytes_stop stop bytes e = cc

same_bytes : (a b : List ℕ) → fine_bytes a ≡ fine_bytes b → a ≡ b
same_bytes a b e = cc

-- ---- the text of intervals, and what is left of them

-- bytes that go on with a text, up to a place
pub record HasTextAt (bytes : List ℕ) (place : ℕ) (text : List ℕ) (after : ℕ) : Type 0 where
  pub there : drop place bytes ≡ text ++ drop after bytes
  pub long : after ≡ place + length text

last_rest : (slots : List Slot) (pads : ℕ → Bool) (bytes : List ℕ) (after n place : ℕ) (first : List Mcu) (text : List ℕ) (t : Text) → mcus_bits slots first ≡ t → bytes_of (interval_bytes (pads n)) t ≡ Ok text → HasTextAt bytes place text after
    → Rest slots pads bytes after n no_dcs (starting place 0) (pad_bits_of t) first []
unfolding mcus_bits
last_rest slots pads bytes after n place first text (Err stop) is e goes = absurd (bytes_stop stop text e)
last_rest slots pads bytes after n place first text (Ok bits) is e goes =
    let same = same_bytes (interval_bytes (pads n) bits) text e in
    let o = opened bytes (drop after bytes) place bits (pads n) (goes.there ∙ ap (λ (l : List ℕ). l ++ drop after bytes) (sym same)) in
    record {
      bits = bits;
      text = is;
      to = o.to;
      takes = o.takes;
      left = o.left;
      later = o.next ∙ ap (λ (l : List ℕ). place + length l) same ∙ sym goes.long;
    }

more_rest : (slots : List Slot) (pads : ℕ → Bool) (bytes : List ℕ) (after n place : ℕ) (first next : List Mcu) (others : List (List Mcu)) (text : List ℕ) (t : Text) (b : Bytes) → mcus_bits slots first ≡ t
    → intervals_bytes slots pads (n + 1) (next ∷ others) ≡ b → then_bytes (bytes_of (λ bits. interval_bytes (pads n) bits ++ restart_marker n) t) b ≡ Ok text → HasTextAt bytes place text after
    → Rest slots pads bytes after n no_dcs (starting place 0) (pad_bits_of t) first (next ∷ others)
unfolding mcus_bits
more_rest slots pads bytes after n place first next others text (Err stop) b is those e goes = absurd (bytes_stop stop text e)
more_rest slots pads bytes after n place first next others text (Ok bits) (Err stop) is those e goes = absurd (bytes_stop stop text e)
more_rest slots pads bytes after n place first next others text (Ok bits) (Ok last) is those e goes =
    let prefix = interval_bytes (pads n) bits in
    let same : (prefix ++ restart_marker n) ++ last ≡ text = same_bytes ((prefix ++ restart_marker n) ++ last) text e in
    let whole : text ++ drop after bytes ≡ prefix ++ (restart_marker n ++ (last ++ drop after bytes)) =
    ap (λ (l : List ℕ). l ++ drop after bytes) (sym same) ∙ append_assoc (prefix ++ restart_marker n) last (drop after bytes) ∙ append_assoc prefix (restart_marker n) (last ++ drop after bytes) in
    let o = opened bytes (restart_marker n ++ (last ++ drop after bytes)) place bits (pads n) (goes.there ∙ whole) in
    let long : length text ≡ length prefix + 2 + length last =
    let a = ap length same in let b = length-append (prefix ++ restart_marker n) last in let c = length-append prefix (restart_marker n) in omega (arith, a, b, c) in
    record {
      bits = bits;
      text = is;
      to = o.to;
      takes = o.takes;
      left = o.left;
      later = (last, those, o.after, (let a = goes.long in let b = o.next in omega (arith, a, b, long)));
    }

start_rest : (slots : List Slot) (pads : ℕ → Bool) (bytes : List ℕ) (after n place : ℕ) (first : List Mcu) (others : List (List Mcu)) (text : List ℕ) → intervals_bytes slots pads n (first ∷ others) ≡ Ok text
    → HasTextAt bytes place text after → Rest slots pads bytes after n no_dcs (starting place 0) (pad_bits_of (mcus_bits slots first)) first others
unfolding intervals_bytes
start_rest slots pads bytes after n place first [] text e goes = last_rest slots pads bytes after n place first text (mcus_bits slots first) refl e goes
start_rest slots pads bytes after n place first (next ∷ others) text e goes =
    more_rest slots pads bytes after n place first next others text (mcus_bits slots first) (intervals_bytes slots pads (n + 1) (next ∷ others)) refl refl e goes

-- and back
abbrev pub TextOf : List Slot → (ℕ → Bool) → List ℕ → ℕ → ℕ → ℕ → List (List Mcu) → Type 0
TextOf slots pads bytes after n place all = (text : List ℕ) × (intervals_bytes slots pads n all ≡ Ok text) × HasTextAt bytes place text after

rest_text : (slots : List Slot) (pads : ℕ → Bool) (bytes : List ℕ) (after n place k : ℕ) (first : List Mcu) (others : List (List Mcu)) → AllByRecursion IsByte bytes
    → Rest slots pads bytes after n no_dcs (starting place 0) k first others → (k ≡ pad_bits_of (mcus_bits slots first)) × TextOf slots pads bytes after n place (first ∷ others)
unfolding intervals_bytes mcus_bits
rest_text slots pads bytes after n place k first [] all r =
    let c = closed bytes place r.bits k (pads n) r.to all r.takes r.left in
    let prefix = interval_bytes (pads n) r.bits in (
      c.count ∙ ap pad_bits_of (sym r.text),
      (prefix, ap (bytes_of (interval_bytes (pads n))) r.text, record { there = c.text ∙ ap (λ (m : ℕ). prefix ++ drop m bytes) r.later; long = sym r.later ∙ c.next }),
    )
rest_text slots pads bytes after n place k first (next ∷ others) all r =
    let c = closed bytes place r.bits k (pads n) r.to all r.takes r.left in
    let prefix = interval_bytes (pads n) r.bits in
    let last = r.later.0 in (
      c.count ∙ ap pad_bits_of (sym r.text),
      (
        (prefix ++ restart_marker n) ++ last,
        ap₂ (λ (t : Text) (b : Bytes). then_bytes (bytes_of (λ bits. interval_bytes (pads n) bits ++ restart_marker n) t) b) r.text r.later.1,
        record {
          there =
              c.text ∙ ap (λ (l : List ℕ). prefix ++ l) r.later.2 ∙ sym (append_assoc prefix (restart_marker n) (last ++ drop after bytes))
              ∙ sym (append_assoc (prefix ++ restart_marker n) last (drop after bytes));
          long =
              let a = length-append (prefix ++ restart_marker n) last in let b = length-append prefix (restart_marker n) in let d = c.next in let f = r.later.3 in omega (arith, a, b, d, f);
        },
      ),
    )

-- ---- the rest of a scan from the start of an interval

pub text_of_rest : (shape : Shape) (pads : ℕ → Bool) (bytes : List ℕ) (after count place k : ℕ) (mcus : List Mcu) (others : List (List Mcu)) → AllByRecursion IsByte bytes
    → RestOf shape pads bytes after count no_dcs (starting place 0) k mcus others
    → (k ∷ pad_counts shape.slots others ≡ pad_counts shape.slots (intervals_after shape.interval count mcus))
    × TextOf shape.slots pads bytes after (interval_number shape count) place (intervals_after shape.interval count mcus)
text_of_rest shape pads bytes after count place k mcus others all r =
    let t = rest_text shape.slots pads bytes after (interval_number shape count) place k r.first others all r.rest in (
      ap (λ (n : ℕ). n ∷ pad_counts shape.slots others) t.0 ∙ ap (pad_counts shape.slots) (sym r.is),
      subst (λ (l : List (List Mcu)). TextOf shape.slots pads bytes after (interval_number shape count) place l) (sym r.is) t.1,
    )

pub rest_of_text : (shape : Shape) (pads : ℕ → Bool) (bytes : List ℕ) (after count place : ℕ) (mcus first : List Mcu) (others : List (List Mcu)) → intervals_after shape.interval count mcus ≡ first ∷ others
    → TextOf shape.slots pads bytes after (interval_number shape count) place (intervals_after shape.interval count mcus)
    → RestOf shape pads bytes after count no_dcs (starting place 0) (pad_bits_of (mcus_bits shape.slots first)) mcus others
rest_of_text shape pads bytes after count place mcus first others is t =
    let u : TextOf shape.slots pads bytes after (interval_number shape count) place (first ∷ others) = subst (λ (l : List (List Mcu)). TextOf shape.slots pads bytes after (interval_number shape count) place l) is t in
    record {
      first = first;
      is = is;
      rest = start_rest shape.slots pads bytes after (interval_number shape count) place first others u.0 u.1 u.2;
    }

-- ---- an MCU more

-- an MCU that ends its interval
pub closed_rest : (shape : Shape) (pads : ℕ → Bool) (bytes : List ℕ) (after count : ℕ) (before : List ℤ) (cursor to : Cursor) (k : ℕ) (mcu : Mcu) (mcus : List Mcu) (others : List (List Mcu)) (bits : List Bool)
    → intervals_after shape.interval count (mcu ∷ mcus) ≡ (mcu ∷ []) ∷ others → blocks_text shape.slots before mcu ≡ Ok bits → Takes bytes cursor bits to → to.left ≡ replicate k (pads (interval_number shape count))
    → Later shape.slots pads bytes after (interval_number shape count) others to.next → RestOf shape pads bytes after count before cursor k (mcu ∷ mcus) others
closed_rest shape pads bytes after count before cursor to k mcu mcus others bits is text takes left later = record {
  first = mcu ∷ [];
  is = is;
  rest = record {
    bits = bits;
    text = ap₂ (λ (s : List Slot) (b : Mcu). blocks_text s before b) (append-nil shape.slots) (append-nil mcu) ∙ text;
    to = to;
    takes = takes;
    left = left;
    later = later;
  };
}

-- an MCU in an interval that goes on
pub onto_rest : (shape : Shape) (pads : ℕ → Bool) (bytes : List ℕ) (after count : ℕ) (before : List ℤ) (cursor at : Cursor) (k : ℕ) (mcu : Mcu) (mcus : List Mcu) (others : List (List Mcu)) (bits : List Bool)
    → ends_interval shape.interval (count + 1) ≡ false → length shape.slots ≡ length mcu → blocks_text shape.slots before mcu ≡ Ok bits → Takes bytes cursor bits at
    → RestOf shape pads bytes after (count + 1) (dcs_after shape.slots before mcu) at k mcus others → RestOf shape pads bytes after count before cursor k (mcu ∷ mcus) others
onto_rest shape pads bytes after count before cursor at k mcu mcus others bits on size text takes r =
    let same : interval_number shape (count + 1) ≡ interval_number shape count = number_same_of (shape.interval == 0) shape.interval count refl on in
    let d = dcs_after shape.slots before mcu in
    let w = r.rest in
    record {
      first = mcu ∷ r.first;
      is =
          ap (λ (t : Bool). if t then (mcu ∷ []) ∷ intervals_after shape.interval (count + 1) mcus else onto_first mcu (intervals_after shape.interval (count + 1) mcus)) on
          ∙ ap (onto_first mcu) r.is;
      rest = record {
        bits = bits ++ w.bits;
        text = text_in_parts shape.slots (slots_for shape.slots r.first) before mcu (blocks_in r.first) size ∙ ap₂ then_text text w.text;
        to = w.to;
        takes = takes_then bytes cursor at w.to bits w.bits takes w.takes;
        left = w.left ∙ ap (λ (n : ℕ). replicate k (pads n)) same;
        later = subst (λ (n : ℕ). Later shape.slots pads bytes after n others w.to.next) same w.later;
      };
    }
