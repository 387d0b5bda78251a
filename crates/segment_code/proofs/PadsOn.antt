-- The pad bits of a pass, MCU by MCU.
use Rattle.std.proofs.Common.{◌≡◌, ℕ, zero, suc, ◌+◌, ◌<◌, Bool, true, false, ◌==◌, ◌||◌, if◌then◌else◌, List, [], ◌∷◌, ◌++◌, refl, ap, ap₂, ◌∙◌, sym, arith, append-nil, append_assoc}
use Rattle.std.specs.Prelude.{ℤ, Ok, unwrap_or}
use Rattle.std.proofs.lemmas.Bool.{eqb-true, false_from_ne_true}
use Rattle.handover.specs.PadSums.{no_pads, pads_with}
use Rattle.handover.specs.declared.pads.PadSum.{PadSum}
use Rattle.scan_spec.specs.Slots.{Shape}
use Rattle.scan_spec.specs.Scans.{ends_interval}
use Rattle.scan_spec.specs.Spots.{is_closed}
use Rattle.scan_spec.specs.ScanCalls.{ScanReader}
use Rattle.scan_spec.specs.ScanReading.{Standing, mcu_at, mcus_at}
use Rattle.scan_spec.specs.ScanPads.{pad_told, pads_told, pad_sum, sum_ended, sum_told}
use Rattle.scan_spec.proofs.BitsTaken.{both_fine}
use Rattle.scan_spec.proofs.PadsTold.{pads_more, no_pads_told, sums_more, no_sum_told}
use Rattle.scan_spec.proofs.ScanTaken.{mcus_fine, no_mcus}
use Rattle.segment_code.specs.CodedMcus.{AreReadOn}
use Rattle.segment_code.specs.FoundPads.{FoundPads, pads_through}
use Rattle.segment_code.proofs.ReadOn.{one_counted}

-- sums are joined one after another
or_assoc : (a b c : Bool) → ((a || b) || c) ≡ (a || (b || c))
or_assoc true b c = refl
or_assoc false b c = refl

or_false : (a : Bool) → (a || false) ≡ a
or_false true = refl
or_false false = refl

sums_assoc : (a b c : PadSum) → pads_with (pads_with a b) c ≡ pads_with a (pads_with b c)
sums_assoc a b c = rw (
  or_assoc a.zero b.zero c.zero,
  or_assoc a.one b.one c.one,
  or_assoc a.vain b.vain c.vain,
) refl

sum_alone : (a : PadSum) → pads_with a no_pads ≡ a
sum_alone a = rw (or_false a.zero, or_false a.one, or_false a.vain) refl

abbrev found_of : List Bool → PadSum → FoundPads
found_of bits sum = record { bits = bits; sum = sum }

-- MCUs after others tell what they tell alone
told_joined : (n k : ℕ) (shape : Shape) (bytes : List ℕ) (at mid : Standing)
    (others : List (List (List ℤ))) → mcus_at n shape bytes at ≡ Ok (others, mid)
    → pads_told (n + k) shape bytes at ≡ pads_told n shape bytes at ++ pads_told k shape bytes mid
told_joined zero k shape bytes at mid others e =
    let same = both_fine ([], at) (others, mid) (sym (no_mcus shape bytes at) ∙ e) in
    let sum : 0 + k ≡ k = omega arith in
    ap (λ (m : ℕ). pads_told m shape bytes at) sum
    ∙ ap (λ (s : Standing). pads_told k shape bytes s) same.1
    ∙ ap (λ (l : List Bool). l ++ pads_told k shape bytes mid)
    (sym (no_pads_told shape bytes at))
told_joined (suc n) k shape bytes at mid others e =
    let f = mcus_fine n shape bytes at (others, mid) e in
    let sum : suc n + k ≡ suc (n + k) = omega arith in
    ap (λ (m : ℕ). pads_told m shape bytes at) sum
    ∙ pads_more (n + k) shape bytes at f.next f.first f.one
    ∙ ap (λ (l : List Bool). pad_told shape f.next ++ l)
    (told_joined n k shape bytes f.next mid f.more f.others)
    ∙ sym (append_assoc (pad_told shape f.next) (pads_told n shape bytes f.next)
    (pads_told k shape bytes mid))
    ∙ ap (λ (l : List Bool). l ++ pads_told k shape bytes mid)
    (sym (pads_more n shape bytes at f.next f.first f.one))

sums_joined : (n k : ℕ) (shape : Shape) (bytes : List ℕ) (at mid : Standing)
    (others : List (List (List ℤ))) → mcus_at n shape bytes at ≡ Ok (others, mid)
    → sum_told (n + k) shape bytes at
    ≡ pads_with (sum_told n shape bytes at) (sum_told k shape bytes mid)
sums_joined zero k shape bytes at mid others e =
    let same = both_fine ([], at) (others, mid) (sym (no_mcus shape bytes at) ∙ e) in
    let sum : 0 + k ≡ k = omega arith in
    ap (λ (m : ℕ). sum_told m shape bytes at) sum
    ∙ ap (λ (s : Standing). sum_told k shape bytes s) same.1
    ∙ ap (λ (s : PadSum). pads_with s (sum_told k shape bytes mid))
    (sym (no_sum_told shape bytes at))
sums_joined (suc n) k shape bytes at mid others e =
    let f = mcus_fine n shape bytes at (others, mid) e in
    let sum : suc n + k ≡ suc (n + k) = omega arith in
    ap (λ (m : ℕ). sum_told m shape bytes at) sum
    ∙ sums_more (n + k) shape bytes at f.next f.first f.one
    ∙ ap (λ (s : PadSum). pads_with (sum_ended shape f.next) s)
    (sums_joined n k shape bytes f.next mid f.more f.others)
    ∙ sym (sums_assoc (sum_ended shape f.next) (sum_told n shape bytes f.next)
    (sum_told k shape bytes mid))
    ∙ ap (λ (s : PadSum). pads_with s (sum_told k shape bytes mid))
    (sym (sums_more n shape bytes at f.next f.first f.one))

-- of no MCU
pub none_through : (reader : ScanReader) (pads : FoundPads) → pads_through 0 reader pads ≡ pads
none_through reader pads =
    ap₂ found_of (ap (λ (l : List Bool). pads.bits ++ l)
    (no_pads_told reader.shape reader.bytes reader.at) ∙ append-nil pads.bits)
    (ap (pads_with pads.sum) (no_sum_told reader.shape reader.bytes reader.at)
    ∙ sum_alone pads.sum)

-- of MCUs and others after them
pub more_through : (n k : ℕ) (first reader : ScanReader) (mcus : List (List (List ℤ)))
    (pads : FoundPads) → AreReadOn n first reader mcus
    → pads_through k reader (pads_through n first pads) ≡ pads_through (n + k) first pads
more_through n k first reader mcus pads so =
    let shape = first.shape in
    let bytes = first.bytes in
    let here : pads_through k reader (pads_through n first pads)
    ≡ pads_through k (record first { at = reader.at }) (pads_through n first pads) =
    ap (λ (r : ScanReader). pads_through k r (pads_through n first pads)) so.same in
    here ∙ ap₂ found_of
    (append_assoc pads.bits (pads_told n shape bytes first.at)
    (pads_told k shape bytes reader.at)
    ∙ ap (λ (l : List Bool). pads.bits ++ l)
    (sym (told_joined n k shape bytes first.at reader.at mcus so.read)))
    (sums_assoc pads.sum (sum_told n shape bytes first.at) (sum_told k shape bytes reader.at)
    ∙ ap (pads_with pads.sum)
    (sym (sums_joined n k shape bytes first.at reader.at mcus so.read)))

-- of one MCU
pub one_through : (reader : ScanReader) (next : Standing) (mcu : List (List ℤ)) (pads : FoundPads)
    → mcu_at reader.shape reader.bytes reader.at ≡ Ok (mcu, next)
    → pads_through 1 reader pads ≡ record {
      bits = pads.bits ++ pad_told reader.shape next;
      sum = pads_with pads.sum (sum_ended reader.shape next);
    }
one_through reader next mcu pads e =
    let shape = reader.shape in
    let bytes = reader.bytes in
    ap₂ (λ (l : List Bool) (s : PadSum). found_of (pads.bits ++ l) (pads_with pads.sum s))
    (pads_more 0 shape bytes reader.at next mcu e
    ∙ ap (λ (l : List Bool). pad_told shape next ++ l) (no_pads_told shape bytes next)
    ∙ append-nil (pad_told shape next))
    (sums_more 0 shape bytes reader.at next mcu e
    ∙ ap (pads_with (sum_ended shape next)) (no_sum_told shape bytes next)
    ∙ sum_alone (sum_ended shape next))

-- that ends an interval, or ends none
pub ending_through : (reader : ScanReader) (next : Standing) (mcu : List (List ℤ))
    (pads more : FoundPads) → mcu_at reader.shape reader.bytes reader.at ≡ Ok (mcu, next)
    → is_closed reader.shape next.count ≡ true
    → more.bits ≡ pads.bits ++ unwrap_or next.pad true ∷ []
    → more.sum ≡ pads_with pads.sum (pad_sum next.pad) → more ≡ pads_through 1 reader pads
ending_through reader next mcu pads more e closed bits sum =
    ap₂ found_of
    (bits ∙ ap (λ (t : Bool). pads.bits ++ (if t then unwrap_or next.pad true ∷ [] else []))
    (sym closed))
    (sum ∙ ap (λ (t : Bool). pads_with pads.sum (if t then pad_sum next.pad else no_pads))
    (sym closed))
    ∙ sym (one_through reader next mcu pads e)

pub within_through : (reader : ScanReader) (next : Standing) (mcu : List (List ℤ))
    (pads : FoundPads) → mcu_at reader.shape reader.bytes reader.at ≡ Ok (mcu, next)
    → is_closed reader.shape next.count ≡ false → pads ≡ pads_through 1 reader pads
within_through reader next mcu pads e open_still =
    ap₂ found_of (sym (append-nil pads.bits)) (sym (sum_alone pads.sum))
    ∙ ap₂ found_of
    (ap (λ (t : Bool). pads.bits ++ (if t then unwrap_or next.pad true ∷ [] else []))
    (sym open_still))
    (ap (λ (t : Bool). pads_with pads.sum (if t then pad_sum next.pad else no_pads))
    (sym open_still))
    ∙ sym (one_through reader next mcu pads e)

-- of MCUs that have others after them, in a scan without restarts: none tells a pad bit
none_closed : (shape : Shape) (count : ℕ) → shape.interval ≡ 0 → count < shape.mcus
    → is_closed shape count ≡ false
none_closed shape count whole more =
    let last : (count == shape.mcus) ≡ false = false_from_ne_true (count == shape.mcus)
    (λ e. let same = eqb-true count shape.mcus e in omega (arith, same, more)) in
    ap₂ (λ (t : Bool) (i : ℕ). t || ends_interval i count) last whole

record TellsNone (n : ℕ) (shape : Shape) (bytes : List ℕ) (at : Standing) : Type 0 where
  bits : pads_told n shape bytes at ≡ []
  sum : sum_told n shape bytes at ≡ no_pads

tells_none : (n : ℕ) (shape : Shape) (bytes : List ℕ) (at end : Standing)
    (mcus : List (List (List ℤ))) → shape.interval ≡ 0 → at.count + n < shape.mcus
    → mcus_at n shape bytes at ≡ Ok (mcus, end) → TellsNone n shape bytes at
tells_none zero shape bytes at end mcus whole more e =
    record { bits = no_pads_told shape bytes at; sum = no_sum_told shape bytes at }
tells_none (suc n) shape bytes at end mcus whole more e =
    let f = mcus_fine n shape bytes at (mcus, end) e in
    let one = one_counted shape bytes at f.next f.first f.one in
    let rest = tells_none n shape bytes f.next end f.more whole (omega (arith, one, more)) f.others in
    let open_still = none_closed shape f.next.count whole (omega (arith, one, more)) in
    record {
      bits = pads_more n shape bytes at f.next f.first f.one
          ∙ ap₂ (λ (t : Bool) (l : List Bool).
          (if t then unwrap_or f.next.pad true ∷ [] else []) ++ l) open_still rest.bits;
      sum = sums_more n shape bytes at f.next f.first f.one
          ∙ ap₂ (λ (t : Bool) (s : PadSum).
          pads_with (if t then pad_sum f.next.pad else no_pads) s) open_still rest.sum;
    }

pub excerpt_through : (n : ℕ) (reader next : ScanReader) (mcus : List (List (List ℤ)))
    (pads : FoundPads) → reader.shape.interval ≡ 0 → reader.at.count + n < reader.shape.mcus
    → AreReadOn n reader next mcus → pads ≡ pads_through n reader pads
excerpt_through n reader next mcus pads whole more so =
    let none = tells_none n reader.shape reader.bytes reader.at next.at mcus whole more so.read in
    ap₂ found_of
    (sym (append-nil pads.bits) ∙ ap (λ (l : List Bool). pads.bits ++ l) (sym none.bits))
    (sym (sum_alone pads.sum) ∙ ap (pads_with pads.sum) (sym none.sum))
