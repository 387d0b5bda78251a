-- An MCU from one spot to the next.
use Rattle.std.proofs.Common.{◌≡◌, ℕ, ◌+◌, Bool, true, false, List, [], ◌++◌, length, ℤ, Ok, Err, if◌then◌else◌, refl, sym, ap, ap₂, ◌∙◌, append_assoc}
use Rattle.std.specs.Prelude.{◌||◌, ◌==◌}
use Rattle.bit_list.specs.Bits.{bytes_after, begun_after, padding, stuffed}
use Rattle.bit_list.proofs.Wholes.{bytes_cut}
use Rattle.bit_list.proofs.Stuffing.{stuffed-append}
use Rattle.scan_spec.specs.BlockBits.{Text}
use Rattle.scan_spec.specs.Blocks.{blocks_text, dcs_after}
use Rattle.handover.specs.PadSums.{no_pads, pads_with}
use Rattle.handover.specs.declared.pads.PadSum.{PadSum}
use Rattle.scan_spec.specs.Pads.{bit_for, interval_sum, text_sum, padded_after}
use Rattle.scan_spec.specs.ScanCalls.{ScanWriter, McuIsPutOn}
use Rattle.scan_spec.specs.Scans.{Mcu, no_dcs}
use Rattle.scan_spec.specs.Spots.{Spot, interval_number, is_closed, marker_after, put_bits, put_text, mcu_put}
use Rattle.scan_spec.specs.declared.stop.WriteStop.{WriteStop}
use Rattle.scan_write.specs.Outputs.{OutputState, output_of}
use Rattle.scan_write.specs.Appending.{IsAppended}

-- an MCU whose blocks have no text
pub no_put : (s : ScanWriter) (mcu : Mcu) (stop : WriteStop) → blocks_text s.shape.slots s.spot.before mcu ≡ Err stop → mcu_put s.shape (bit_for s.pads) s.spot mcu ≡ Err stop
unfolding mcu_put
no_put s mcu stop e = ap (put_text s.shape (bit_for s.pads) s.spot (dcs_after s.shape.slots s.spot.before mcu)) e

-- one whose blocks have bits
some_put : (s : ScanWriter) (mcu : Mcu) (before : List ℤ) (bits : List Bool) → before ≡ dcs_after s.shape.slots s.spot.before mcu → blocks_text s.shape.slots s.spot.before mcu ≡ Ok bits
    → mcu_put s.shape (bit_for s.pads) s.spot mcu ≡ Ok (put_bits s.shape (bit_for s.pads) s.spot before bits)
unfolding mcu_put
some_put s mcu before bits dcs e = ap₂ (put_text s.shape (bit_for s.pads) s.spot) (sym dcs) e

-- no pad bits add nothing
or_false : (b : Bool) → (b || false) ≡ b
or_false true = refl
or_false false = refl

abbrev sum_of : Bool → Bool → Bool → PadSum
sum_of zero one vain = record { zero = zero; one = one; vain = vain }

with_none : (p : PadSum) → pads_with p no_pads ≡ p
with_none p = ap₂ (λ (a b : Bool). sum_of a b (p.vain || false)) (or_false p.zero) (or_false p.one) ∙ ap (sum_of p.zero p.one) (or_false p.vain)

-- where no interval ends
pub goes_on : (s : ScanWriter) (mcu : Mcu) (out o : List ℕ) (b : List Bool) (before : List ℤ) → IsAppended (output_of s.spot.begun out) (output_of b o) (blocks_text s.shape.slots s.spot.before mcu)
    → before ≡ dcs_after s.shape.slots s.spot.before mcu → is_closed s.shape (s.spot.count + 1) ≡ false
    → McuIsPutOn s mcu out (Ok true) (record s { spot = record { begun = b; before = before; count = s.spot.count + 1 } }) o
goes_on s mcu out o b before wrote dcs unclosed =
    let bits = wrote.0 in
    let spot : Spot = record { begun = b; before = before; count = s.spot.count + 1 } in
    let text = stuffed (bytes_after s.spot.begun bits) in
    let closing : List ℕ × Spot =
    (stuffed (bytes_after s.spot.begun (bits ++ padding (begun_after s.spot.begun bits) (bit_for s.pads (interval_number s.shape s.spot.count)))) ++ marker_after s.shape s.spot.count, record { begun = []; before = no_dcs; count = s.spot.count + 1 })
    in (
      text,
      some_put s mcu before bits dcs wrote.1
          ∙ ap (λ (t : Bool). Ok (if t then closing else (text, record { begun = begun_after s.spot.begun bits; before = before; count = s.spot.count + 1 }))) unclosed
          ∙ ap (λ (x : List Bool). Ok (text, record { begun = x; before = before; count = s.spot.count + 1 })) (sym (ap (λ (p : OutputState). p.begun) wrote.2)),
      ap (λ (p : OutputState). p.bytes) wrote.2,
      ap (λ (p : PadSum). record s { spot = spot; padded = p })
          (sym (with_none s.padded)
          ∙ ap (λ (t : Bool). pads_with s.padded (if t then interval_sum s.pads (interval_number s.shape s.spot.count) (length (begun_after s.spot.begun bits) == 0) else no_pads)) (sym unclosed)
          ∙ ap (λ (t : Text). pads_with s.padded (text_sum s.shape s.pads s.spot t)) (sym wrote.1)),
    )

-- where one ends, after pad bits and the marker
pub closes : (s : ScanWriter) (mcu : Mcu) (out o last : List ℕ) (b : List Bool) (before : List ℤ) (new : ScanWriter) → IsAppended (output_of s.spot.begun out) (output_of b o) (blocks_text s.shape.slots s.spot.before mcu)
    → before ≡ dcs_after s.shape.slots s.spot.before mcu → is_closed s.shape (s.spot.count + 1) ≡ true
    → last ≡ (o ++ stuffed (bytes_after b (padding b (bit_for s.pads (interval_number s.shape s.spot.count))))) ++ marker_after s.shape s.spot.count
    → new ≡ record s { spot = record { begun = []; before = no_dcs; count = s.spot.count + 1 }; padded = pads_with s.padded (interval_sum s.pads (interval_number s.shape s.spot.count) (length b == 0)) }
    → McuIsPutOn s mcu out (Ok true) new last
closes s mcu out o last b before new wrote dcs closed written is =
    let bits = wrote.0 in
    let n = interval_number s.shape s.spot.count in
    let pad = bit_for s.pads n in
    let marker = marker_after s.shape s.spot.count in
    let after = begun_after s.spot.begun bits in
    let text = stuffed (bytes_after s.spot.begun bits) in
    let pads = stuffed (bytes_after after (padding after pad)) in
    let begun : b ≡ after = ap (λ (p : OutputState). p.begun) wrote.2 in
    let bytes : o ≡ out ++ text = ap (λ (p : OutputState). p.bytes) wrote.2 in
    let whole = stuffed (bytes_after s.spot.begun (bits ++ padding after pad)) in
    let parts : whole ≡ text ++ pads =
    ap stuffed (bytes_cut s.spot.begun bits (padding after pad)) ∙ stuffed-append (bytes_after s.spot.begun bits) (bytes_after after (padding after pad)) in
    let spot : Spot = record { begun = []; before = no_dcs; count = s.spot.count + 1 } in (
      whole ++ marker,
      some_put s mcu before bits dcs wrote.1
          ∙ ap (λ (t : Bool). Ok (if t then (whole ++ marker, spot) else (text, record { begun = after; before = before; count = s.spot.count + 1 }))) closed
          ∙ ap (λ (w : ScanWriter). Ok (whole ++ marker, w.spot)) (sym is),
      written ∙ ap₂ (λ (x : List ℕ) (y : List Bool). (x ++ stuffed (bytes_after y (padding y pad))) ++ marker) bytes begun
          ∙ ap (λ (x : List ℕ). x ++ marker) (append_assoc out text pads ∙ ap (λ (x : List ℕ). out ++ x) (sym parts))
          ∙ append_assoc out whole marker,
      is ∙ ap (λ (y : List Bool). record s { spot = spot; padded = pads_with s.padded (interval_sum s.pads n (length y == 0)) }) begun
          ∙ ap (λ (t : Bool). record s { spot = spot; padded = pads_with s.padded (if t then interval_sum s.pads n (length after == 0) else no_pads) }) (sym closed)
          ∙ ap (λ (t : Text). record s { spot = spot; padded = pads_with s.padded (text_sum s.shape s.pads s.spot t) }) (sym wrote.1)
          ∙ ap (λ (w : ScanWriter). record s { spot = w.spot; padded = padded_after s.shape s.pads s.spot mcu s.padded }) (sym is),
    )
