-- If a scan has the same bytes with two choices of pad bits, so has each part of it.
use Rattle.std.proofs.Common.{◌≡◌, ℕ, zero, suc, ◌+◌, ◌-◌, ◌%◌, ◌==◌, Bool, true, false, if◌then◌else◌, List, [], ◌∷◌, ◌++◌, length, take, drop, ℤ, Ok, Err, refl, sym, ap, ap₂, ◌∙◌, arith, append_assoc, length-append}
use Rattle.std.proofs.lemmas.List.{append_cancel_left, length-replicate}
use Rattle.bit_list.specs.Bits.{number_of, bytes_after, begun_after, padding, stuffed}
use Rattle.bit_list.proofs.Stuffing.{one_reading}
use Rattle.scan_spec.specs.BlockBits.{Text}
use Rattle.scan_spec.specs.Blocks.{blocks_text, dcs_after}
use Rattle.scan_spec.specs.Scans.{Mcu, AreMcus, no_dcs, scan_bytes}
use Rattle.scan_spec.specs.ScanLaws.{IsShape, bytes_in}
use Rattle.scan_spec.specs.Slots.{Shape}
use Rattle.scan_spec.specs.Spots.{Spot, Put, first_spot, is_closed, interval_number, marker_after, put_text, mcu_put, prefixed_put, then_put, mcus_put, put_first, count_in, bytes_done}
use Rattle.scan_spec.proofs.PutWhole.{put_whole}
use Rattle.cut_spec.specs.RowHandovers.{segment_bytes}

one_more : (t : Bool) (m n : ℕ) (p q r s : List ℕ) → length p ≡ length q → length r ≡ length s
    → length (if t then m ∷ p else r) ≡ length (if t then n ∷ q else s)
one_more true m n p q r s whole begun = ap suc whole
one_more false m n p q r s whole begun = begun

-- as many bits complete as many bytes
bytes_alike : (xs ys b c : List Bool) → length b ≡ length c → length xs ≡ length ys
    → length (bytes_after b xs) ≡ length (bytes_after c ys)
bytes_alike [] [] b c begun long = refl
bytes_alike [] (y ∷ ys) b c begun long = absurd (omega (arith, long))
bytes_alike (x ∷ xs) [] b c begun long = absurd (omega (arith, long))
bytes_alike (x ∷ xs) (y ∷ ys) b c begun long =
    let left : length xs ≡ length ys = omega (arith, long) in
    let p = length-append b (x ∷ []) in
    let q = length-append c (y ∷ []) in
    let more : length (b ++ x ∷ []) ≡ length (c ++ y ∷ []) = omega (arith, begun, p, q) in
    one_more (length b == 7) (number_of (b ++ x ∷ [])) (number_of (c ++ y ∷ []))
    (bytes_after [] xs) (bytes_after [] ys)
    (bytes_after (b ++ x ∷ []) xs) (bytes_after (c ++ y ∷ []) ys)
    (bytes_alike xs ys [] [] refl left) (bytes_alike xs ys (b ++ x ∷ []) (c ++ y ∷ []) more left)
    ∙ ap (λ (n : ℕ). length (if n == 7 then number_of (c ++ y ∷ []) ∷ bytes_after [] ys
    else bytes_after (c ++ y ∷ []) ys)) begun

-- the bits of an interval's end, and its bytes with its marker
abbrev ended_bits : List Bool → List Bool → Bool → List Bool
ended_bits begun bits pad = bits ++ padding (begun_after begun bits) pad

abbrev ended : List Bool → List Bool → List ℕ → Bool → List ℕ
ended begun bits marker pad = stuffed (bytes_after begun (ended_bits begun bits pad)) ++ marker

-- if bytes begin with those of an interval's end, these don't depend on its pad bit
ends_alike : (begun bits : List Bool) (marker : List ℕ) (a b : Bool) (u v : List ℕ)
    → ended begun bits marker a ++ u ≡ ended begun bits marker b ++ v
    → ended begun bits marker a ≡ ended begun bits marker b
ends_alike begun bits marker a b u v same =
    let rest = begun_after begun bits in
    let p = length-append bits (padding rest a) in
    let q = length-append bits (padding rest b) in
    let r = length-replicate ((8 - length rest) % 8) a in
    let s = length-replicate ((8 - length rest) % 8) b in
    let long : length (ended_bits begun bits a) ≡ length (ended_bits begun bits b) =
    omega (arith, p, q, r, s) in
    let x = bytes_after begun (ended_bits begun bits a) in
    let y = bytes_after begun (ended_bits begun bits b) in
    ap (λ (l : List ℕ). stuffed l ++ marker)
    (one_reading x y (marker ++ u) (marker ++ v)
    (sym (append_assoc (stuffed x) marker u) ∙ same ∙ append_assoc (stuffed y) marker v)
    (bytes_alike (ended_bits begun bits a) (ended_bits begun bits b) begun begun refl long)).0

-- two first parts that are the same, and the same bytes after them
record AreAlike (p q : List ℕ) (x y : Put) : Type 0 where
  first : p ≡ q
  rest : List ℕ
  left : bytes_in x ≡ Ok rest
  right : bytes_in y ≡ Ok rest

parts_alike : (p q : List ℕ) (x y : Put) (all : List ℕ)
    → ((u v : List ℕ) → p ++ u ≡ q ++ v → p ≡ q) → bytes_in (prefixed_put p x) ≡ Ok all
    → bytes_in (prefixed_put q y) ≡ Ok all → AreAlike p q x y
parts_alike p q (Ok x) (Ok y) all same e h =
    let whole : p ++ x.0 ≡ q ++ y.0 = cc in
    let first = same x.0 y.0 whole in
    let rest = append_cancel_left q x.0 y.0 (ap (λ (l : List ℕ). l ++ x.0) (sym first) ∙ whole) in
    record {
      first = first;
      rest = x.0;
      left = refl;
      right = ap (λ (l : List ℕ). Ok l) (sym rest);
    }
parts_alike p q (Ok x) (Err stop) all same e h = absurd (let none : Err stop ≡ Ok all = h in cc)
parts_alike p q (Err stop) y all same e h = absurd (let none : Err stop ≡ Ok all = e in cc)

-- an MCU and those after it: f and g put all of them, x and y only some
by_end : (closed : Bool) (p q open_bytes : List ℕ) (next on : Spot) (f g x y : Spot → Put)
    (all : List ℕ) → ((u v : List ℕ) → p ++ u ≡ q ++ v → p ≡ q)
    → ((s : Spot) (rest : List ℕ) → bytes_in (f s) ≡ Ok rest → bytes_in (g s) ≡ Ok rest → x s ≡ y s)
    → bytes_in (then_put (Ok (if closed then (p, next) else (open_bytes, on))) f) ≡ Ok all
    → bytes_in (then_put (Ok (if closed then (q, next) else (open_bytes, on))) g) ≡ Ok all
    → then_put (Ok (if closed then (p, next) else (open_bytes, on))) x
    ≡ then_put (Ok (if closed then (q, next) else (open_bytes, on))) y
by_end true p q open_bytes next on f g x y all same later e h =
    let are = parts_alike p q (f next) (g next) all same e h in
    ap₂ prefixed_put are.first (later next are.rest are.left are.right)
by_end false p q open_bytes next on f g x y all same later e h =
    let are = parts_alike open_bytes open_bytes (f on) (g on) all (λ u v k. refl) e h in
    ap (prefixed_put open_bytes) (later on are.rest are.left are.right)

by_text : (t : Text) (shape : Shape) (a b : ℕ → Bool) (spot : Spot) (before : List ℤ)
    (f g x y : Spot → Put) (all : List ℕ)
    → ((s : Spot) (rest : List ℕ) → bytes_in (f s) ≡ Ok rest → bytes_in (g s) ≡ Ok rest → x s ≡ y s)
    → bytes_in (then_put (put_text shape a spot before t) f) ≡ Ok all
    → bytes_in (then_put (put_text shape b spot before t) g) ≡ Ok all
    → then_put (put_text shape a spot before t) x ≡ then_put (put_text shape b spot before t) y
by_text (Ok bits) shape a b spot before f g x y all later e h =
    let marker = marker_after shape spot.count in
    let n = interval_number shape spot.count in
    by_end (is_closed shape (spot.count + 1))
    (ended spot.begun bits marker (a n)) (ended spot.begun bits marker (b n))
    (stuffed (bytes_after spot.begun bits))
    (record { begun = []; before = no_dcs; count = spot.count + 1 })
    (record { begun = begun_after spot.begun bits; before = before; count = spot.count + 1 })
    f g x y all (ends_alike spot.begun bits marker (a n) (b n)) later e h
by_text (Err stop) shape a b spot before f g x y all later e h = refl

-- the first n MCUs put the same bytes if all MCUs do
pub puts_alike : (mcus : List Mcu) (shape : Shape) (a b : ℕ → Bool) (spot : Spot)
    (all : List ℕ) (n : ℕ) → bytes_in (mcus_put shape a spot mcus) ≡ Ok all
    → bytes_in (mcus_put shape b spot mcus) ≡ Ok all
    → mcus_put shape a spot (take n mcus) ≡ mcus_put shape b spot (take n mcus)
unfolding mcus_put mcu_put
puts_alike mcus shape a b spot all zero e h = refl
puts_alike [] shape a b spot all (suc n) e h = refl
puts_alike (mcu ∷ mcus) shape a b spot all (suc n) e h =
    by_text (blocks_text shape.slots spot.before mcu) shape a b spot
    (dcs_after shape.slots spot.before mcu)
    (λ s. mcus_put shape a s mcus) (λ s. mcus_put shape b s mcus)
    (λ s. mcus_put shape a s (take n mcus)) (λ s. mcus_put shape b s (take n mcus)) all
    (λ s rest x y. puts_alike mcus shape a b s rest n x y) e h

-- so do those of a scan
pub firsts_alike : (shape : Shape) (mcus : List Mcu) (a b : ℕ → Bool) (scan : List ℕ) (n : ℕ)
    → IsShape shape → AreMcus shape mcus → scan_bytes shape a mcus ≡ Ok scan
    → scan_bytes shape b mcus ≡ Ok scan → put_first shape a mcus n ≡ put_first shape b mcus n
firsts_alike shape mcus a b scan n is are e h =
    puts_alike mcus shape a b first_spot scan n (put_whole shape a mcus is are ∙ e)
    (put_whole shape b mcus is are ∙ h)

-- and complete as many
pub done_alike : (shape : Shape) (mcus : List Mcu) (a b : ℕ → Bool) (scan : List ℕ) (n : ℕ)
    → IsShape shape → AreMcus shape mcus → scan_bytes shape a mcus ≡ Ok scan
    → scan_bytes shape b mcus ≡ Ok scan → bytes_done shape a mcus n ≡ bytes_done shape b mcus n
done_alike shape mcus a b scan n is are e h =
    ap count_in (firsts_alike shape mcus a b scan n is are e h)

-- and so do the MCUs from one on, up to before another
pub segment_alike : (shape : Shape) (mcus : List Mcu) (a b : ℕ → Bool) (scan : List ℕ) (from to : ℕ)
    → IsShape shape → AreMcus shape mcus → scan_bytes shape a mcus ≡ Ok scan
    → scan_bytes shape b mcus ≡ Ok scan
    → segment_bytes shape a mcus scan from to ≡ segment_bytes shape b mcus scan from to
segment_alike shape mcus a b scan from to is are e h =
    ap₂ (λ (m n : ℕ). drop m (take n scan)) (done_alike shape mcus a b scan from is are e h)
    (done_alike shape mcus a b scan to is are e h)
