-- An interval's bits with their pad bits and the marker after them, from what was taken and back.
use Rattle.std.proofs.Common.{◌≡◌, ℕ, zero, suc, ◌+◌, ◌-◌, ◌*◌, ◌%◌, ◌<◌, Bool, true, false, ◌==◌, if◌then◌else◌, List, [], ◌∷◌, ◌++◌, length, drop, replicate, Option, Some, None, Ok, Err, refl, sym, ap, ap₂, ◌∙◌, subst, arith, length-append}
use Rattle.std.specs.Prelude.{◌&&◌, unwrap_or}
use Rattle.std.specs.List.{AllByRecursion}
use Rattle.std.proofs.lemmas.Bool.{eqb-true, eq-eqb, false≢true}
use Rattle.std.proofs.lemmas.List.{drop-drop, drop_at, length-replicate}
use Rattle.std.proofs.lemmas.Option.{same_Some}
use Rattle.bit_list.specs.Bits.{IsByte, low_bits, bits_of, bytes_after, begun_after, padding, stuffed}
use Rattle.bit_list.specs.Units.{Cursor, starting}
use Rattle.bit_list.specs.NumbersOfBits.{length-low_bits}
use Rattle.bit_list.proofs.Wholes.{bytes_after-bits_of, bits_of-bytes_after, begun_count}
use Rattle.bit_list.proofs.Spanning.{stand, standing}
use Rattle.scan_spec.specs.Scans.{padded, interval_bytes, restart_marker}
use Rattle.scan_spec.specs.ScanReading.{padded_or, pads_at}
use Rattle.scan_spec.specs.ScanSymbols.{pad_of, restart_of, restart_at}
use Rattle.scan_spec.specs.declared.refusal.ScanRefusal.{ScanRefusal}
use Rattle.scan_spec.specs.declared.refusal.ScanRefusal.TheVariants as refusals
use Rattle.scan_spec.proofs.BitsTaken.{Takes, fine, not_refused, is_fine, both_fine}

-- ---- pad bits

-- a pad bit that is known is this one
abbrev pub Agrees : Option Bool → Bool → Type 0
Agrees None pad = Unit {0}
Agrees (Some known) pad = known ≡ pad

-- what is known of it after so many
abbrev pub pad_after : Option Bool → ℕ → Bool → Option Bool
pad_after known zero pad = known
pad_after known (suc n) pad = Some pad

last_pad : (n : ℕ) (known pad : Bool) → known ≡ pad → pad_after (Some known) n pad ≡ Some pad
last_pad zero known pad e = ap (λ (b : Bool). Some b) e
last_pad (suc n) known pad e = refl

-- a pad bit that isn't known is 1
pub none_told : (k : ℕ) (known : Option Bool) (pad : Bool) → known ≡ pad_after None k pad → k ≡ 0 → unwrap_or known true ≡ true
none_told zero known pad e none = ap (λ (o : Option Bool). unwrap_or o true) e
none_told (suc k) known pad e none = absurd (omega (arith, none))

pub pad_is : (k : ℕ) (pad : Bool) → (k ≡ 0 → pad ≡ true) → unwrap_or (pad_after None k pad) true ≡ pad
pad_is zero pad told = sym (told refl)
pad_is (suc k) pad told = refl

abbrev PadsRead : Option Bool → List Bool → Option Bool → Bool → Type 0
PadsRead known bits next pad = Agrees known pad × (bits ≡ replicate (length bits) pad) × (next ≡ pad_after known (length bits) pad)

no_pad : (next : Option Bool) (bits : List Bool) → pad_of None bits ≡ Some next → ⊥
no_pad next bits e = let h : None ≡ Some next = e in cc

-- a first pad bit of those that are all equal
first_pad : (known : Option Bool) (bit : Bool) (bits : List Bool) (next : Option Bool) (pad : Bool) → PadsRead (Some bit) bits next pad → Agrees known pad → PadsRead known (bit ∷ bits) next pad
first_pad known bit bits next pad r a = (a, ap₂ (λ (b : Bool) (l : List Bool). b ∷ l) r.0 r.1, r.2 ∙ last_pad (length bits) bit pad r.0)

pub pads_read : (bits : List Bool) (known next : Option Bool) (pad : Bool) → pad_of (Some known) bits ≡ Some next → Agrees next pad → PadsRead known bits next pad
pads_read [] known next pad e a = let h = same_Some known next e in (subst (λ (o : Option Bool). Agrees o pad) (sym h) a, refl, sym h)
pads_read (bit ∷ bits) None next pad e a = let r = pads_read bits (Some bit) next pad e a in first_pad None bit bits next pad r tt
pads_read (true ∷ bits) (Some true) next pad e a = let r = pads_read bits (Some true) next pad e a in first_pad (Some true) true bits next pad r r.0
pads_read (false ∷ bits) (Some false) next pad e a = let r = pads_read bits (Some false) next pad e a in first_pad (Some false) false bits next pad r r.0
pads_read (false ∷ bits) (Some true) next pad e a = absurd (no_pad next bits e)
pads_read (true ∷ bits) (Some false) next pad e a = absurd (no_pad next bits e)

pub pads_again : (k : ℕ) (known : Option Bool) (pad : Bool) → Agrees known pad → pad_of (Some known) (replicate k pad) ≡ Some (pad_after known k pad)
pads_again zero known pad a = refl
pads_again (suc k) None pad a = pads_again k (Some pad) pad refl ∙ ap (λ (o : Option Bool). Some o) (last_pad k pad pad refl)
pads_again (suc k) (Some true) true a = pads_again k (Some true) true refl ∙ ap (λ (o : Option Bool). Some o) (last_pad k true true refl)
pads_again (suc k) (Some false) false a = pads_again k (Some false) false refl ∙ ap (λ (o : Option Bool). Some o) (last_pad k false false refl)
pads_again (suc k) (Some true) false a = absurd (false≢true (sym a))
pads_again (suc k) (Some false) true a = absurd (false≢true a)

abbrev no_left : Cursor → Cursor
no_left cursor = record cursor { left = [] }

padded_fine : (o : Option (Option Bool)) (cursor : Cursor) (x : Option Bool × Cursor) → padded_or o cursor ≡ Ok x → (o ≡ Some x.0) × (x.1 ≡ no_left cursor)
padded_fine None cursor x e = absurd (not_refused (refusals.MixedPad cursor.last) x e)
padded_fine (Some known) cursor x e = let p = both_fine (known, no_left cursor) x e in (ap (λ (o : Option Bool). Some o) p.0, sym p.1)

pub pads_fine : (cursor : Cursor) (x : Option Bool × Cursor) → pads_at cursor ≡ Ok x → (pad_of (Some None) cursor.left ≡ Some x.0) × (x.1 ≡ no_left cursor)
pads_fine cursor x e = padded_fine (pad_of (Some None) cursor.left) cursor x e

pub pads_are : (k : ℕ) (cursor : Cursor) (pad : Bool) → cursor.left ≡ replicate k pad → pads_at cursor ≡ Ok (pad_after None k pad, no_left cursor)
pads_are k cursor pad e = ap (λ (o : Option (Option Bool)). padded_or o cursor) (ap (pad_of (Some None)) e ∙ pads_again k None pad tt)

-- ---- a marker

both_true : (a b : Bool) → (a && b) ≡ true → (a ≡ true) × (b ≡ true)
both_true true b e = (refl, e)
both_true false b e = absurd (false≢true e)

if_fine : (t : Bool) (n place : ℕ) (refusal : ScanRefusal) → (if t then fine n else Err refusal) ≡ Ok place → (t ≡ true) × (n ≡ place)
if_fine true n place refusal e = (refl, is_fine n place e)
if_fine false n place refusal e = absurd (not_refused refusal place e)

no_marker : (t : Bool) (a b : ScanRefusal) (place : ℕ) → (if t then Err a else Err b) ≡ fine place → ⊥
no_marker true a b place e = not_refused a place e
no_marker false a b place e = not_refused b place e

restart_head : (end from n place : ℕ) (bytes : List ℕ) → restart_of end from n bytes ≡ Ok place → (more : List ℕ) × (bytes ≡ restart_marker n ++ more) × (place ≡ from + 2)
restart_head end from n place [] e = absurd (not_refused (refusals.ScanCut end) place e)
restart_head end from n place (byte ∷ []) e = absurd (no_marker (byte == 255) (refusals.ScanCut end) (refusals.RestartBad from) place e)
restart_head end from n place (byte ∷ code ∷ rest) e =
    let t = if_fine (byte == 255 && code == 0xd0 + n % 8) (from + 2) place (refusals.RestartBad from) e in
    let b = both_true (byte == 255) (code == 0xd0 + n % 8) t.0 in
    (rest, ap₂ (λ (x y : ℕ). x ∷ y ∷ rest) (eqb-true byte 255 b.0) (eqb-true code (0xd0 + n % 8) b.1), sym t.1)

after_two : (bytes more : List ℕ) (from n : ℕ) → drop from bytes ≡ restart_marker n ++ more → drop (from + 2) bytes ≡ more
after_two bytes more from n e = sym (drop-drop 2 from bytes) ∙ ap (drop 2) e

pub restart_fine : (bytes : List ℕ) (n from place : ℕ) → restart_at bytes n from ≡ Ok place → (drop from bytes ≡ restart_marker n ++ drop place bytes) × (place ≡ from + 2)
unfolding restart_at
restart_fine bytes n from place e =
    let h = restart_head (length bytes) from n place (drop from bytes) e in
    let after : drop place bytes ≡ h.0 = ap (λ (k : ℕ). drop k bytes) h.2 ∙ after_two bytes h.0 from n h.1 in
    (h.1 ∙ ap (λ (l : List ℕ). restart_marker n ++ l) (sym after), h.2)

pub restart_again : (bytes more : List ℕ) (n from : ℕ) → drop from bytes ≡ restart_marker n ++ more → (restart_at bytes n from ≡ Ok (from + 2)) × (drop (from + 2) bytes ≡ more)
unfolding restart_at
restart_again bytes more n from e =
    let same : (0xd0 + n % 8 == 0xd0 + n % 8) ≡ true = eq-eqb (0xd0 + n % 8) (0xd0 + n % 8) refl in
    (ap (restart_of (length bytes) from n) e ∙ ap (λ (t : Bool). if t then fine (from + 2) else Err (refusals.RestartBad from)) same, after_two bytes more from n e)

-- ---- an interval

pub length-bits_of : (bytes : List ℕ) → length (bits_of bytes) ≡ 8 * length bytes
length-bits_of [] = refl
length-bits_of (byte ∷ bytes) = let a = length-append (low_bits 8 byte) (bits_of bytes) in let b = length-low_bits 8 byte in let c = length-bits_of bytes in omega (arith, a, b, c)

-- how many pad bits there are after bits
abbrev pub pads_for : List Bool → ℕ
pads_for bits = length (padding (begun_after [] bits) true)

pads_count : (bits : List Bool) → pads_for bits ≡ (8 - length bits % 8) % 8
pads_count bits =
    let n : length (begun_after [] bits) ≡ length bits % 8 = begun_count [] bits (omega arith) ∙ (let z : 0 + length bits ≡ length bits = omega arith in ap (λ (k : ℕ). k % 8) z) in
    length-replicate ((8 - length (begun_after [] bits)) % 8) true ∙ ap (λ (k : ℕ). (8 - k) % 8) n

pub padding_is : (bits : List Bool) (pad : Bool) → padding (begun_after [] bits) pad ≡ replicate (pads_for bits) pad
padding_is bits pad = ap (λ (k : ℕ). replicate k pad) (sym (length-replicate ((8 - length (begun_after [] bits)) % 8) true))

whole_padded : (bits : List Bool) (pad : Bool) → length (padded bits pad) % 8 ≡ 0
whole_padded bits pad =
    let a = length-append bits (padding (begun_after [] bits) pad) in
    let b = ap length (padding_is bits pad) in
    let c = length-replicate (pads_for bits) pad in
    let d = pads_count bits in
    omega (arith, a, b, c, d)

-- an interval that stands at a place is taken
pub record Opened (bytes : List ℕ) (place : ℕ) (bits : List Bool) (pad : Bool) (rest : List ℕ) : Type 0 where
  pub to : Cursor
  pub takes : Takes bytes (starting place 0) bits to
  pub left : to.left ≡ replicate (pads_for bits) pad
  pub next : to.next ≡ place + length (interval_bytes pad bits)
  pub after : drop to.next bytes ≡ rest

pub opened : (bytes rest : List ℕ) (place : ℕ) (bits : List Bool) (pad : Bool) → drop place bytes ≡ interval_bytes pad bits ++ rest → Opened bytes place bits pad rest
opened bytes rest place bits pad e =
    let units = bytes_after [] (padded bits pad) in
    let more = padding (begun_after [] bits) pad in
    let few : length more < 8 =
    let b = ap length (padding_is bits pad) in
    let c = length-replicate (pads_for bits) pad in
    let d = pads_count bits in
    omega (arith, b, c, d) in
    let s = standing units rest bytes (starting place 0) bits more refl e (bits_of-bytes_after (padded bits pad) (whole_padded bits pad)) few in
    record {
      to = s.0;
      takes = s.1;
      left = s.2 ∙ padding_is bits pad;
      next = s.4;
      after = ap (λ (k : ℕ). drop k bytes) s.4 ∙ sym (drop-drop (length (stuffed units)) place bytes) ∙ ap (drop (length (stuffed units))) e ∙ drop_at (stuffed units) rest (length (stuffed units)) refl;
    }

-- and one that was taken stands there
pub record Closed (bytes : List ℕ) (place : ℕ) (bits : List Bool) (k : ℕ) (pad : Bool) (to : Cursor) : Type 0 where
  pub count : k ≡ pads_for bits
  pub text : drop place bytes ≡ interval_bytes pad bits ++ drop to.next bytes
  pub next : to.next ≡ place + length (interval_bytes pad bits)

pub closed : (bytes : List ℕ) (place : ℕ) (bits : List Bool) (k : ℕ) (pad : Bool) (to : Cursor) → AllByRecursion IsByte bytes → Takes bytes (starting place 0) bits to → to.left ≡ replicate k pad → Closed bytes place bits k pad to
closed bytes place bits k pad to all t left =
    let s = (stand (length bits) bytes (starting place 0) to bits all (record { few = omega arith; skip = refl }) t).0 in
    let few = s.within.few in
    let a = ap length s.spelled in
    let b = length-append bits to.left in
    let c = ap length left in
    let d = length-replicate k pad in
    let f = length-bits_of s.units in
    let p = pads_count bits in
    let count : k ≡ pads_for bits = omega (arith, few, a, b, c, d, f, p) in
    let more : to.left ≡ padding (begun_after [] bits) pad = left ∙ ap (λ (n : ℕ). replicate n pad) count ∙ sym (padding_is bits pad) in
    let units : s.units ≡ bytes_after [] (padded bits pad) = sym (bytes_after-bits_of s.units s.are_bytes) ∙ ap (bytes_after []) (s.spelled ∙ ap (λ (l : List Bool). bits ++ l) more) in
    record {
      count = count;
      text = s.text ∙ ap (λ (u : List ℕ). stuffed u ++ drop to.next bytes) units;
      next = s.place ∙ ap (λ (u : List ℕ). place + length (stuffed u)) units;
    }
