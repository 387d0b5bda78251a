-- A turn of the plain program: the next interval of a scan.
use Rattle.std.proofs.Common.{◌≡◌, ℕ, zero, suc, ◌+◌, ◌-◌, ◌*◌, ◌%◌, ◌^◌, ◌<◌, ◌≤◌, Bool, true, false, ◌==◌, if◌then◌else◌, List, [], ◌∷◌, ◌++◌, length, take, drop, flat_map, ℤ, Ok, Err, refl, sym, ap, ap₂, ◌∙◌, arith, append_assoc, append-nil, length-append, ◌⊎◌, inl, inr}
use Rattle.std.specs.List.{All, onto_first}
use Rattle.std.proofs.lemmas.List.{take-append-drop, take-append-le, drop-append-le, length-drop}
use Rattle.std.proofs.lemmas.List.Elements.{All-append, All-nil}
use Rattle.std.proofs.lemmas.Bool.{eq-eqb, eqb-true, cases_eq, cases_lt}
use Rattle.std.proofs.lemmas.Bool.Decides.{nat_tests}
use Rattle.std.proofs.lemmas.Nat.{mod-mul-add}
use Rattle.std.proofs.Math.Nat.{mul-mod_left}
use Rattle.bit_list.specs.Bits.{number_of, low_bits, bytes_after, stuffed}
use Rattle.bit_list.proofs.LowBits.{bits_again as low_again, number_below}
use Rattle.bit_list.proofs.Stuffing.{stuffed-append}
use Rattle.bit_list.proofs.Wholes.{byte_first}
use Rattle.scan_spec.specs.BlockBits.{Text}
use Rattle.scan_spec.specs.Blocks.{blocks_text}
use Rattle.scan_spec.specs.Scans.{Mcu, Bytes, no_dcs, mcus_bits, interval_bytes, restart_marker, ends_interval, intervals_after, bytes_of, prefixed_bytes, then_bytes, intervals_bytes, scan_bytes}
use Rattle.scan_spec.specs.PlainScans.{shape_with, mcus_in, slots_times, marker_between}
use Rattle.scan_spec.specs.declared.slot.Slot.{Slot}
use Rattle.scan_spec.specs.declared.stop.WriteStop.{WriteStop}
use Rattle.scan_spec.proofs.PutWhole.{intervals_some}

-- ---- slots and blocks

pub times_more : (n : ℕ) (slots : List Slot) → slots_times (n + 1) slots ≡ slots_times n slots ++ slots
times_more zero slots = append-nil slots
times_more (suc n) slots = ap (λ (k : ℕ). slots_times k slots) (let e : suc n + 1 ≡ suc (n + 1) = omega arith in e) ∙ ap (λ (all : List Slot). slots ++ all) (times_more n slots) ∙ sym (append_assoc slots (slots_times n slots) slots)

pub times_length : (n : ℕ) (slots : List Slot) → length (slots_times n slots) ≡ n * length slots
times_length zero slots = omega arith
times_length (suc n) slots = omega (arith, length-append slots (slots_times n slots), times_length n slots)

pub times_all : (n : ℕ) (slots : List Slot) → All (λ (s : Slot). s.component < 4) slots → All (λ (s : Slot). s.component < 4) (slots_times n slots)
times_all zero slots all = All-nil (λ (s : Slot). s.component < 4)
times_all (suc n) slots all = All-append (λ (s : Slot). s.component < 4) slots (slots_times n slots) all (times_all n slots all)

slots_again : (size n : ℕ) (slots : List Slot) (blocks : List (List ℤ)) → flat_map (λ mcu. slots) (mcus_in size n blocks) ≡ slots_times n slots
slots_again size zero slots blocks = refl
slots_again size (suc n) slots blocks = ap (λ (all : List Slot). slots ++ all) (slots_again size n slots (drop size blocks))

no_block : (blocks : List (List ℤ)) → length blocks ≡ 0 → blocks ≡ []
no_block [] e = refl
no_block (b ∷ blocks) e = absurd (omega arith)

blocks_again : (size n : ℕ) (blocks : List (List ℤ)) → length blocks ≡ n * size → flat_map (λ mcu. mcu) (mcus_in size n blocks) ≡ blocks
blocks_again size zero blocks long = sym (no_block blocks (omega arith))
blocks_again size (suc n) blocks long =
    ap (λ (rest : List (List ℤ)). take size blocks ++ rest) (blocks_again size n (drop size blocks) (omega (arith, length-drop size blocks))) ∙ take-append-drop size blocks

-- the bits of MCUs are those of their blocks
pub bits_again : (n : ℕ) (slots : List Slot) (blocks : List (List ℤ)) → length blocks ≡ n * length slots → mcus_bits slots (mcus_in (length slots) n blocks) ≡ blocks_text (slots_times n slots) no_dcs blocks
unfolding mcus_bits
bits_again n slots blocks long = ap₂ (λ (s : List Slot) (b : List (List ℤ)). blocks_text s no_dcs b) (slots_again (length slots) n slots blocks) (blocks_again (length slots) n blocks long)

-- MCUs of a first part and of the rest
pub mcus_in_parts : (size n more : ℕ) (these later : List (List ℤ)) → length these ≡ n * size → mcus_in size (n + more) (these ++ later) ≡ mcus_in size n these ++ mcus_in size more later
mcus_in_parts size zero more these later long =
    ap₂ (λ (k : ℕ) (b : List (List ℤ)). mcus_in size k (b ++ later)) (omega arith) (no_block these (omega arith))
mcus_in_parts size (suc n) more these later long =
    let next : suc n + more ≡ suc (n + more) = omega arith in
    let within : size ≤ length these = omega arith in
    ap (λ (k : ℕ). mcus_in size k (these ++ later)) next
    ∙ ap₂ (λ (mcu : Mcu) (rest : List (List ℤ)). mcu ∷ mcus_in size (n + more) rest) (take-append-le size these later within) (drop-append-le size these later within)
    ∙ ap (λ (mcus : List Mcu). take size these ∷ mcus) (mcus_in_parts size n more (drop size these) later (omega (arith, length-drop size these)))

-- ---- bytes

byte_begins : (byte later : List Bool) → length byte ≡ 8 → bytes_after [] (byte ++ later) ≡ number_of byte ∷ bytes_after [] later
byte_begins byte later eight =
    let again : low_bits 8 (number_of byte) ≡ byte = ap (λ (n : ℕ). low_bits n (number_of byte)) (sym eight) ∙ low_again byte in
    let below : number_of byte < 256 = omega (arith, number_below byte, ap (λ (n : ℕ). 2 ^ n) eight) in
    ap (λ (b : List Bool). bytes_after [] (b ++ later)) (sym again) ∙ byte_first (number_of byte) later below

-- one byte more
pub byte_more : (out more : List ℕ) (rest byte later : List Bool) → rest ≡ byte ++ later → length byte ≡ 8 → more ≡ out ++ stuffed (number_of byte ∷ []) → more ++ stuffed (bytes_after [] later) ≡ out ++ stuffed (bytes_after [] rest)
byte_more out more rest byte later split eight put =
    ap (λ (o : List ℕ). o ++ stuffed (bytes_after [] later)) put
    ∙ append_assoc out (stuffed (number_of byte ∷ [])) (stuffed (bytes_after [] later))
    ∙ ap (λ (b : List ℕ). out ++ b) (sym (stuffed-append (number_of byte ∷ []) (bytes_after [] later)) ∙ ap stuffed (sym (byte_begins byte later eight) ∙ ap (bytes_after []) (sym split)))

-- ---- intervals

one_by : (ends : Bool) (mcu : Mcu) (rest : List (List Mcu)) → (ends ≡ true) ⊎ (rest ≡ []) → (if ends then (mcu ∷ []) ∷ rest else onto_first mcu rest) ≡ (mcu ∷ []) ∷ rest
one_by true mcu rest is = refl
one_by false mcu rest (inl e) = cc
one_by false mcu rest (inr e) = ap (onto_first mcu) e ∙ ap (λ (r : List (List Mcu)). (mcu ∷ []) ∷ r) (sym e)

none_by : (interval end : ℕ) (ys : List Mcu) → (ends_interval interval end ≡ true) ⊎ (ys ≡ []) → (ends_interval interval end ≡ true) ⊎ (intervals_after interval end ys ≡ [])
none_by interval end ys (inl e) = inl e
none_by interval end ys (inr e) = inr (ap (intervals_after interval end) e)

-- a whole interval before the others
pub interval_first : (xs : List Mcu) (interval before end : ℕ) (ys : List Mcu) → 0 < length xs → end ≡ before + length xs → ((c : ℕ) → before < c → c < end → ends_interval interval c ≡ false) → (ends_interval interval end ≡ true) ⊎ (ys ≡ []) → intervals_after interval before (xs ++ ys) ≡ xs ∷ intervals_after interval end ys
interval_first [] interval before end ys some is between ends = absurd (omega arith)
interval_first (x ∷ []) interval before end ys some is between ends =
    let next : before + 1 ≡ end = omega arith in
    ap (λ (n : ℕ). if ends_interval interval n then (x ∷ []) ∷ intervals_after interval n ys else onto_first x (intervals_after interval n ys)) next
    ∙ one_by (ends_interval interval end) x (intervals_after interval end ys) (none_by interval end ys ends)
interval_first (x ∷ y ∷ xs) interval before end ys some is between ends =
    let later = interval_first (y ∷ xs) interval (before + 1) end ys (omega arith) (omega arith) (λ c a b. between c (omega arith) b) ends in
    ap (λ (t : Bool). if t then (x ∷ []) ∷ intervals_after interval (before + 1) (y ∷ (xs ++ ys)) else onto_first x (intervals_after interval (before + 1) (y ∷ (xs ++ ys)))) (between (before + 1) (omega arith) (omega arith))
    ∙ ap (onto_first x) later

-- the bytes of a first interval and of the others
first_bytes : (slots : List Slot) (pads : ℕ → Bool) (n : ℕ) (xs : List Mcu) (all : List (List Mcu)) (bits : List Bool) (last : Bool) → (last ≡ true → all ≡ []) → (last ≡ false → 0 < length all) → mcus_bits slots xs ≡ Ok bits
    → intervals_bytes slots pads n (xs ∷ all) ≡ prefixed_bytes (interval_bytes (pads n) bits ++ marker_between last n) (intervals_bytes slots pads (n + 1) all)
unfolding intervals_bytes
first_bytes slots pads n xs [] bits true none some is =
    ap (bytes_of (interval_bytes (pads n))) is ∙ ap (λ (b : List ℕ). Ok b) (sym (append-nil (interval_bytes (pads n) bits ++ []) ∙ append-nil (interval_bytes (pads n) bits)))
first_bytes slots pads n xs (y ∷ all) bits true none some is = let e : y ∷ all ≡ [] = none refl in cc
first_bytes slots pads n xs [] bits false none some is = let e : 0 < length {A = List Mcu} [] = some refl in absurd (omega arith)
first_bytes slots pads n xs (y ∷ all) bits false none some is =
    ap (λ (t : Text). then_bytes (bytes_of (λ b. interval_bytes (pads n) b ++ restart_marker n) t) (intervals_bytes slots pads (n + 1) (y ∷ all))) is

first_stop : (slots : List Slot) (pads : ℕ → Bool) (n : ℕ) (xs : List Mcu) (all : List (List Mcu)) (stop : WriteStop) → mcus_bits slots xs ≡ Err stop → intervals_bytes slots pads n (xs ∷ all) ≡ Err stop
unfolding intervals_bytes
first_stop slots pads n xs [] stop is = ap (bytes_of (interval_bytes (pads n))) is
first_stop slots pads n xs (y ∷ all) stop is = ap (λ (t : Text). then_bytes (bytes_of (λ b. interval_bytes (pads n) b ++ restart_marker n) t) (intervals_bytes slots pads (n + 1) (y ∷ all))) is

-- ---- turns

after_prefix : (out more : List ℕ) (b : Bytes) → prefixed_bytes out (prefixed_bytes more b) ≡ prefixed_bytes (out ++ more) b
after_prefix out more (Ok bytes) = ap (λ (l : List ℕ). Ok l) (sym (append_assoc out more bytes))
after_prefix out more (Err stop) = refl

nothing_before : (b : Bytes) → b ≡ prefixed_bytes [] b
nothing_before (Ok bytes) = refl
nothing_before (Err stop) = refl

-- the next interval: after `done` MCUs, with `count` of them
pub record IsNext (interval number done count mcus : ℕ) : Type 0 where
  pub turn : done ≡ number * interval
  pub some : 1 ≤ count
  pub within : done + count ≤ mcus
  pub all : interval ≡ 0 → done + count ≡ mcus
  pub most : 0 < interval → count ≤ interval
  pub last : count < interval → done + count ≡ mcus

no_end_between : (interval number done count mcus c : ℕ) → IsNext interval number done count mcus → done < c → c < done + count → ends_interval interval c ≡ false
no_end_between zero number done count mcus c next after before = refl
no_end_between (suc k) number done count mcus c next after before =
    let most = next.most (omega arith) in
    let turn = next.turn in
    let split : number * suc k + (c - done) ≡ c = omega (arith, turn) in
    let left : c % suc k ≡ c - done = ap (λ (n : ℕ). n % suc k) (sym split) ∙ mod-mul-add number (suc k) (c - done) (omega (arith, most)) in
    let some : 0 < c % suc k = omega (arith, left) in
    grind (arith, nat_tests)

end_of : (interval number end : ℕ) → 0 < interval → end ≡ (number + 1) * interval → ends_interval interval end ≡ true
end_of interval number end some is =
    let none : end % interval ≡ 0 = ap (λ (n : ℕ). n % interval) is ∙ mul-mod_left (number + 1) interval in
    grind (arith, nat_tests)

ends_after : (interval number done count mcus : ℕ) → IsNext interval number done count mcus → (ends_interval interval (done + count) ≡ true) ⊎ (done + count ≡ mcus)
ends_after zero number done count mcus next = inr (next.all refl)
ends_after (suc k) number done count mcus next = elim (cases_lt count (suc k)) [
  | inl lt ↦ inr (next.last lt)
  | inr ge ↦
      let most = next.most (omega arith) in
      let turn = next.turn in
      let one : (number + 1) * suc k ≡ number * suc k + suc k = omega arith in
      inl (end_of (suc k) number (done + count) (omega arith) (omega (arith, most, turn, one)))
]

-- the one after it begins with an interval too
pub next_turn : (interval number done count mcus : ℕ) → IsNext interval number done count mcus → done + count < mcus → done + count ≡ (number + 1) * interval
next_turn zero number done count mcus next more = let e = next.all refl in absurd (omega (arith, e))
next_turn (suc k) number done count mcus next more = elim (cases_lt count (suc k)) [
  | inl lt ↦ let e = next.last lt in absurd (omega (arith, e))
  | inr ge ↦
      let most = next.most (omega arith) in
      let turn = next.turn in
      let one : (number + 1) * suc k ≡ number * suc k + suc k = omega arith in
      omega (arith, most, turn, one)
]

mcus_count : (size n : ℕ) (blocks : List (List ℤ)) → length (mcus_in size n blocks) ≡ n
mcus_count size zero blocks = refl
mcus_count size (suc n) blocks = ap suc (mcus_count size n (drop size blocks))

-- what is left after the next interval
abbrev pub left_after : List Slot → ℕ → ℕ → ℕ → ℕ → List (List ℤ) → List (List Mcu)
left_after slots interval done count mcus later = intervals_after interval (done + count) (mcus_in (length slots) (mcus - (done + count)) later)

none_left : (size interval end mcus : ℕ) (later : List (List ℤ)) → end ≡ mcus → mcus_in size (mcus - end) later ≡ []
none_left size interval end mcus later is = ap (λ (n : ℕ). mcus_in size n later) (let e : mcus - end ≡ 0 = omega arith in e)

some_left : (size interval end left : ℕ) (later : List (List ℤ)) → 0 < left → 0 < length (intervals_after interval end (mcus_in size left later))
some_left size interval end zero later some = absurd (omega arith)
some_left size interval end (suc left) later some = intervals_some interval end (take size later) (mcus_in size left (drop size later))

split_next : (slots : List Slot) (interval number done count mcus : ℕ) (rest these later : List (List ℤ)) → IsNext interval number done count mcus → rest ≡ these ++ later → length these ≡ count * length slots
    → intervals_after interval done (mcus_in (length slots) (mcus - done) rest) ≡ mcus_in (length slots) count these ∷ left_after slots interval done count mcus later
split_next slots interval number done count mcus rest these later next split long =
    let size = length slots in
    let end = done + count in
    let within = next.within in
    let counted = mcus_count size count these in
    ap₂ (λ (n : ℕ) (b : List (List ℤ)). intervals_after interval done (mcus_in size n b)) (let e : mcus - done ≡ count + (mcus - end) = omega arith in e) split
    ∙ ap (intervals_after interval done) (mcus_in_parts size count (mcus - end) these later long)
    ∙ interval_first (mcus_in size count these) interval done end (mcus_in size (mcus - end) later) (omega (arith, counted, next.some)) (omega (arith, counted)) (λ c a b. no_end_between interval number done count mcus c next a b)
    (elim (ends_after interval number done count mcus next) [ inl e ↦ inl e | inr e ↦ inr (none_left size interval end mcus later e) ])

-- a turn that puts the next interval and its marker
pub turn : (slots : List Slot) (pad : Bool) (interval number done count mcus : ℕ) (rest these later : List (List ℤ)) (bits : List Bool) (out : List ℕ) (whole : Bytes) → IsNext interval number done count mcus → rest ≡ these ++ later → length these ≡ count * length slots
    → whole ≡ prefixed_bytes out (intervals_bytes slots (λ n. pad) number (intervals_after interval done (mcus_in (length slots) (mcus - done) rest)))
    → mcus_bits slots (mcus_in (length slots) count these) ≡ Ok bits
    → whole ≡ prefixed_bytes ((out ++ interval_bytes pad bits) ++ marker_between (done + count == mcus) number) (intervals_bytes slots (λ n. pad) (number + 1) (left_after slots interval done count mcus later))
turn slots pad interval number done count mcus rest these later bits out whole next split long so_far is =
    let end = done + count in
    let within = next.within in
    let last = end == mcus in
    let more = intervals_bytes slots (λ n. pad) (number + 1) (left_after slots interval done count mcus later) in
    let first = first_bytes slots (λ n. pad) number (mcus_in (length slots) count these) (left_after slots interval done count mcus later) bits last
    (λ e. ap (intervals_after interval end) (none_left (length slots) interval end mcus later (eqb-true end mcus e)))
    (λ e. some_left (length slots) interval end (mcus - end) later (elim (cases_eq end mcus) [ inl same ↦ let f : false ≡ true = sym e ∙ eq-eqb end mcus same in cc | inr other ↦ omega (arith, other) ]))
    is in
    so_far
    ∙ ap (λ (all : List (List Mcu)). prefixed_bytes out (intervals_bytes slots (λ n. pad) number all)) (split_next slots interval number done count mcus rest these later next split long)
    ∙ ap (prefixed_bytes out) first
    ∙ after_prefix out (interval_bytes pad bits ++ marker_between last number) more
    ∙ ap (λ (o : List ℕ). prefixed_bytes o more) (sym (append_assoc out (interval_bytes pad bits) (marker_between last number)))

-- and one that stops
pub turn_stops : (slots : List Slot) (pad : Bool) (interval number done count mcus : ℕ) (rest these later : List (List ℤ)) (stop : WriteStop) (out : List ℕ) (whole : Bytes) → IsNext interval number done count mcus → rest ≡ these ++ later → length these ≡ count * length slots
    → whole ≡ prefixed_bytes out (intervals_bytes slots (λ n. pad) number (intervals_after interval done (mcus_in (length slots) (mcus - done) rest)))
    → mcus_bits slots (mcus_in (length slots) count these) ≡ Err stop
    → whole ≡ Err stop
turn_stops slots pad interval number done count mcus rest these later stop out whole next split long so_far is =
    so_far
    ∙ ap (λ (all : List (List Mcu)). prefixed_bytes out (intervals_bytes slots (λ n. pad) number all)) (split_next slots interval number done count mcus rest these later next split long)
    ∙ ap (prefixed_bytes out) (first_stop slots (λ n. pad) number (mcus_in (length slots) count these) (left_after slots interval done count mcus later) stop is)

-- before the first turn
pub turns_start : (slots : List Slot) (pad : Bool) (interval mcus : ℕ) (blocks : List (List ℤ)) → scan_bytes (shape_with slots mcus interval) (λ n. pad) (mcus_in (length slots) mcus blocks) ≡ prefixed_bytes [] (intervals_bytes slots (λ n. pad) 0 (intervals_after interval 0 (mcus_in (length slots) (mcus - 0) blocks)))
unfolding scan_bytes
turns_start slots pad interval mcus blocks =
    nothing_before (intervals_bytes slots (λ n. pad) 0 (intervals_after interval 0 (mcus_in (length slots) mcus blocks)))
    ∙ ap (λ (n : ℕ). prefixed_bytes [] (intervals_bytes slots (λ n. pad) 0 (intervals_after interval 0 (mcus_in (length slots) n blocks)))) (let e : mcus ≡ mcus - 0 = omega arith in e)

-- and after the last one
pub turns_end : (slots : List Slot) (pad : Bool) (interval number done mcus : ℕ) (rest : List (List ℤ)) (out : List ℕ) (whole : Bytes) → mcus ≤ done
    → whole ≡ prefixed_bytes out (intervals_bytes slots (λ n. pad) number (intervals_after interval done (mcus_in (length slots) (mcus - done) rest)))
    → whole ≡ Ok out
unfolding intervals_bytes
turns_end slots pad interval number done mcus rest out whole past so_far =
    so_far
    ∙ ap (λ (n : ℕ). prefixed_bytes out (intervals_bytes slots (λ n. pad) number (intervals_after interval done (mcus_in (length slots) n rest)))) (let e : mcus - done ≡ 0 = omega arith in e)
    ∙ ap (λ (l : List ℕ). Ok l) (append-nil out)
