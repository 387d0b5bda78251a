-- A scan that is read goes over its items.
use Rattle.std.proofs.Common.{◌≡◌, ℕ, zero, suc, ◌+◌, ◌-◌, ◌<◌, ◌≤◌, Bool, true, false, ◌==◌, ◌||◌, if◌then◌else◌, List, [], ◌∷◌, ◌++◌, length, replicate, ℤ, pos, ◌+ℤ◌, unsigned_abs, Option, Some, None, Result, Ok, Err, refl, sym, ap, ◌∙◌, subst, arith, append-nil, append_assoc}
use Rattle.std.specs.Prelude.{nat_le, slice_set, unwrap_or}
use Rattle.std.proofs.lemmas.Bool.{eqb-true, eq-eqb, false_from_ne_true}
use Rattle.bit_list.specs.Units.{Cursor, starting, bit_at, bits_at}
use Rattle.bit_list.specs.declared.fault.BitFault.{BitFault}
use Rattle.jpeg_marker.specs.HuffmanTables.{TableFields, IsTable}
use Rattle.huff_table.specs.Decoding.{value_at, IsFaultAt}
use Rattle.huff_table.specs.declared.fault.CodeFault.{CodeFault}
use Rattle.huff_table.proofs.WordReading.{value_is_read, fault_is_read}
use Rattle.scan_spec.specs.ValueBits.{extend}
use Rattle.scan_spec.specs.Blocks.{last_dc}
use Rattle.scan_spec.specs.Slots.{Shape}
use Rattle.scan_spec.specs.Scans.{no_dcs, ends_interval}
use Rattle.scan_spec.specs.Spots.{interval_number}
use Rattle.scan_spec.specs.ScanReading.{and_then, refused_as, symbol_at, extended_at, within_dc, difference_at, dc_at, prefixed_values, by_symbol, acs_at, block_at, BlocksRead, blocks_at, Standing, standing_at, padded_or, pads_at, after_mcu, mcu_at, mcus_at, scan_at}
use Rattle.scan_spec.specs.ScanSymbols.{code_refusal, bits_refusal, Symbol, Value, Sixteen, End, Past, Loose, Unknown, symbol_of, pad_of, restart_at}
use Rattle.scan_spec.specs.ScanPads.{pad_told, pads_told, scan_pads}
use Rattle.scan_spec.specs.Items.{DcWord, DcBits, AcWord, AcBits, Pads, Marker, Over, Wrong, Run, Stage, slots_due, mcu_due, mcu_over, after_slots, block_over, size_over, dc_over, acs_due, symbol_over, pads_over, Item, Coded, Restart, IsWord, Stands, Path, IsStuck, first_stage, Refuses, IsOverAt}
use Rattle.scan_spec.specs.ScanLaws.{IsSlot, IsShape}
use Rattle.scan_spec.proofs.PadsTold.{pads_more, no_pads_told}
use Rattle.scan_spec.specs.declared.slot.Slot.{Slot}
use Rattle.scan_spec.specs.declared.refusal.ScanRefusal.{ScanRefusal}
use Rattle.scan_spec.specs.declared.refusal.ScanRefusal.TheVariants as refusals

-- items stand from one stage and cursor to another
abbrev pub Reaches : Shape → List ℕ → Stage → Cursor → Stage → Cursor → Type 0
Reaches shape bytes stage at last end = (items : List Item) × Path shape bytes stage at items last end

abbrev pub Fails : Shape → List ℕ → Stage → Cursor → ScanRefusal → Type 0
Fails shape bytes stage at refusal = (last : Stage) × (end : Cursor) × Reaches shape bytes stage at last end × IsStuck shape bytes last.run last.due end refusal

path_then : (items more : List Item) (shape : Shape) (bytes : List ℕ) (a b c : Stage) (at bt ct : Cursor) → Path shape bytes a at items b bt → Path shape bytes b bt more c ct → Path shape bytes a at (items ++ more) c ct
path_then [] more shape bytes a b c at bt ct p q =
    subst (λ (s : Stage). Path shape bytes s at more c ct) (sym p.0) (subst (λ (d : Cursor). Path shape bytes b d more c ct) (sym p.1) q)
path_then (item ∷ items) more shape bytes a b c at bt ct p q = (p.0, p.1, p.2, path_then items more shape bytes p.0 b c p.1 bt ct p.3 q)

reaches_then : (shape : Shape) (bytes : List ℕ) (a b c : Stage) (at bt ct : Cursor) → Reaches shape bytes a at b bt → Reaches shape bytes b bt c ct → Reaches shape bytes a at c ct
reaches_then shape bytes a b c at bt ct p q = (p.0 ++ q.0, path_then p.0 q.0 shape bytes a b c at bt ct p.1 q.1)

reaches_fails : (shape : Shape) (bytes : List ℕ) (a b : Stage) (at bt : Cursor) (refusal : ScanRefusal) → Reaches shape bytes a at b bt → Fails shape bytes b bt refusal → Fails shape bytes a at refusal
reaches_fails shape bytes a b at bt refusal p q = (q.0, q.1, reaches_then shape bytes a b q.0 at bt q.1 p q.2, q.3)

here : (shape : Shape) (bytes : List ℕ) (stage : Stage) (at : Cursor) → Reaches shape bytes stage at stage at
here shape bytes stage at = ([], (refl, refl))

one_item : (shape : Shape) (bytes : List ℕ) (stage after : Stage) (at next : Cursor) (item : Item) → Stands shape bytes stage.run stage.due at item after next → Reaches shape bytes stage at after next
one_item shape bytes stage after at next item s = (item ∷ [], (after, next, s, (refl, refl)))

-- a result as it is told by items from a stage on
abbrev pub Told : {A : Type 0} → Shape → List ℕ → Stage → Cursor → Result A ScanRefusal → (A → Type 0) → Type 0
Told shape bytes stage at (Ok x) ok = ok x
Told shape bytes stage at (Err refusal) ok = Fails shape bytes stage at refusal

told_then : {A B : Type 0} (shape : Shape) (bytes : List ℕ) (stage : Stage) (at : Cursor) (r : Result A ScanRefusal) (f : A → Result B ScanRefusal) (ok : A → Type 0) (last : B → Type 0)
    → Told shape bytes stage at r ok → ((x : A) → ok x → Told shape bytes stage at (f x) last) → Told shape bytes stage at (and_then r f) last
told_then shape bytes stage at (Ok x) f ok last t k = k x t
told_then shape bytes stage at (Err refusal) f ok last t k = t

told_after : {A : Type 0} (shape : Shape) (bytes : List ℕ) (stage mid : Stage) (at bt : Cursor) (r : Result A ScanRefusal) (ok last : A → Type 0) → Reaches shape bytes stage at mid bt
    → ((x : A) → ok x → last x) → Told shape bytes mid bt r ok → Told shape bytes stage at r last
told_after shape bytes stage mid at bt (Ok x) ok last p k t = k x t
told_after shape bytes stage mid at bt (Err refusal) ok last p k t = reaches_fails shape bytes stage mid at bt refusal p t

-- a result that is told is this one
told_is : {A : Type 0} (shape : Shape) (bytes : List ℕ) (stage : Stage) (at : Cursor) (r : Result A ScanRefusal) (ok : A → Type 0) → Told shape bytes stage at r ok → Told shape bytes stage at r (λ x. ok x × (r ≡ Ok x))
told_is shape bytes stage at (Ok x) ok t = (t, refl)
told_is shape bytes stage at (Err refusal) ok t = t

-- a word
word_told : (shape : Shape) (bytes : List ℕ) (stage : Stage) (at : Cursor) (table : TableFields) (r : Result (ℕ × Cursor) CodeFault) → IsTable table → value_at table bytes at ≡ r
    → ((fault : CodeFault) → IsFaultAt table bytes at fault → IsStuck shape bytes stage.run stage.due at (code_refusal fault))
    → Told shape bytes stage at (refused_as code_refusal r) (λ s. (word : List Bool) × IsWord table bytes at word s.0 s.1)
word_told shape bytes stage at table (Ok x) is e stuck = let w = value_is_read table bytes at x.1 x.0 is e in (w.0, (w.1, w.2))
word_told shape bytes stage at table (Err fault) is e stuck = (stage, at, here shape bytes stage at, stuck fault (fault_is_read table bytes at fault is e))

abbrev done : {A : Type 0} → A → Result A BitFault
done x = Ok x

abbrev failed : {A : Type 0} → BitFault → Result A BitFault
failed e = Err e

is_both : {A B : Type 0} (x y : A × B) → done x ≡ done y → (x.0 ≡ y.0) × (x.1 ≡ y.1)
is_both x y e = (cc, cc)

apart : {A : Type 0} (e : BitFault) (x : A) → failed {A = A} e ≡ done x → ⊥
apart e x h = cc

-- as many bits as wanted
abbrev Bits_read : Type 0
Bits_read = Result (List Bool × Cursor) BitFault

bits_more : (n : ℕ) (first : Bool) (bits : List Bool) (to : Cursor) (r : Bits_read) → ((more : List Bool) (end : Cursor) → r ≡ Ok (more, end) → length more ≡ n)
    → Rattle.bit_list.specs.Units.and_then {A = List Bool × Cursor} {B = List Bool × Cursor} r (λ more. Ok (first ∷ more.0, more.1)) ≡ Ok (bits, to) → length bits ≡ suc n
bits_more n first bits to (Ok x) h e = let v = is_both (first ∷ x.0, x.1) (bits, to) e in sym (ap length v.0) ∙ ap suc (h x.0 x.1 refl)
bits_more n first bits to (Err fault) h e = absurd (apart fault (bits, to) e)

bits_first : (n : ℕ) (bytes : List ℕ) (bits : List Bool) (to : Cursor) (r : Result (Bool × Cursor) BitFault) → ((more : List Bool) (at end : Cursor) → bits_at n bytes at ≡ Ok (more, end) → length more ≡ n)
    → Rattle.bit_list.specs.Units.and_then {A = Bool × Cursor} {B = List Bool × Cursor} r (λ first. Rattle.bit_list.specs.Units.and_then (bits_at n bytes first.1) (λ more. Ok (first.0 ∷ more.0, more.1))) ≡ Ok (bits, to) → length bits ≡ suc n
bits_first n bytes bits to (Ok x) h e = bits_more n x.0 bits to (bits_at n bytes x.1) (λ more end g. h more x.1 end g) e
bits_first n bytes bits to (Err fault) h e = absurd (apart fault (bits, to) e)

pub bits_length : (n : ℕ) (bytes : List ℕ) (bits : List Bool) (at to : Cursor) → bits_at n bytes at ≡ Ok (bits, to) → length bits ≡ n
unfolding bits_at
bits_length zero bytes bits at to e = let v = is_both ([], at) (bits, to) e in sym (ap length v.0)
bits_length (suc n) bytes bits at to e = bits_first n bytes bits to (bit_at bytes at) (λ more from end h. bits_length n bytes more from end h) e

bits_told : (shape : Shape) (bytes : List ℕ) (stage : Stage) (at : Cursor) (size : ℕ) (r : Bits_read) → bits_at size bytes at ≡ r
    → ((fault : BitFault) → bits_at size bytes at ≡ Err fault → IsStuck shape bytes stage.run stage.due at (bits_refusal fault))
    → Told shape bytes stage at (refused_as bits_refusal r) (λ b. (length b.0 ≡ size) × (bits_at size bytes at ≡ Ok (b.0, b.1)))
bits_told shape bytes stage at size (Ok x) e stuck = (bits_length size bytes x.0 at x.1 e, e)
bits_told shape bytes stage at size (Err fault) e stuck = (stage, at, here shape bytes stage at, stuck fault e)

-- the value of a category's bits, where some item of them leads on
value_told : (shape : Shape) (bytes : List ℕ) (stage : Stage) (at : Cursor) (size : ℕ) (ok : ℤ × Cursor → Type 0)
    → ((fault : BitFault) → bits_at size bytes at ≡ Err fault → IsStuck shape bytes stage.run stage.due at (bits_refusal fault))
    → ((bits : List Bool) (to : Cursor) → length bits ≡ size → bits_at size bytes at ≡ Ok (bits, to) → ok (extend bits, to))
    → Told shape bytes stage at (extended_at size bytes at) ok
value_told shape bytes stage at size ok stuck goes =
    told_then shape bytes stage at (refused_as bits_refusal (bits_at size bytes at)) (λ bits. Ok (extend bits.0, bits.1)) (λ b. (length b.0 ≡ size) × (bits_at size bytes at ≡ Ok (b.0, b.1))) ok
    (bits_told shape bytes stage at size (bits_at size bytes at) refl stuck) (λ b h. goes b.0 b.1 h.0 h.1)

-- ---- AC coefficients

abbrev AcsTold : Shape → List ℕ → Run → Slot → ℕ → ℕ → Bool → Cursor → Type 0
AcsTold shape bytes run slot k left loose at =
    Told shape bytes (acs_due shape run slot left loose) at (acs_at k slot.codes.ac left loose bytes at) (λ x. Reaches shape bytes (acs_due shape run slot left loose) at (block_over shape run) x.1)

-- what goes on after a symbol
kind_told : (shape : Shape) (bytes : List ℕ) (run : Run) (slot : Slot) (k left : ℕ) (at : Cursor) (kind : Symbol) → left ≤ suc k → 0 < left
    → ((more : ℕ) (last : Bool) (to : Cursor) → more ≤ k → AcsTold shape bytes run slot k more last to)
    → Told shape bytes (symbol_over shape run slot left kind) at (by_symbol (λ more last to. acs_at k slot.codes.ac more last bytes to) left bytes at kind)
    (λ x. Reaches shape bytes (symbol_over shape run slot left kind) at (block_over shape run) x.1)
kind_told shape bytes run slot k left at (Value zeros size) small some going =
    let stage : Stage = record { due = AcBits slot (left - (zeros + 1)) size; run = run } in
    let next = acs_due shape run slot (left - (zeros + 1)) false in
    told_then shape bytes stage at (extended_at size bytes at) (λ value. prefixed_values (replicate zeros (pos 0) ++ value.0 ∷ []) (acs_at k slot.codes.ac (left - (zeros + 1)) false bytes value.1))
    (λ v. Reaches shape bytes stage at next v.1) (λ x. Reaches shape bytes stage at (block_over shape run) x.1)
    (value_told shape bytes stage at size (λ v. Reaches shape bytes stage at next v.1) (λ fault e. (fault, e, refl))
    (λ bits to long e. one_item shape bytes stage next at to (Coded bits) (long, e, refl)))
    (λ v p. told_then shape bytes stage at (acs_at k slot.codes.ac (left - (zeros + 1)) false bytes v.1) (λ more. Ok ((replicate zeros (pos 0) ++ v.0 ∷ []) ++ more.0, more.1))
    (λ x. Reaches shape bytes stage at (block_over shape run) x.1) (λ x. Reaches shape bytes stage at (block_over shape run) x.1)
    (told_after shape bytes stage next at v.1 (acs_at k slot.codes.ac (left - (zeros + 1)) false bytes v.1) (λ x. Reaches shape bytes next v.1 (block_over shape run) x.1)
    (λ x. Reaches shape bytes stage at (block_over shape run) x.1) p (λ x q. reaches_then shape bytes stage next (block_over shape run) at v.1 x.1 p q) (going (left - (zeros + 1)) false v.1 (omega arith)))
    (λ x q. q))
kind_told shape bytes run slot k left at Sixteen small some going =
    let next = acs_due shape run slot (left - 16) true in
    told_then shape bytes next at (acs_at k slot.codes.ac (left - 16) true bytes at) (λ more. Ok (replicate 16 (pos 0) ++ more.0, more.1))
    (λ x. Reaches shape bytes next at (block_over shape run) x.1) (λ x. Reaches shape bytes next at (block_over shape run) x.1)
    (going (left - 16) true at (omega arith)) (λ x q. q)
kind_told shape bytes run slot k left at End small some going = here shape bytes (block_over shape run) at
kind_told shape bytes run slot k left at Past small some going = let s : Stage = record { due = Wrong refusals.RunPast; run = run } in (s, at, here shape bytes s at, refl)
kind_told shape bytes run slot k left at Loose small some going = let s : Stage = record { due = Wrong refusals.LooseZeros; run = run } in (s, at, here shape bytes s at, refl)
kind_told shape bytes run slot k left at Unknown small some going = let s : Stage = record { due = Wrong refusals.SymbolBad; run = run } in (s, at, here shape bytes s at, refl)

pub acs_told : (k : ℕ) (shape : Shape) (bytes : List ℕ) (run : Run) (slot : Slot) (left : ℕ) (loose : Bool) (at : Cursor) → left ≤ k → IsTable slot.codes.ac → AcsTold shape bytes run slot k left loose at
unfolding acs_at
acs_told zero shape bytes run slot zero loose at small is = here shape bytes (block_over shape run) at
acs_told zero shape bytes run slot (suc left) loose at small is = absurd (omega arith)
acs_told (suc k) shape bytes run slot zero loose at small is = here shape bytes (block_over shape run) at
acs_told (suc k) shape bytes run slot (suc l) loose at small is =
    let left = suc l in
    let stage : Stage = record { due = AcWord slot left loose; run = run } in
    let table = slot.codes.ac in
    let ok : List ℤ × Cursor → Type 0 = λ x. Reaches shape bytes stage at (block_over shape run) x.1 in
    let some : (suc l == 0) ≡ false = false_from_ne_true (suc l == 0) (λ e. omega (arith, eqb-true (suc l) 0 e)) in
    rw some (told_then shape bytes stage at (symbol_at table bytes at) (λ symbol. by_symbol (λ more last to. acs_at k table more last bytes to) left bytes symbol.1 (symbol_of left loose symbol.0))
    (λ s. (word : List Bool) × IsWord table bytes at word s.0 s.1) ok
    (word_told shape bytes stage at table (value_at table bytes at) is refl (λ fault f. (fault, f, refl)))
    (λ s w.
    let kind = symbol_of left loose s.0 in
    let next = symbol_over shape run slot left kind in
    let p = one_item shape bytes stage next at s.1 (Coded w.0) (s.0, w.1, refl) in
    told_after shape bytes stage next at s.1 (by_symbol (λ more last to. acs_at k table more last bytes to) left bytes s.1 kind) (λ x. Reaches shape bytes next s.1 (block_over shape run) x.1) ok
    p (λ x q. reaches_then shape bytes stage next (block_over shape run) at s.1 x.1 p q)
    (kind_told shape bytes run slot k left s.1 kind (omega arith) (omega arith) (λ more last to h. acs_told k shape bytes run slot more last to h is))))

-- ---- a DC and a block

abbrev dc_stage : Run → Slot → Stage
dc_stage run slot = record { due = DcWord slot; run = run }

abbrev acs_stage : Run → Slot → ℤ → Stage
acs_stage run slot dc = record { due = AcWord slot 63 false; run = record run { before = slice_set run.before slot.component dc } }

range_told : (t : Bool) (shape : Shape) (bytes : List ℕ) (run : Run) (slot : Slot) (dc : ℤ) (at : Cursor)
    → Told {A = ℤ × Cursor} shape bytes (if t then acs_stage run slot dc else record { due = Wrong refusals.DcRange; run = run }) at (if t then Ok (dc, at) else Err (refusals.DcRange at.last))
    (λ x. Reaches shape bytes (if t then acs_stage run slot dc else record { due = Wrong refusals.DcRange; run = run }) at (acs_stage run slot x.0) x.1)
range_told true shape bytes run slot dc at = here shape bytes (acs_stage run slot dc) at
range_told false shape bytes run slot dc at = let s : Stage = record { due = Wrong refusals.DcRange; run = run } in (s, at, here shape bytes s at, refl)

size_told : (t : Bool) (shape : Shape) (bytes : List ℕ) (run : Run) (slot : Slot) (size : ℕ) (at : Cursor)
    → Told {A = ℤ × Cursor} shape bytes (record { due = if t then DcBits slot size else Wrong refusals.SymbolBad; run = run }) at (if t then extended_at size bytes at else Err (refusals.SymbolBad at.last))
    (λ v. Reaches shape bytes (record { due = if t then DcBits slot size else Wrong refusals.SymbolBad; run = run }) at (dc_over run slot (last_dc run.before slot +ℤ v.0)) v.1)
size_told true shape bytes run slot size at =
    let stage : Stage = record { due = DcBits slot size; run = run } in
    value_told shape bytes stage at size (λ v. Reaches shape bytes stage at (dc_over run slot (last_dc run.before slot +ℤ v.0)) v.1) (λ fault e. (fault, e, refl))
    (λ bits to long e. one_item shape bytes stage (dc_over run slot (last_dc run.before slot +ℤ extend bits)) at to (Coded bits) (long, e, refl))
size_told false shape bytes run slot size at = let s : Stage = record { due = Wrong refusals.SymbolBad; run = run } in (s, at, here shape bytes s at, refl)

dc_told : (shape : Shape) (bytes : List ℕ) (run : Run) (slot : Slot) (at : Cursor) → IsTable slot.codes.dc
    → Told shape bytes (dc_stage run slot) at (dc_at slot.codes.dc (last_dc run.before slot) bytes at) (λ x. Reaches shape bytes (dc_stage run slot) at (acs_stage run slot x.0) x.1)
unfolding dc_at
dc_told shape bytes run slot at is =
    let table = slot.codes.dc in
    let before = last_dc run.before slot in
    let stage = dc_stage run slot in
    let ok : ℤ × Cursor → Type 0 = λ x. Reaches shape bytes stage at (acs_stage run slot x.0) x.1 in
    told_then shape bytes stage at (symbol_at table bytes at) (λ size. and_then (difference_at bytes size) (λ more. within_dc (before +ℤ more.0) more.1))
    (λ s. (word : List Bool) × IsWord table bytes at word s.0 s.1) ok
    (word_told shape bytes stage at table (value_at table bytes at) is refl (λ fault f. (fault, f, refl)))
    (λ s w.
    let next : Stage = record { due = size_over slot s.0; run = run } in
    let p = one_item shape bytes stage next at s.1 (Coded w.0) (s.0, w.1, refl) in
    told_then shape bytes stage at (difference_at bytes s) (λ more. within_dc (before +ℤ more.0) more.1) (λ v. Reaches shape bytes stage at (dc_over run slot (before +ℤ v.0)) v.1) ok
    (told_after shape bytes stage next at s.1 (difference_at bytes s) (λ v. Reaches shape bytes next s.1 (dc_over run slot (before +ℤ v.0)) v.1) (λ v. Reaches shape bytes stage at (dc_over run slot (before +ℤ v.0)) v.1)
    p (λ v q. reaches_then shape bytes stage next (dc_over run slot (before +ℤ v.0)) at s.1 v.1 p q) (size_told (nat_le s.0 11) shape bytes run slot s.0 s.1))
    (λ v q.
    let dc = before +ℤ v.0 in
    told_after shape bytes stage (dc_over run slot dc) at v.1 (within_dc dc v.1) (λ x. Reaches shape bytes (dc_over run slot dc) v.1 (acs_stage run slot x.0) x.1) ok
    q (λ x g. reaches_then shape bytes stage (dc_over run slot dc) (acs_stage run slot x.0) at v.1 x.1 q g) (range_told (nat_le (unsigned_abs dc) 32767) shape bytes run slot dc v.1)))

-- the run after a block in zigzag order
abbrev run_after : Run → Slot → List ℤ → Run
run_after run slot block = record run { before = slice_set run.before slot.component (Rattle.scan_spec.specs.BlockBits.coefficient_at block 0) }

block_told : (shape : Shape) (bytes : List ℕ) (run : Run) (slot : Slot) (at : Cursor) → IsSlot slot
    → Told shape bytes (dc_stage run slot) at (block_at slot run.before bytes at) (λ x. Reaches shape bytes (dc_stage run slot) at (block_over shape (run_after run slot x.0)) x.1)
unfolding block_at
block_told shape bytes run slot at is =
    let stage = dc_stage run slot in
    let ok : List ℤ × Cursor → Type 0 = λ x. Reaches shape bytes stage at (block_over shape (run_after run slot x.0)) x.1 in
    told_then shape bytes stage at (dc_at slot.codes.dc (last_dc run.before slot) bytes at) (λ dc. prefixed_values (dc.0 ∷ []) (acs_at 63 slot.codes.ac 63 false bytes dc.1))
    (λ x. Reaches shape bytes stage at (acs_stage run slot x.0) x.1) ok (dc_told shape bytes run slot at is.dc)
    (λ dc p.
    let run2 : Run = record run { before = slice_set run.before slot.component dc.0 } in
    let acs = acs_at 63 slot.codes.ac 63 false bytes dc.1 in
    told_then shape bytes stage at acs (λ more. Ok ((dc.0 ∷ []) ++ more.0, more.1)) (λ x. Reaches shape bytes stage at (block_over shape run2) x.1) ok
    (told_after shape bytes stage (acs_stage run slot dc.0) at dc.1 acs (λ x. Reaches shape bytes (acs_stage run slot dc.0) dc.1 (block_over shape run2) x.1) (λ x. Reaches shape bytes stage at (block_over shape run2) x.1)
    p (λ x q. reaches_then shape bytes stage (acs_stage run slot dc.0) (block_over shape run2) at dc.1 x.1 p q) (acs_told 63 shape bytes run2 slot 63 false dc.1 (omega arith) is.ac))
    (λ x q. q))

-- ---- the blocks of an MCU

abbrev run_of : List Slot → List ℤ → ℕ → List Bool → Run
run_of slots before count pads = record { slots = slots; before = before; count = count; pads = pads }

blocks_told : (slots : List Slot) (shape : Shape) (bytes : List ℕ) (before : List ℤ) (count : ℕ) (pads : List Bool) (at : Cursor) → Rattle.std.specs.List.AllByRecursion IsSlot slots
    → Told shape bytes (after_slots shape (run_of slots before count pads) slots) at (blocks_at slots before bytes at)
    (λ r. Reaches shape bytes (after_slots shape (run_of slots before count pads) slots) at (mcu_over shape (run_of [] r.before count pads)) r.cursor)
unfolding blocks_at
blocks_told [] shape bytes before count pads at all = here shape bytes (mcu_over shape (run_of [] before count pads)) at
blocks_told (slot ∷ slots) shape bytes before count pads at all =
    let run = run_of slots before count pads in
    let stage = dc_stage run slot in
    let ok : BlocksRead → Type 0 = λ r. Reaches shape bytes stage at (mcu_over shape (run_of [] r.before count pads)) r.cursor in
    told_then shape bytes stage at (block_at slot before bytes at)
    (λ block. and_then (blocks_at slots (Rattle.scan_spec.specs.ScanReading.dcs_after_read before slot block.0) bytes block.1) (λ more. Ok (record more { blocks = block.0 ∷ more.blocks })))
    (λ x. Reaches shape bytes stage at (block_over shape (run_after run slot x.0)) x.1) ok (block_told shape bytes run slot at all.0)
    (λ x p.
    let before2 = Rattle.scan_spec.specs.ScanReading.dcs_after_read before slot x.0 in
    let next = after_slots shape (run_of slots before2 count pads) slots in
    told_then shape bytes stage at (blocks_at slots before2 bytes x.1) (λ more. Ok (record more { blocks = x.0 ∷ more.blocks })) ok ok
    (told_after shape bytes stage next at x.1 (blocks_at slots before2 bytes x.1) (λ r. Reaches shape bytes next x.1 (mcu_over shape (run_of [] r.before count pads)) r.cursor) ok
    p (λ r q. reaches_then shape bytes stage next (mcu_over shape (run_of [] r.before count pads)) at x.1 r.cursor p q) (blocks_told slots shape bytes before2 count pads x.1 all.1))
    (λ r q. q))

-- ---- the end of an MCU

-- where a standing is, after these pad bits: at the end, or before another MCU
abbrev stage_by : Bool → Shape → List Bool → Standing → Stage
stage_by over shape pads s = if over then record { due = Over; run = run_of [] no_dcs s.count pads } else mcu_due shape (run_of [] s.before s.count pads)

abbrev stage_at : Shape → List Bool → Standing → Stage
stage_at shape pads s = stage_by (s.count == shape.mcus) shape pads s

-- with the pad bit that an interval tells
abbrev pads_with : List Bool → Option Bool → List Bool
pads_with pads known = pads ++ unwrap_or known true ∷ []

-- a marker
restart_told : (shape : Shape) (bytes : List ℕ) (count : ℕ) (pads : List Bool) (known : Option Bool) (at : Cursor) (r : Result ℕ ScanRefusal) → restart_at bytes (interval_number shape count) at.next ≡ r
    → Told shape bytes (record { due = Marker; run = run_of [] no_dcs (count + 1) (pads_with pads known) }) at
    (and_then {A = ℕ} {B = Standing} r (λ place. Ok (record { cursor = starting place 0; before = no_dcs; count = count + 1; pad = known })))
    (λ s. Reaches shape bytes (record { due = Marker; run = run_of [] no_dcs (count + 1) (pads_with pads known) }) at (stage_by false shape (pads_with pads s.pad) s) s.cursor × (s.count ≡ count + 1))
restart_told shape bytes count pads known at (Ok place) e =
    let stage : Stage = record { due = Marker; run = run_of [] no_dcs (count + 1) (pads_with pads known) } in
    let same : count + 1 - 1 ≡ count = omega arith in
    (one_item shape bytes stage (mcu_due shape (run_of [] no_dcs (count + 1) (pads_with pads known))) at (starting place 0) Restart (place, ap (λ (n : ℕ). restart_at bytes (interval_number shape n) at.next) same ∙ e, refl, refl), refl)
restart_told shape bytes count pads known at (Err refusal) e =
    let stage : Stage = record { due = Marker; run = run_of [] no_dcs (count + 1) (pads_with pads known) } in
    let same : count + 1 - 1 ≡ count = omega arith in
    (stage, at, here shape bytes stage at, ap (λ (n : ℕ). restart_at bytes (interval_number shape n) at.next) same ∙ e)

abbrev pads_by : Bool → Shape → Run → Option (Option Bool) → Stage
pads_by over shape run None = record { due = Wrong refusals.MixedPad; run = run }
pads_by over shape run (Some pad) = record { due = if over then Over else Marker; run = record run { before = no_dcs; pads = pads_with run.pads pad } }

-- pad bits that were looked at
padded_told : (over : Bool) (shape : Shape) (bytes : List ℕ) (before : List ℤ) (count : ℕ) (pads : List Bool) (at : Cursor) (o : Option (Option Bool)) → pad_of (Some None) at.left ≡ o
    → (Stands shape bytes (run_of [] before (count + 1) pads) Pads at (Coded at.left) (pads_by over shape (run_of [] before (count + 1) pads) o) (record at { left = [] }))
    → Told shape bytes (record { due = Pads; run = run_of [] before (count + 1) pads }) at
    (and_then {A = Option Bool × Cursor} {B = Standing} (padded_or o at)
    (λ padded. if over then Ok (record { cursor = padded.1; before = no_dcs; count = count + 1; pad = padded.0 })
    else and_then (restart_at bytes (interval_number shape count) padded.1.next) (λ place. Ok (record { cursor = starting place 0; before = no_dcs; count = count + 1; pad = padded.0 }))))
    (λ s. Reaches shape bytes (record { due = Pads; run = run_of [] before (count + 1) pads }) at (stage_by over shape (pads_with pads s.pad) s) s.cursor × (s.count ≡ count + 1))
padded_told over shape bytes before count pads at None e stands =
    let stage : Stage = record { due = Pads; run = run_of [] before (count + 1) pads } in
    let next : Stage = record { due = Wrong refusals.MixedPad; run = run_of [] before (count + 1) pads } in
    (next, record at { left = [] }, one_item shape bytes stage next at (record at { left = [] }) (Coded at.left) stands, refl)
padded_told true shape bytes before count pads at (Some known) e stands =
    let stage : Stage = record { due = Pads; run = run_of [] before (count + 1) pads } in
    let next : Stage = record { due = Over; run = run_of [] no_dcs (count + 1) (pads_with pads known) } in
    (one_item shape bytes stage next at (record at { left = [] }) (Coded at.left) stands, refl)
padded_told false shape bytes before count pads at (Some known) e stands =
    let stage : Stage = record { due = Pads; run = run_of [] before (count + 1) pads } in
    let next : Stage = record { due = Marker; run = run_of [] no_dcs (count + 1) (pads_with pads known) } in
    let end : Cursor = record at { left = [] } in
    let p = one_item shape bytes stage next at end (Coded at.left) stands in
    told_after shape bytes stage next at end
    (and_then {A = ℕ} {B = Standing} (restart_at bytes (interval_number shape count) end.next) (λ place. Ok (record { cursor = starting place 0; before = no_dcs; count = count + 1; pad = known })))
    (λ s. Reaches shape bytes next end (stage_by false shape (pads_with pads s.pad) s) s.cursor × (s.count ≡ count + 1)) (λ s. Reaches shape bytes stage at (stage_by false shape (pads_with pads s.pad) s) s.cursor × (s.count ≡ count + 1))
    p (λ s q. (reaches_then shape bytes stage next (stage_by false shape (pads_with pads s.pad) s) at end s.cursor p q.0, q.1))
    (restart_told shape bytes count pads known end (restart_at bytes (interval_number shape count) end.next) refl)

pads_same : (shape : Shape) (run : Run) (o : Option (Option Bool)) → pads_by (run.count == shape.mcus) shape run o ≡ pads_over shape run o
pads_same shape run None = refl
pads_same shape run (Some pad) = refl

-- the pad bits after an MCU, by whether it ends an interval
abbrev pads_on : Bool → List Bool → Standing → List Bool
pads_on closed pads s = pads ++ (if closed then unwrap_or s.pad true ∷ [] else [])

-- after the blocks of an MCU
end_told : (over ends : Bool) (shape : Shape) (bytes : List ℕ) (before : List ℤ) (count : ℕ) (pads : List Bool) (at : Cursor)
    → Stands shape bytes (run_of [] before (count + 1) pads) Pads at (Coded at.left) (pads_by over shape (run_of [] before (count + 1) pads) (pad_of (Some None) at.left)) (record at { left = [] })
    → Told {A = Standing} shape bytes (if over || ends then record { due = Pads; run = run_of [] before (count + 1) pads } else mcu_due shape (run_of [] before (count + 1) pads)) at
    (if over || ends then and_then (pads_at at)
    (λ padded. if over then Ok (record { cursor = padded.1; before = no_dcs; count = count + 1; pad = padded.0 })
    else and_then (restart_at bytes (interval_number shape count) padded.1.next) (λ place. Ok (record { cursor = starting place 0; before = no_dcs; count = count + 1; pad = padded.0 })))
    else Ok (record { cursor = at; before = before; count = count + 1; pad = None }))
    (λ s. Reaches shape bytes (if over || ends then record { due = Pads; run = run_of [] before (count + 1) pads } else mcu_due shape (run_of [] before (count + 1) pads)) at (stage_by over shape (pads_on (over || ends) pads s) s) s.cursor × (s.count ≡ count + 1))
end_told true ends shape bytes before count pads at stands = padded_told true shape bytes before count pads at (pad_of (Some None) at.left) refl stands
end_told false true shape bytes before count pads at stands = padded_told false shape bytes before count pads at (pad_of (Some None) at.left) refl stands
end_told false false shape bytes before count pads at stands =
    let run = run_of [] before (count + 1) pads in
    (subst (λ (l : List Bool). Reaches shape bytes (mcu_due shape run) at (mcu_due shape (run_of [] before (count + 1) l)) at) (sym (append-nil pads)) (here shape bytes (mcu_due shape run) at), refl)

-- the first slot of an MCU
first_slot : (slots : List Slot) (shape : Shape) (before : List ℤ) (count : ℕ) (pads : List Bool) → 0 < length slots
    → slots_due (run_of [] before count pads) slots ≡ after_slots shape (run_of slots before count pads) slots
first_slot [] shape before count pads some = absurd (omega arith)
first_slot (slot ∷ slots) shape before count pads some = refl

mcu_told : (shape : Shape) (bytes : List ℕ) (pads : List Bool) (s : Standing) → IsShape shape
    → Told shape bytes (mcu_due shape (run_of [] s.before s.count pads)) s.cursor (mcu_at shape bytes s)
    (λ x. Reaches shape bytes (mcu_due shape (run_of [] s.before s.count pads)) s.cursor (stage_at shape (pads ++ pad_told shape x.1) x.1) x.1.cursor × (x.1.count ≡ s.count + 1))
unfolding mcu_at
mcu_told shape bytes pads s is =
    let stage = mcu_due shape (run_of [] s.before s.count pads) in
    let first = after_slots shape (run_of shape.slots s.before s.count pads) shape.slots in
    let same : stage ≡ first = first_slot shape.slots shape s.before s.count pads is.some in
    let over = s.count + 1 == shape.mcus in
    let ends = ends_interval shape.interval (s.count + 1) in
    let ok : List (List ℤ) × Standing → Type 0 = λ x. Reaches shape bytes stage s.cursor (stage_at shape (pads ++ pad_told shape x.1) x.1) x.1.cursor × (x.1.count ≡ s.count + 1) in
    let blocks : BlocksRead → Type 0 = λ r. Reaches shape bytes stage s.cursor (mcu_over shape (run_of [] r.before s.count pads)) r.cursor in
    told_then shape bytes stage s.cursor (blocks_at shape.slots s.before bytes s.cursor) (λ read. and_then (after_mcu shape bytes s read) (λ next. Ok (read.blocks, next))) blocks ok
    (subst (λ (g : Stage). Told shape bytes g s.cursor (blocks_at shape.slots s.before bytes s.cursor) (λ r. Reaches shape bytes g s.cursor (mcu_over shape (run_of [] r.before s.count pads)) r.cursor)) (sym same)
    (blocks_told shape.slots shape bytes s.before s.count pads s.cursor is.slots))
    (λ r p.
    let mid = mcu_over shape (run_of [] r.before s.count pads) in
    let run = run_of [] r.before (s.count + 1) pads in
    let goal : Standing → Type 0 = λ n. Reaches shape bytes stage s.cursor (stage_by over shape (pads_on (over || ends) pads n) n) n.cursor × (n.count ≡ s.count + 1) in
    told_then shape bytes stage s.cursor (after_mcu shape bytes s r) (λ next. Ok (r.blocks, next)) goal ok
    (told_after shape bytes stage mid s.cursor r.cursor (after_mcu shape bytes s r) (λ n. Reaches shape bytes mid r.cursor (stage_by over shape (pads_on (over || ends) pads n) n) n.cursor × (n.count ≡ s.count + 1))
    goal p (λ n q. (reaches_then shape bytes stage mid (stage_by over shape (pads_on (over || ends) pads n) n) s.cursor r.cursor n.cursor p q.0, q.1))
    (end_told over ends shape bytes r.before s.count pads r.cursor (refl, refl, pads_same shape run (pad_of (Some None) r.cursor.left))))
    (λ n q. (subst (λ (k : ℕ). Reaches shape bytes stage s.cursor (stage_by (k == shape.mcus) shape (pads_on ((k == shape.mcus) || ends_interval shape.interval k) pads n) n) n.cursor) (sym q.1) q.0, q.1)))

mcus_told : (n : ℕ) (shape : Shape) (bytes : List ℕ) (pads : List Bool) (s : Standing) → IsShape shape → s.count + n ≡ shape.mcus
    → Told shape bytes (stage_at shape pads s) s.cursor (mcus_at n shape bytes s)
    (λ x. Reaches shape bytes (stage_at shape pads s) s.cursor (stage_at shape (pads ++ pads_told n shape bytes s) x.1) x.1.cursor × (x.1.count ≡ shape.mcus))
unfolding mcus_at
mcus_told zero shape bytes pads s is e =
    let none : pads ≡ pads ++ pads_told 0 shape bytes s = sym (append-nil pads) ∙ ap (λ (l : List Bool). pads ++ l) (sym (no_pads_told shape bytes s)) in
    (subst (λ (l : List Bool). Reaches shape bytes (stage_at shape pads s) s.cursor (stage_at shape l s) s.cursor) none (here shape bytes (stage_at shape pads s) s.cursor), omega (arith, e))
mcus_told (suc n) shape bytes pads s is e =
    let stage = stage_at shape pads s in
    let before : (s.count == shape.mcus) ≡ false = false_from_ne_true (s.count == shape.mcus) (λ g. let same = eqb-true s.count shape.mcus g in omega (arith, same, e)) in
    let same : stage ≡ mcu_due shape (run_of [] s.before s.count pads) = ap (λ (t : Bool). stage_by t shape pads s) before in
    let all = pads ++ pads_told (suc n) shape bytes s in
    let ok : List (List (List ℤ)) × Standing → Type 0 = λ x. Reaches shape bytes stage s.cursor (stage_at shape all x.1) x.1.cursor × (x.1.count ≡ shape.mcus) in
    let one : List (List ℤ) × Standing → Type 0 = λ x. Reaches shape bytes stage s.cursor (stage_at shape (pads ++ pad_told shape x.1) x.1) x.1.cursor × (x.1.count ≡ s.count + 1) in
    let first : Told shape bytes stage s.cursor (mcu_at shape bytes s) one =
    subst (λ (g : Stage). Told shape bytes g s.cursor (mcu_at shape bytes s) (λ x. Reaches shape bytes g s.cursor (stage_at shape (pads ++ pad_told shape x.1) x.1) x.1.cursor × (x.1.count ≡ s.count + 1))) (sym same) (mcu_told shape bytes pads s is) in
    told_then shape bytes stage s.cursor (mcu_at shape bytes s) (λ first. and_then (mcus_at n shape bytes first.1) (λ more. Ok (first.0 ∷ more.0, more.1)))
    (λ x. one x × (mcu_at shape bytes s ≡ Ok x)) ok (told_is shape bytes stage s.cursor (mcu_at shape bytes s) one first)
    (λ x w.
    let p = w.0 in
    let known = pads ++ pad_told shape x.1 in
    let next = stage_at shape known x.1 in
    let tells : known ++ pads_told n shape bytes x.1 ≡ all = append_assoc pads (pad_told shape x.1) (pads_told n shape bytes x.1) ∙ ap (λ (l : List Bool). pads ++ l) (sym (pads_more n shape bytes s x.1 x.0 w.1)) in
    told_then shape bytes stage s.cursor (mcus_at n shape bytes x.1) (λ more. Ok (x.0 ∷ more.0, more.1)) ok ok
    (told_after shape bytes stage next s.cursor x.1.cursor (mcus_at n shape bytes x.1) (λ y. Reaches shape bytes next x.1.cursor (stage_at shape all y.1) y.1.cursor × (y.1.count ≡ shape.mcus)) ok p.0
    (λ y q. (reaches_then shape bytes stage next (stage_at shape all y.1) s.cursor x.1.cursor y.1.cursor p.0 q.0, q.1))
    (let h = p.1 in subst (λ (l : List Bool). Told shape bytes next x.1.cursor (mcus_at n shape bytes x.1) (λ y. Reaches shape bytes next x.1.cursor (stage_at shape l y.1) y.1.cursor × (y.1.count ≡ shape.mcus))) tells
    (mcus_told n shape bytes known x.1 is (omega (arith, h, e)))))
    (λ y q. q))

-- a whole scan
scan_told : (shape : Shape) (bytes : List ℕ) (place : ℕ) → IsShape shape
    → Told shape bytes (first_stage shape) (starting place 0) (scan_at shape bytes place) (λ x. Reaches shape bytes (first_stage shape) (starting place 0) (stage_at shape (scan_pads shape bytes place) x.1) x.1.cursor × (x.1.count ≡ shape.mcus))
scan_told shape bytes place is =
    let before : (0 == shape.mcus) ≡ false = false_from_ne_true (0 == shape.mcus) (λ g. let same = eqb-true 0 shape.mcus g in let h = is.mcus in omega (arith, same, h)) in
    let s = standing_at place in
    let same : stage_at shape [] s ≡ first_stage shape = ap (λ (t : Bool). stage_by t shape [] s) before in
    subst (λ (g : Stage). Told shape bytes g (starting place 0) (scan_at shape bytes place) (λ x. Reaches shape bytes g (starting place 0) (stage_at shape (scan_pads shape bytes place) x.1) x.1.cursor × (x.1.count ≡ shape.mcus))) same
    (mcus_told shape.mcus shape bytes [] s is (omega arith))

told_err : {A : Type 0} (shape : Shape) (bytes : List ℕ) (stage : Stage) (at : Cursor) (r : Result A ScanRefusal) (ok : A → Type 0) (refusal : ScanRefusal) → r ≡ Err refusal → Told shape bytes stage at r ok → Fails shape bytes stage at refusal
told_err {A} shape bytes stage at r ok refusal e t = subst (λ (x : Result A ScanRefusal). Told shape bytes stage at x ok) e t

told_ok : {A : Type 0} (shape : Shape) (bytes : List ℕ) (stage : Stage) (at : Cursor) (r : Result A ScanRefusal) (ok : A → Type 0) (x : A) → r ≡ Ok x → Told shape bytes stage at r ok → ok x
told_ok {A} shape bytes stage at r ok x e t = subst (λ (y : Result A ScanRefusal). Told shape bytes stage at y ok) e t

-- a refusal is that of the items
pub refused_so : (shape : Shape) (bytes : List ℕ) (place : ℕ) (refusal : ScanRefusal) → IsShape shape → scan_at shape bytes place ≡ Err refusal → Refuses shape bytes place refusal
refused_so shape bytes place refusal is e =
    let f = told_err shape bytes (first_stage shape) (starting place 0) (scan_at shape bytes place) (λ x. Reaches shape bytes (first_stage shape) (starting place 0) (stage_at shape (scan_pads shape bytes place) x.1) x.1.cursor × (x.1.count ≡ shape.mcus)) refusal e (scan_told shape bytes place is) in
    record { items = f.2.0; last = f.0; end = f.1; path = f.2.1; stuck = f.3 }

-- and what is read ends
pub ends_so : (shape : Shape) (bytes : List ℕ) (place : ℕ) (blocks : List (List (List ℤ))) (end : Standing) → IsShape shape → scan_at shape bytes place ≡ Ok (blocks, end) → IsOverAt shape bytes place (scan_pads shape bytes place) end.cursor.next
ends_so shape bytes place blocks end is e =
    let f = told_ok shape bytes (first_stage shape) (starting place 0) (scan_at shape bytes place) (λ x. Reaches shape bytes (first_stage shape) (starting place 0) (stage_at shape (scan_pads shape bytes place) x.1) x.1.cursor × (x.1.count ≡ shape.mcus)) (blocks, end) e (scan_told shape bytes place is) in
    let all : (end.count == shape.mcus) ≡ true = eq-eqb end.count shape.mcus f.1 in
    let pads = scan_pads shape bytes place in
    let last : stage_at shape pads end ≡ record { due = Over; run = run_of [] no_dcs end.count pads } = ap (λ (t : Bool). stage_by t shape pads end) all in
    record { items = f.0.0; last = stage_at shape pads end; end = end.cursor; path = f.0.1; over = ap (λ (g : Stage). g.due) last; told = ap (λ (g : Stage). g.run.pads) last; place_after = refl }
