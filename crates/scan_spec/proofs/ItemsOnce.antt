-- Items stand in one way only, so that a scan has one outcome.
use Rattle.std.proofs.Common.{◌≡◌, ℕ, ◌+◌, ◌-◌, Bool, true, false, ◌==◌, if◌then◌else◌, List, [], ◌∷◌, ◌++◌, ◌+ℤ◌, unsigned_abs, Option, Some, None, Result, Ok, Err, refl, sym, ap, ap₂, ◌∙◌, subst}
use Rattle.std.specs.Prelude.{nat_le, slice_set}
use Rattle.std.specs.List.{AllByRecursion}
use Rattle.bit_list.specs.Units.{Cursor, starting, bits_at}
use Rattle.jpeg_marker.specs.HuffmanTables.{TableFields, IsTable}
use Rattle.huff_table.specs.CodeWords.{word_of}
use Rattle.huff_table.specs.Decoding.{value_at}
use Rattle.huff_table.proofs.WordReading.{word_is_read, fault_comes}
use Rattle.scan_spec.specs.ValueBits.{extend}
use Rattle.scan_spec.specs.Blocks.{last_dc}
use Rattle.scan_spec.specs.Slots.{Shape}
use Rattle.scan_spec.specs.Spots.{is_closed, interval_number}
use Rattle.scan_spec.specs.Scans.{no_dcs}
use Rattle.scan_spec.specs.ScanSymbols.{code_refusal, bits_refusal, Symbol, Value, Sixteen, End, Past, Loose, Unknown, symbol_of, pad_of, restart_at}
use Rattle.scan_spec.specs.Items.{Due, DcWord, DcBits, AcWord, AcBits, Pads, Marker, Over, Wrong, Run, Stage, slots_due, mcu_due, mcu_over, after_slots, block_over, size_over, dc_over, acs_due, symbol_over, pads_over, Item, Coded, Restart, IsWord, Stands, Path, IsStuck, first_stage, Refuses, IsOverAt}
use Rattle.scan_spec.specs.ScanLaws.{IsSlot, IsShape}
use Rattle.scan_spec.specs.declared.slot.Slot.{Slot}
use Rattle.scan_spec.specs.declared.refusal.ScanRefusal.{ScanRefusal}
use Rattle.scan_spec.specs.declared.refusal.ScanRefusal.TheVariants as refusals

-- slots with tables
abbrev DueGood : Due → Type 0
DueGood (DcWord slot) = IsSlot slot
DueGood (DcBits slot size) = IsSlot slot
DueGood (AcWord slot left loose) = IsSlot slot
DueGood (AcBits slot left size) = IsSlot slot
DueGood Pads = Unit {0}
DueGood Marker = Unit {0}
DueGood Over = Unit {0}
DueGood (Wrong refusal) = Unit {0}

abbrev Good : Stage → Type 0
Good stage = DueGood stage.due × AllByRecursion IsSlot stage.run.slots

good_if : (t : Bool) (a b : Stage) → Good a → Good b → Good (if t then a else b)
good_if true a b p q = p
good_if false a b p q = q

due_if : (t : Bool) (a b : Due) → DueGood a → DueGood b → DueGood (if t then a else b)
due_if true a b p q = p
due_if false a b p q = q

good_slots : (slots : List Slot) (run : Run) → AllByRecursion IsSlot slots → Good (slots_due run slots)
good_slots [] run all = (tt, tt)
good_slots (slot ∷ slots) run all = (all.0, all.1)

good_over : (shape : Shape) (run : Run) → IsShape shape → AllByRecursion IsSlot run.slots → Good (mcu_over shape run)
good_over shape run is all =
    good_if (is_closed shape (run.count + 1)) (record { due = Pads; run = record run { count = run.count + 1 } }) (mcu_due shape (record run { count = run.count + 1 }))
    (tt, all) (good_slots shape.slots (record run { count = run.count + 1 }) is.slots)

good_after : (slots : List Slot) (shape : Shape) (run : Run) → IsShape shape → AllByRecursion IsSlot run.slots → AllByRecursion IsSlot slots → Good (after_slots shape run slots)
good_after [] shape run is all some = good_over shape run is all
good_after (slot ∷ slots) shape run is all some = (some.0, some.1)

good_acs : (shape : Shape) (run : Run) (slot : Slot) (left : ℕ) (loose : Bool) → IsShape shape → IsSlot slot → AllByRecursion IsSlot run.slots → Good (acs_due shape run slot left loose)
good_acs shape run slot left loose is one all =
    good_if (left == 0) (block_over shape run) (record { due = AcWord slot left loose; run = run }) (good_after run.slots shape run is all all) (one, all)

good_symbol : (kind : Symbol) (shape : Shape) (run : Run) (slot : Slot) (left : ℕ) → IsShape shape → IsSlot slot → AllByRecursion IsSlot run.slots → Good (symbol_over shape run slot left kind)
good_symbol (Value zeros size) shape run slot left is one all = (one, all)
good_symbol Sixteen shape run slot left is one all = good_acs shape run slot (left - 16) true is one all
good_symbol End shape run slot left is one all = good_after run.slots shape run is all all
good_symbol Past shape run slot left is one all = (tt, all)
good_symbol Loose shape run slot left is one all = (tt, all)
good_symbol Unknown shape run slot left is one all = (tt, all)

good_pads : (o : Option (Option Bool)) (shape : Shape) (run : Run) → AllByRecursion IsSlot run.slots → Good (pads_over shape run o)
good_pads None shape run all = (tt, all)
good_pads (Some pad) shape run all = (due_if (run.count == shape.mcus) Over Marker tt tt, all)

-- what is due next has tables too
good_next : (due : Due) (item : Item) (shape : Shape) (bytes : List ℕ) (run : Run) (at next : Cursor) (after : Stage) → IsShape shape → DueGood due → AllByRecursion IsSlot run.slots
    → Stands shape bytes run due at item after next → Good after
good_next (DcWord slot) (Coded bits) shape bytes run at next after is one all s =
    subst (λ (g : Stage). Good g) (sym s.2) (due_if (nat_le s.0 11) (DcBits slot s.0) (Wrong refusals.SymbolBad) one tt, all)
good_next (DcBits slot size) (Coded bits) shape bytes run at next after is one all s =
    let dc = last_dc run.before slot +ℤ extend bits in
    subst (λ (g : Stage). Good g) (sym s.2) (good_if (nat_le (unsigned_abs dc) 32767) (record { due = AcWord slot 63 false; run = record run { before = slice_set run.before slot.component dc } })
    (record { due = Wrong refusals.DcRange; run = run }) (one, all) (tt, all))
good_next (AcWord slot left loose) (Coded bits) shape bytes run at next after is one all s =
    subst (λ (g : Stage). Good g) (sym s.2) (good_symbol (symbol_of left loose s.0) shape run slot left is one all)
good_next (AcBits slot left size) (Coded bits) shape bytes run at next after is one all s = subst (λ (g : Stage). Good g) (sym s.2) (good_acs shape run slot left false is one all)
good_next Pads (Coded bits) shape bytes run at next after is one all s = subst (λ (g : Stage). Good g) (sym s.2) (good_pads (pad_of (Some None) bits) shape run all)
good_next Marker Restart shape bytes run at next after is one all s = subst (λ (g : Stage). Good g) (sym s.3) (good_slots shape.slots run is.slots)
good_next (DcWord slot) Restart shape bytes run at next after is one all s = absurd s
good_next (DcBits slot size) Restart shape bytes run at next after is one all s = absurd s
good_next (AcWord slot left loose) Restart shape bytes run at next after is one all s = absurd s
good_next (AcBits slot left size) Restart shape bytes run at next after is one all s = absurd s
good_next Pads Restart shape bytes run at next after is one all s = absurd s
good_next Marker (Coded bits) shape bytes run at next after is one all s = absurd s
good_next Over (Coded bits) shape bytes run at next after is one all s = absurd s
good_next Over Restart shape bytes run at next after is one all s = absurd s
good_next (Wrong refusal) (Coded bits) shape bytes run at next after is one all s = absurd s
good_next (Wrong refusal) Restart shape bytes run at next after is one all s = absurd s

-- ---- one item

pair_is : {A B : Type 0} (x y : A × B) → x ≡ y → (x.0 ≡ y.0) × (x.1 ≡ y.1)
pair_is x y e = (ap (λ p. p.0) e, ap (λ p. p.1) e)

ok_is : {A E : Type 0} (x y : A) (a b : Result A E) → a ≡ Ok x → b ≡ Ok y → a ≡ b → x ≡ y
ok_is x y a b p q e = cc

err_is : {A E : Type 0} (x y : E) (a b : Result A E) → a ≡ Err x → b ≡ Err y → a ≡ b → x ≡ y
err_is x y a b p q e = cc

ok_not : {A E : Type 0} (x : A) (y : E) (a : Result A E) → a ≡ Ok x → a ≡ Err y → ⊥
ok_not x y a p q = cc

word_is : (a b : List Bool) (o : Option (List Bool)) → o ≡ Some a → o ≡ Some b → a ≡ b
word_is a b o p q = cc

-- one word
record Same_word (v v' : ℕ) (n n' : Cursor) (w w' : List Bool) : Type 0 where
  values : v ≡ v'
  cursors : n ≡ n'
  words : w ≡ w'

same_word : (table : TableFields) (bytes : List ℕ) (at n n' : Cursor) (v v' : ℕ) (w w' : List Bool) → IsTable table → IsWord table bytes at w v n → IsWord table bytes at w' v' n' → Same_word v v' n n' w w'
same_word table bytes at n n' v v' w w' is a b =
    let p = word_is_read table bytes at n v w is a.0 a.1 in
    let q = word_is_read table bytes at n' v' w' is b.0 b.1 in
    let e = pair_is (v, n) (v', n') (ok_is (v, n) (v', n') (value_at table bytes at) (value_at table bytes at) p q refl) in
    record { values = e.0; cursors = e.1; words = word_is w w' (word_of table v) a.0 (ap (word_of table) e.0 ∙ b.0) }

record Same_step (i i' : Item) (a a' : Stage) (n n' : Cursor) : Type 0 where
  items : i ≡ i'
  stages : a ≡ a'
  cursors : n ≡ n'

same_bits : (size : ℕ) (bytes : List ℕ) (at n n' : Cursor) (b b' : List Bool) → bits_at size bytes at ≡ Ok (b, n) → bits_at size bytes at ≡ Ok (b', n') → (b ≡ b') × (n ≡ n')
same_bits size bytes at n n' b b' p q = pair_is (b, n) (b', n') (ok_is (b, n) (b', n') (bits_at size bytes at) (bits_at size bytes at) p q refl)

same_step : (due : Due) (i i' : Item) (shape : Shape) (bytes : List ℕ) (run : Run) (at n n' : Cursor) (a a' : Stage) → DueGood due
    → Stands shape bytes run due at i a n → Stands shape bytes run due at i' a' n' → Same_step i i' a a' n n'
same_step (DcWord slot) (Coded w) (Coded w') shape bytes run at n n' a a' is s t =
    let e = same_word slot.codes.dc bytes at n n' s.0 t.0 w w' is.dc s.1 t.1 in
    record { items = ap Coded e.words; stages = s.2 ∙ ap (λ (v : ℕ). record { due = size_over slot v; run = run }) e.values ∙ sym t.2; cursors = e.cursors }
same_step (DcBits slot size) (Coded w) (Coded w') shape bytes run at n n' a a' is s t =
    let e = same_bits size bytes at n n' w w' s.1 t.1 in
    record { items = ap Coded e.0; stages = s.2 ∙ ap (λ (b : List Bool). dc_over run slot (last_dc run.before slot +ℤ extend b)) e.0 ∙ sym t.2; cursors = e.1 }
same_step (AcWord slot left loose) (Coded w) (Coded w') shape bytes run at n n' a a' is s t =
    let e = same_word slot.codes.ac bytes at n n' s.0 t.0 w w' is.ac s.1 t.1 in
    record { items = ap Coded e.words; stages = s.2 ∙ ap (λ (v : ℕ). symbol_over shape run slot left (symbol_of left loose v)) e.values ∙ sym t.2; cursors = e.cursors }
same_step (AcBits slot left size) (Coded w) (Coded w') shape bytes run at n n' a a' is s t =
    let e = same_bits size bytes at n n' w w' s.1 t.1 in
    record { items = ap Coded e.0; stages = s.2 ∙ sym t.2; cursors = e.1 }
same_step Pads (Coded w) (Coded w') shape bytes run at n n' a a' is s t =
    let e : w ≡ w' = s.0 ∙ sym t.0 in
    record { items = ap Coded e; stages = s.2 ∙ ap (λ (b : List Bool). pads_over shape run (pad_of (Some None) b)) e ∙ sym t.2; cursors = s.1 ∙ sym t.1 }
same_step Marker Restart Restart shape bytes run at n n' a a' is s t =
    let r = restart_at bytes (interval_number shape (run.count - 1)) at.next in
    let e = ok_is s.0 t.0 r r s.1 t.1 refl in
    record { items = refl; stages = s.3 ∙ sym t.3; cursors = s.2 ∙ ap (λ (p : ℕ). starting p 0) e ∙ sym t.2 }
same_step (DcWord slot) Restart i' shape bytes run at n n' a a' is s t = absurd s
same_step (DcWord slot) (Coded w) Restart shape bytes run at n n' a a' is s t = absurd t
same_step (DcBits slot size) Restart i' shape bytes run at n n' a a' is s t = absurd s
same_step (DcBits slot size) (Coded w) Restart shape bytes run at n n' a a' is s t = absurd t
same_step (AcWord slot left loose) Restart i' shape bytes run at n n' a a' is s t = absurd s
same_step (AcWord slot left loose) (Coded w) Restart shape bytes run at n n' a a' is s t = absurd t
same_step (AcBits slot left size) Restart i' shape bytes run at n n' a a' is s t = absurd s
same_step (AcBits slot left size) (Coded w) Restart shape bytes run at n n' a a' is s t = absurd t
same_step Pads Restart i' shape bytes run at n n' a a' is s t = absurd s
same_step Pads (Coded w) Restart shape bytes run at n n' a a' is s t = absurd t
same_step Marker (Coded w) i' shape bytes run at n n' a a' is s t = absurd s
same_step Marker Restart (Coded w) shape bytes run at n n' a a' is s t = absurd t
same_step Over (Coded w) i' shape bytes run at n n' a a' is s t = absurd s
same_step Over Restart i' shape bytes run at n n' a a' is s t = absurd s
same_step (Wrong refusal) (Coded w) i' shape bytes run at n n' a a' is s t = absurd s
same_step (Wrong refusal) Restart i' shape bytes run at n n' a a' is s t = absurd s

-- nothing stands where items stop
not_stuck : (due : Due) (i : Item) (shape : Shape) (bytes : List ℕ) (run : Run) (at n : Cursor) (a : Stage) (refusal : ScanRefusal) → DueGood due
    → Stands shape bytes run due at i a n → IsStuck shape bytes run due at refusal → ⊥
not_stuck (DcWord slot) (Coded w) shape bytes run at n a refusal is s f =
    ok_not (s.0, n) f.0 (value_at slot.codes.dc bytes at) (word_is_read slot.codes.dc bytes at n s.0 w is.dc s.1.0 s.1.1) (fault_comes slot.codes.dc bytes at f.0 is.dc f.1)
not_stuck (DcBits slot size) (Coded w) shape bytes run at n a refusal is s f = ok_not (w, n) f.0 (bits_at size bytes at) s.1 f.1
not_stuck (AcWord slot left loose) (Coded w) shape bytes run at n a refusal is s f =
    ok_not (s.0, n) f.0 (value_at slot.codes.ac bytes at) (word_is_read slot.codes.ac bytes at n s.0 w is.ac s.1.0 s.1.1) (fault_comes slot.codes.ac bytes at f.0 is.ac f.1)
not_stuck (AcBits slot left size) (Coded w) shape bytes run at n a refusal is s f = ok_not (w, n) f.0 (bits_at size bytes at) s.1 f.1
not_stuck Pads (Coded w) shape bytes run at n a refusal is s f = f
not_stuck Marker Restart shape bytes run at n a refusal is s f = ok_not s.0 refusal (restart_at bytes (interval_number shape (run.count - 1)) at.next) s.1 f
not_stuck (DcWord slot) Restart shape bytes run at n a refusal is s f = s
not_stuck (DcBits slot size) Restart shape bytes run at n a refusal is s f = s
not_stuck (AcWord slot left loose) Restart shape bytes run at n a refusal is s f = s
not_stuck (AcBits slot left size) Restart shape bytes run at n a refusal is s f = s
not_stuck Pads Restart shape bytes run at n a refusal is s f = s
not_stuck Marker (Coded w) shape bytes run at n a refusal is s f = s
not_stuck Over (Coded w) shape bytes run at n a refusal is s f = s
not_stuck Over Restart shape bytes run at n a refusal is s f = s
not_stuck (Wrong r) (Coded w) shape bytes run at n a refusal is s f = s
not_stuck (Wrong r) Restart shape bytes run at n a refusal is s f = s

-- items stop for one cause
same_stuck : (due : Due) (shape : Shape) (bytes : List ℕ) (run : Run) (at : Cursor) (r r' : ScanRefusal) → DueGood due → IsStuck shape bytes run due at r → IsStuck shape bytes run due at r' → r ≡ r'
same_stuck (DcWord slot) shape bytes run at r r' is f g =
    let v = value_at slot.codes.dc bytes at in
    f.2 ∙ ap code_refusal (err_is f.0 g.0 v v (fault_comes slot.codes.dc bytes at f.0 is.dc f.1) (fault_comes slot.codes.dc bytes at g.0 is.dc g.1) refl) ∙ sym g.2
same_stuck (DcBits slot size) shape bytes run at r r' is f g = f.2 ∙ ap bits_refusal (err_is f.0 g.0 (bits_at size bytes at) (bits_at size bytes at) f.1 g.1 refl) ∙ sym g.2
same_stuck (AcWord slot left loose) shape bytes run at r r' is f g =
    let v = value_at slot.codes.ac bytes at in
    f.2 ∙ ap code_refusal (err_is f.0 g.0 v v (fault_comes slot.codes.ac bytes at f.0 is.ac f.1) (fault_comes slot.codes.ac bytes at g.0 is.ac g.1) refl) ∙ sym g.2
same_stuck (AcBits slot left size) shape bytes run at r r' is f g = f.2 ∙ ap bits_refusal (err_is f.0 g.0 (bits_at size bytes at) (bits_at size bytes at) f.1 g.1 refl) ∙ sym g.2
same_stuck Pads shape bytes run at r r' is f g = absurd f
same_stuck Marker shape bytes run at r r' is f g = let v = restart_at bytes (interval_number shape (run.count - 1)) at.next in err_is r r' v v f g refl
same_stuck Over shape bytes run at r r' is f g = absurd f
same_stuck (Wrong refusal) shape bytes run at r r' is f g = f ∙ sym g

-- ---- lists of them

-- the same items from the same place
carry : (shape : Shape) (bytes : List ℕ) (a a' last : Stage) (n n' end : Cursor) (items : List Item) → a ≡ a' → n ≡ n' → Path shape bytes a' n' items last end → Path shape bytes a n items last end
carry shape bytes a a' last n n' end items e f p =
    subst (λ (s : Stage). Path shape bytes s n items last end) (sym e) (subst (λ (c : Cursor). Path shape bytes a' c items last end) (sym f) p)

stuck_here : (shape : Shape) (bytes : List ℕ) (stage last : Stage) (at end : Cursor) (r : ScanRefusal) → (stage ≡ last) × (at ≡ end) → IsStuck shape bytes last.run last.due end r → IsStuck shape bytes stage.run stage.due at r
stuck_here shape bytes stage last at end r e f =
    subst (λ (s : Stage). IsStuck shape bytes s.run s.due at r) (sym e.0) (subst (λ (c : Cursor). IsStuck shape bytes last.run last.due c r) (sym e.1) f)

pub longest : (others items : List Item) (shape : Shape) (bytes : List ℕ) (stage last d : Stage) (at end m : Cursor) (r : ScanRefusal) → IsShape shape → Good stage
    → Path shape bytes stage at items last end → IsStuck shape bytes last.run last.due end r → Path shape bytes stage at others d m → (more : List Item) × (items ≡ others ++ more)
longest [] items shape bytes stage last d at end m r is good p f q = (items, refl)
longest (o ∷ others) [] shape bytes stage last d at end m r is good p f q =
    absurd (not_stuck stage.due o shape bytes stage.run at q.1 q.0 r good.0 q.2 (stuck_here shape bytes stage last at end r p f))
longest (o ∷ others) (i ∷ items) shape bytes stage last d at end m r is good p f q =
    let e = same_step stage.due i o shape bytes stage.run at p.1 q.1 p.0 q.0 good.0 p.2 q.2 in
    let g = good_next stage.due i shape bytes stage.run at p.1 p.0 is good.0 good.1 p.2 in
    let l = longest others items shape bytes p.0 last d p.1 end m r is g p.3 f (carry shape bytes p.0 q.0 d p.1 q.1 m others e.stages e.cursors q.3) in
    (l.0, ap₂ (λ (x : Item) (xs : List Item). x ∷ xs) e.items l.1)

one_refusal : (items others : List Item) (shape : Shape) (bytes : List ℕ) (stage last d : Stage) (at end m : Cursor) (r r' : ScanRefusal) → IsShape shape → Good stage
    → Path shape bytes stage at items last end → IsStuck shape bytes last.run last.due end r → Path shape bytes stage at others d m → IsStuck shape bytes d.run d.due m r' → r ≡ r'
one_refusal [] [] shape bytes stage last d at end m r r' is good p f q g =
    same_stuck stage.due shape bytes stage.run at r r' good.0 (stuck_here shape bytes stage last at end r p f) (stuck_here shape bytes stage d at m r' q g)
one_refusal [] (o ∷ others) shape bytes stage last d at end m r r' is good p f q g =
    absurd (not_stuck stage.due o shape bytes stage.run at q.1 q.0 r good.0 q.2 (stuck_here shape bytes stage last at end r p f))
one_refusal (i ∷ items) [] shape bytes stage last d at end m r r' is good p f q g =
    absurd (not_stuck stage.due i shape bytes stage.run at p.1 p.0 r' good.0 p.2 (stuck_here shape bytes stage d at m r' q g))
one_refusal (i ∷ items) (o ∷ others) shape bytes stage last d at end m r r' is good p f q g =
    let e = same_step stage.due i o shape bytes stage.run at p.1 q.1 p.0 q.0 good.0 p.2 q.2 in
    let h = good_next stage.due i shape bytes stage.run at p.1 p.0 is good.0 good.1 p.2 in
    one_refusal items others shape bytes p.0 last d p.1 end m r r' is h p.3 f (carry shape bytes p.0 q.0 d p.1 q.1 m others e.stages e.cursors q.3) g

none_over : (due : Due) (i : Item) (shape : Shape) (bytes : List ℕ) (run : Run) (at n : Cursor) (a : Stage) → due ≡ Over → Stands shape bytes run due at i a n → ⊥
none_over due (Coded w) shape bytes run at n a e s = subst (λ (d : Due). Stands shape bytes run d at (Coded w) a n) e s
none_over due Restart shape bytes run at n a e s = subst (λ (d : Due). Stands shape bytes run d at Restart a n) e s

not_over : (due : Due) (shape : Shape) (bytes : List ℕ) (run : Run) (at : Cursor) (r : ScanRefusal) → due ≡ Over → IsStuck shape bytes run due at r → ⊥
not_over due shape bytes run at r e f = subst (λ (d : Due). IsStuck shape bytes run d at r) e f

never_both : (items others : List Item) (shape : Shape) (bytes : List ℕ) (stage last d : Stage) (at end m : Cursor) (r : ScanRefusal) → IsShape shape → Good stage
    → Path shape bytes stage at items last end → IsStuck shape bytes last.run last.due end r → Path shape bytes stage at others d m → d.due ≡ Over → ⊥
never_both [] [] shape bytes stage last d at end m r is good p f q over =
    not_over stage.due shape bytes stage.run at r (ap (λ (s : Stage). s.due) q.0 ∙ over) (stuck_here shape bytes stage last at end r p f)
never_both [] (o ∷ others) shape bytes stage last d at end m r is good p f q over =
    not_stuck stage.due o shape bytes stage.run at q.1 q.0 r good.0 q.2 (stuck_here shape bytes stage last at end r p f)
never_both (i ∷ items) [] shape bytes stage last d at end m r is good p f q over =
    none_over stage.due i shape bytes stage.run at p.1 p.0 (ap (λ (s : Stage). s.due) q.0 ∙ over) p.2
never_both (i ∷ items) (o ∷ others) shape bytes stage last d at end m r is good p f q over =
    let e = same_step stage.due i o shape bytes stage.run at p.1 q.1 p.0 q.0 good.0 p.2 q.2 in
    let h = good_next stage.due i shape bytes stage.run at p.1 p.0 is good.0 good.1 p.2 in
    never_both items others shape bytes p.0 last d p.1 end m r is h p.3 f (carry shape bytes p.0 q.0 d p.1 q.1 m others e.stages e.cursors q.3) over

good_first : (shape : Shape) → IsShape shape → Good (first_stage shape)
good_first shape is = good_slots shape.slots (record { slots = []; before = no_dcs; count = 0; pads = [] }) is.slots

pub one_outcome : (shape : Shape) (bytes : List ℕ) (place after : ℕ) (pads : List Bool) (refusal other : ScanRefusal) → IsShape shape → Refuses shape bytes place refusal
    → (Refuses shape bytes place other → refusal ≡ other) × (IsOverAt shape bytes place pads after → ⊥)
one_outcome shape bytes place after pads refusal other is r = (
  λ s. one_refusal r.items s.items shape bytes (first_stage shape) r.last s.last (starting place 0) r.end s.end refusal other is (good_first shape is) r.path r.stuck s.path s.stuck,
  λ s. never_both r.items s.items shape bytes (first_stage shape) r.last s.last (starting place 0) r.end s.end refusal is (good_first shape is) r.path r.stuck s.path s.over,
)

pub is_longest : (shape : Shape) (bytes : List ℕ) (place : ℕ) (items others : List Item) (last stage : Stage) (end at : Cursor) (refusal : ScanRefusal) → IsShape shape
    → Path shape bytes (first_stage shape) (starting place 0) items last end → IsStuck shape bytes last.run last.due end refusal
    → Path shape bytes (first_stage shape) (starting place 0) others stage at → (more : List Item) × (items ≡ others ++ more)
is_longest shape bytes place items others last stage end at refusal is p f q =
    longest others items shape bytes (first_stage shape) last stage (starting place 0) end at refusal is (good_first shape is) p f q
