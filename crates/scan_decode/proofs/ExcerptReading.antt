-- MCUs that are read wherever in a scan they are: DCs before them that all differ by as much are no other to read.
use Rattle.std.proofs.Common.{◌≡◌, ℕ, zero, suc, ◌+◌, ◌*◌, ◌<◌, ◌≤◌, Bool, true, false, ◌==◌, if◌then◌else◌, List, [], ◌∷◌, ◌++◌, length, get_or, set, map, ℤ, pos, ◌+ℤ◌, unsigned_abs, Ok, Err, refl, sym, ap, ap₂, ◌∙◌, subst, arith, append_assoc}
use Rattle.std.specs.Prelude.{nat_le}
use Rattle.std.specs.List.{All}
use Rattle.std.specs.Int.{w16}
use Rattle.std.proofs.lemmas.Bool.{false_from_ne_true, eqb-true}
use Rattle.std.proofs.lemmas.Bool.Decides.{nat_tests}
use Rattle.std.proofs.lemmas.Int.{ints}
use Rattle.std.proofs.Math.IntN.{+ℤ_assoc, +ℤ_idr}
use Rattle.std.proofs.lemmas.List.{length-set}
use Rattle.std.proofs.lemmas.List.Elements.{All-map, All-push, All-set}
use mir.Val.{to_z, of_z}
use Rattle.bit_list.specs.Units.{Cursor}
use Rattle.jpeg_marker.specs.HuffmanTables.{TableFields}
use Rattle.scan_spec.specs.BlockBits.{coefficient_at}
use Rattle.scan_spec.specs.Blocks.{last_dc}
use Rattle.scan_spec.specs.Slots.{Shape}
use Rattle.scan_spec.specs.Spots.{is_closed}
use Rattle.scan_spec.specs.ScanReading.{and_then, symbol_at, extended_at, difference_at, within_dc, dc_at, acs_at, prefixed_values, block_at, blocks_at, BlocksRead, dcs_after_read, Standing, after_mcu, mcu_at, mcus_at, pads_at, after_pads}
use Rattle.scan_spec.specs.declared.slot.Slot.{Slot}
use Rattle.scan_spec.specs.declared.refusal.ScanRefusal.TheVariants as refusals
use Rattle.scan_spec.proofs.AcsRead.{below_power, extended_fine, after_fine}
use Rattle.scan_spec.proofs.BitsTaken.{fine, is_fine, both_fine, then_fine, not_refused}
use Rattle.scan_spec.proofs.ScanTaken.{mcu_again, mcus_fine, mcus_more, no_mcus}
use Rattle.scan_spec.proofs.SignedValues.{kept_half}
use Rattle.scan_spec.specs.ShapeInside.{slot_in}
use Rattle.coef_block.specs.Block.{IsDc}
use Rattle.huff_table.specs.declared.plan_codes.ComponentCodes.{ComponentCodes}
use Rattle.scan_decode.specs.Excerpts.{added, IsNear, IsChange, standing_in, AreAnywhere}

-- ---- sums

abs_sum : (x y : ℤ) → unsigned_abs (x +ℤ y) ≤ unsigned_abs x + unsigned_abs y
abs_sum x y = omega (arith, ints)

-- ---- changed DCs, one by one

pub added_long : (dcs change : List ℤ) → length (added dcs change) ≡ length dcs
unfolding added
added_long [] change = refl
added_long (dc ∷ dcs) [] = refl
added_long (dc ∷ dcs) (more ∷ change) = ap suc (added_long dcs change)

added_at : (dcs change : List ℤ) (k : ℕ) → k < length dcs → k < length change → get_or (added dcs change) k (pos 0) ≡ get_or dcs k (pos 0) +ℤ get_or change k (pos 0)
unfolding added
added_at [] change k in_dcs in_change = absurd (omega (arith, in_dcs))
added_at (dc ∷ dcs) [] k in_dcs in_change = absurd (omega (arith, in_change))
added_at (dc ∷ dcs) (more ∷ change) zero in_dcs in_change = refl
added_at (dc ∷ dcs) (more ∷ change) (suc k) in_dcs in_change = added_at dcs change k (omega (arith, in_dcs)) (omega (arith, in_change))

added_set : (dcs change : List ℤ) (k : ℕ) (v : ℤ) → k < length dcs → k < length change → set (added dcs change) k (get_or dcs k (pos 0) +ℤ v) ≡ added dcs (set change k v)
unfolding added
added_set [] change k v in_dcs in_change = absurd (omega (arith, in_dcs))
added_set (dc ∷ dcs) [] k v in_dcs in_change = absurd (omega (arith, in_change))
added_set (dc ∷ dcs) (more ∷ change) zero v in_dcs in_change = refl
added_set (dc ∷ dcs) (more ∷ change) (suc k) v in_dcs in_change =
    ap (λ (l : List ℤ). (dc +ℤ more) ∷ l) (added_set dcs change k v (omega (arith, in_dcs)) (omega (arith, in_change)))

-- ---- a DC

record DcMoved (table : TableFields) (base change : ℤ) (bytes : List ℕ) (cursor to : Cursor) (dc : ℤ) : Type 0 where
  is : dc_at table (base +ℤ change) bytes cursor ≡ Ok (base +ℤ dc, to)
  small : unsigned_abs dc ≤ unsigned_abs change + 2047

-- a difference, by the bits of its category
difference_small : (bytes : List ℕ) (size : ℕ × Cursor) (more : ℤ × Cursor) → difference_at bytes size ≡ Ok more → unsigned_abs more.0 ≤ 2047
difference_small bytes size more e = elim (nat_le size.0 11) as
    (λ t. nat_le size.0 11 ≡ t → (if t then extended_at size.0 bytes size.1 else Err (refusals.SymbolBad size.1.last)) ≡ Ok more → unsigned_abs more.0 ≤ 2047) [
      | true ↦ λ t h.
          let few : size.0 ≤ 11 = grind (arith, nat_tests) in
          let f = extended_fine size.0 bytes size.1 more h in
          let long = f.1 in
          let below = below_power f.0 11 (omega (arith, long, few)) in
          subst (λ (z : ℤ). unsigned_abs z ≤ 2047) (sym f.3) (omega (arith, below))
      | false ↦ λ t h. absurd (not_refused (refusals.SymbolBad size.1.last) more h)
    ] refl e

within_is : (dc : ℤ) (cursor : Cursor) (x : ℤ × Cursor) → within_dc dc cursor ≡ Ok x → (dc ≡ x.0) × (cursor ≡ x.1)
within_is dc cursor x e = elim (nat_le (unsigned_abs dc) 32767) as
    (λ t. (if t then Ok (dc, cursor) else Err (refusals.DcRange cursor.last)) ≡ Ok x → (dc ≡ x.0) × (cursor ≡ x.1)) [
      | true ↦ λ h. both_fine (dc, cursor) x h
      | false ↦ λ h. absurd (not_refused (refusals.DcRange cursor.last) x h)
    ] e

is_within : (dc : ℤ) (cursor : Cursor) → unsigned_abs dc ≤ 32767 → within_dc dc cursor ≡ Ok (dc, cursor)
is_within dc cursor small =
    let test : nat_le (unsigned_abs dc) 32767 ≡ true = grind (arith, nat_tests) in
    ap (λ (t : Bool). if t then fine (dc, cursor) else Err (refusals.DcRange cursor.last)) test

dc_moved : (table : TableFields) (base change : ℤ) (bytes : List ℕ) (cursor : Cursor) (x : ℤ × Cursor) → unsigned_abs base + unsigned_abs change + 2047 ≤ 32767
    → dc_at table change bytes cursor ≡ Ok x → DcMoved table base change bytes cursor x.1 x.0
unfolding dc_at
dc_moved table base change bytes cursor x room e =
    let s = then_fine (symbol_at table bytes cursor) (λ size. and_then (difference_at bytes size) (λ more. within_dc (change +ℤ more.0) more.1)) x e in
    let d = then_fine (difference_at bytes s.0) (λ more. within_dc (change +ℤ more.0) more.1) x s.2 in
    let w = within_is (change +ℤ d.0.0) d.0.1 x d.2 in
    let few = difference_small bytes s.0 d.0 d.1 in
    let small : unsigned_abs x.0 ≤ unsigned_abs change + 2047 = subst (λ (z : ℤ). unsigned_abs z ≤ unsigned_abs change + 2047) w.0 (let a = abs_sum change d.0.0 in omega (arith, a, few)) in
    let sum : (base +ℤ change) +ℤ d.0.0 ≡ base +ℤ x.0 = +ℤ_assoc base change d.0.0 ∙ ap (λ (z : ℤ). base +ℤ z) w.0 in
    let whole : unsigned_abs (base +ℤ x.0) ≤ 32767 = let a = abs_sum base x.0 in omega (arith, a, small, room) in
    record {
      is = ap (λ r. and_then {A = ℕ × Cursor} {B = ℤ × Cursor} r (λ size. and_then (difference_at bytes size) (λ more. within_dc ((base +ℤ change) +ℤ more.0) more.1))) s.1
          ∙ ap (λ r. and_then {A = ℤ × Cursor} {B = ℤ × Cursor} r (λ more. within_dc ((base +ℤ change) +ℤ more.0) more.1)) d.1
          ∙ ap₂ (λ (z : ℤ) (c : Cursor). within_dc z c) sum w.1
          ∙ is_within (base +ℤ x.0) x.1 whole;
      small = small;
    }

-- ---- a block

record BlockMoved (slot : Slot) (before moved : List ℤ) (base : ℤ) (bytes : List ℕ) (cursor to : Cursor) (block : List ℤ) : Type 0 where
  other : List ℤ
  is : block_at slot moved bytes cursor ≡ Ok (other, to)
  first : coefficient_at other 0 ≡ base +ℤ coefficient_at block 0
  small : unsigned_abs (coefficient_at block 0) ≤ unsigned_abs (last_dc before slot) + 2047

block_moved : (slot : Slot) (before moved : List ℤ) (base : ℤ) (bytes : List ℕ) (cursor : Cursor) (x : List ℤ × Cursor) → last_dc moved slot ≡ base +ℤ last_dc before slot
    → unsigned_abs base + unsigned_abs (last_dc before slot) + 2047 ≤ 32767 → block_at slot before bytes cursor ≡ Ok x → BlockMoved slot before moved base bytes cursor x.1 x.0
unfolding block_at
block_moved slot before moved base bytes cursor x by room e =
    let d = then_fine (dc_at slot.codes.dc (last_dc before slot) bytes cursor) (λ dc. prefixed_values (dc.0 ∷ []) (acs_at 63 slot.codes.ac 63 false bytes dc.1)) x e in
    let m = dc_moved slot.codes.dc base (last_dc before slot) bytes cursor d.0 room d.1 in
    let a = after_fine (d.0.0 ∷ []) (acs_at 63 slot.codes.ac 63 false bytes d.0.1) x d.2 in
    let first : coefficient_at x.0 0 ≡ d.0.0 = ap (λ (l : List ℤ). coefficient_at l 0) a.2 in
    record {
      other = (base +ℤ d.0.0) ∷ a.0;
      is = ap (λ (z : ℤ). and_then (dc_at slot.codes.dc z bytes cursor) (λ dc. prefixed_values (dc.0 ∷ []) (acs_at 63 slot.codes.ac 63 false bytes dc.1))) by
          ∙ ap (λ r. and_then {A = ℤ × Cursor} {B = List ℤ × Cursor} r (λ dc. prefixed_values (dc.0 ∷ []) (acs_at 63 slot.codes.ac 63 false bytes dc.1))) m.is
          ∙ ap (prefixed_values ((base +ℤ d.0.0) ∷ [])) a.1;
      first = ap (λ (z : ℤ). base +ℤ z) (sym first);
      small = subst (λ (z : ℤ). unsigned_abs z ≤ unsigned_abs (last_dc before slot) + 2047) (sym first) m.small;
    }

-- ---- the blocks of an MCU

abbrev Within : ℕ → ℤ → Type 0
Within most dc = unsigned_abs dc ≤ most

abbrev pub IsSlot : Slot → Type 0
IsSlot slot = slot.component < 4

-- what is the same of the first and of the others
first_slot : (slot : Slot) (slots : List Slot) → All IsSlot (slot ∷ slots) → slot.component < 4
first_slot slot slots each = each 0 slot (omega arith)

other_slots : (slot : Slot) (slots : List Slot) → All IsSlot (slot ∷ slots) → All IsSlot slots
other_slots slot slots each = λ k d below. each (suc k) d (omega (arith, below))

wider : (most more : ℕ) (dcs : List ℤ) → most ≤ more → All (Within most) dcs → All (Within more) dcs
wider most more dcs le each = λ k d below. let a = each k d below in omega (arith, a, le)

record BlocksMoved (slots : List Slot) (base change : List ℤ) (bytes : List ℕ) (cursor : Cursor) (read : BlocksRead) : Type 0 where
  blocks : List (List ℤ)
  is : blocks_at slots (added base change) bytes cursor ≡ Ok (record { blocks = blocks; before = added base read.before; cursor = read.cursor })
  long : length read.before ≡ length change

blocks_moved : (slots : List Slot) (base change : List ℤ) (most : ℕ) (bytes : List ℕ) (cursor : Cursor) (read : BlocksRead) → length base ≡ 4 → length change ≡ 4 → All IsNear base → All (Within most) change → All IsSlot slots
    → most + 2047 * length slots + 4096 ≤ 32767 → blocks_at slots change bytes cursor ≡ Ok read → BlocksMoved slots base change bytes cursor read
unfolding blocks_at
blocks_moved [] base change most bytes cursor read four also near few each room e =
    let same = is_fine (record { blocks = []; before = change; cursor = cursor }) read e in
    record {
      blocks = [];
      is = ap₂ (λ (l : List ℤ) (c : Cursor). fine (record { blocks = []; before = added base l; cursor = c })) (ap (λ (r : BlocksRead). r.before) same) (ap (λ (r : BlocksRead). r.cursor) same);
      long = ap (λ (r : BlocksRead). length r.before) (sym same);
    }
blocks_moved (slot ∷ slots) base change most bytes cursor read four also near few each room e =
    let k = slot.component in
    let below = first_slot slot slots each in
    let in_base : k < length base = omega (arith, below, four) in
    let in_change : k < length change = omega (arith, below, also) in
    let by = added_at base change k in_base in_change in
    let dc = get_or change k (pos 0) in
    let small : unsigned_abs dc ≤ most = few k (pos 0) in_change in
    let start : unsigned_abs (get_or base k (pos 0)) ≤ 4096 = near k (pos 0) in_base in
    let b = then_fine (block_at slot change bytes cursor) (λ block. and_then (blocks_at slots (dcs_after_read change slot block.0) bytes block.1) (λ more. Ok (record more { blocks = block.0 ∷ more.blocks }))) read e in
    let m = block_moved slot change (added base change) (get_or base k (pos 0)) bytes cursor b.0 by (omega (arith, small, start, room)) b.1 in
    let r = then_fine (blocks_at slots (dcs_after_read change slot b.0.0) bytes b.0.1) (λ more. fine (record more { blocks = b.0.0 ∷ more.blocks })) read b.2 in
    let value = coefficient_at b.0.0 0 in
    let next = set change k value in
    let slight : unsigned_abs value ≤ most + 2047 = let s = m.small in omega (arith, s, small) in
    let all = All-set (Within (most + 2047)) change k value slight (wider most (most + 2047) change (omega arith) few) in
    let t = blocks_moved slots base next (most + 2047) bytes b.0.1 r.0 four (length-set change k value ∙ also) near all (other_slots slot slots each) (omega (arith, room)) r.1 in
    let same = is_fine (record r.0 { blocks = b.0.0 ∷ r.0.blocks }) read r.2 in
    let moved : dcs_after_read (added base change) slot m.other ≡ added base next =
    ap (λ (z : ℤ). set (added base change) k z) m.first ∙ added_set base change k value in_base in_change in
    record {
      blocks = m.other ∷ t.blocks;
      is = ap (λ r. and_then {A = List ℤ × Cursor} {B = BlocksRead} r (λ block. and_then (blocks_at slots (dcs_after_read (added base change) slot block.0) bytes block.1) (λ more. Ok (record more { blocks = block.0 ∷ more.blocks })))) m.is
          ∙ ap (λ (l : List ℤ). and_then (blocks_at slots l bytes b.0.1) (λ more. Ok (record more { blocks = m.other ∷ more.blocks }))) moved
          ∙ ap (λ r. and_then {A = BlocksRead} {B = BlocksRead} r (λ more. Ok (record more { blocks = m.other ∷ more.blocks }))) t.is
          ∙ ap₂ (λ (l : List ℤ) (c : Cursor). fine (record { blocks = m.other ∷ t.blocks; before = added base l; cursor = c })) (ap (λ (r : BlocksRead). r.before) same) (ap (λ (r : BlocksRead). r.cursor) same);
      long = ap (λ (r : BlocksRead). length r.before) (sym same) ∙ t.long ∙ length-set change k value;
    }

-- ---- MCUs

-- an MCU after others
mcu_last : (n : ℕ) (shape : Shape) (bytes : List ℕ) (at mid end : Standing) (mcus : List (List (List ℤ))) (last : List (List ℤ)) → mcus_at n shape bytes at ≡ Ok (mcus, mid) → mcu_at shape bytes mid ≡ Ok (last, end)
    → mcus_at (suc n) shape bytes at ≡ Ok (mcus ++ last ∷ [], end)
mcu_last zero shape bytes at mid end mcus last e f =
    let same = both_fine ([], at) (mcus, mid) (sym (no_mcus shape bytes at) ∙ e) in
    mcus_more 0 shape bytes at end end last [] (ap (mcu_at shape bytes) same.1 ∙ f) (no_mcus shape bytes end) ∙ ap (λ (l : List (List (List ℤ))). fine (l ++ last ∷ [], end)) same.0
mcu_last (suc n) shape bytes at mid end mcus last e f =
    let p = mcus_fine n shape bytes at (mcus, mid) e in
    mcus_more (suc n) shape bytes at p.next end p.first (p.more ++ last ∷ []) p.one (mcu_last n shape bytes p.next mid end p.more last p.others f)
    ∙ ap (λ (l : List (List (List ℤ))). fine (l ++ last ∷ [], end)) (sym p.same)

-- no interval of a scan without restarts ends before its last MCU
still_open : (shape : Shape) (count : ℕ) → shape.interval ≡ 0 → count < shape.mcus → is_closed shape count ≡ false
still_open shape count whole below =
    let first : (count == shape.mcus) ≡ false = false_from_ne_true (count == shape.mcus) (λ z. let h = eqb-true count shape.mcus z in omega (arith, h, below)) in
    rw (first, whole) refl

pub none_anywhere : (shape : Shape) (bytes : List ℕ) (cursor : Cursor) → AreAnywhere 0 shape bytes cursor cursor (pos 0 ∷ pos 0 ∷ pos 0 ∷ pos 0 ∷ [])
unfolding added
none_anywhere shape bytes cursor = λ before count four near more.
    ([], no_mcus shape bytes (standing_in cursor before count) ∙ ap₂ (λ (l : List ℤ) (n : ℕ). fine ([], standing_in cursor l n)) (sym (unmoved before four)) (omega arith)) where
      unmoved : (dcs : List ℤ) → length dcs ≡ 4 → added dcs (pos 0 ∷ pos 0 ∷ pos 0 ∷ pos 0 ∷ []) ≡ dcs
      unmoved (a ∷ b ∷ c ∷ d ∷ []) four = rw (+ℤ_idr a, +ℤ_idr b, +ℤ_idr c, +ℤ_idr d) refl
      unmoved [] four = absurd (omega (arith, four))
      unmoved (a ∷ []) four = absurd (omega (arith, four))
      unmoved (a ∷ b ∷ []) four = absurd (omega (arith, four))
      unmoved (a ∷ b ∷ c ∷ []) four = absurd (omega (arith, four))
      unmoved (a ∷ b ∷ c ∷ d ∷ e ∷ more) four = absurd (omega (arith, four))

pub one_anywhere : (n : ℕ) (shape : Shape) (bytes : List ℕ) (from mid : Cursor) (change : List ℤ) (read : BlocksRead) → shape.interval ≡ 0 → length change ≡ 4 → All IsChange change → All IsSlot shape.slots → length shape.slots ≤ 10
    → AreAnywhere n shape bytes from mid change → blocks_at shape.slots change bytes mid ≡ Ok read → AreAnywhere (n + 1) shape bytes from read.cursor read.before
one_anywhere n shape bytes from mid change read whole four slight each few are e = λ before count long near more.
    let others = are before count long near (omega (arith, more)) in
    let m = blocks_moved shape.slots before change 8192 bytes mid read long four near slight each (omega (arith, few)) e in
    let moved : BlocksRead = record { blocks = m.blocks; before = added before read.before; cursor = read.cursor } in
    let at = standing_in mid (added before change) (count + n) in
    let next = standing_in read.cursor (added before read.before) (count + n + 1) in
    let open_still = still_open shape (count + n + 1) whole (omega (arith, more)) in
    let after : after_mcu shape bytes at moved ≡ Ok next =
    ap (λ (t : Bool). if t then and_then (pads_at moved.cursor) (after_pads shape bytes at.count) else fine next) open_still in
    let one = mcu_again shape bytes at next moved m.is after in
    let sum : suc n ≡ n + 1 = omega arith in
    let count_is : count + n + 1 ≡ count + (n + 1) = omega arith in (
      others.0 ++ m.blocks ∷ [],
      sym (ap (λ (k : ℕ). mcus_at k shape bytes (standing_in from before count)) sum)
          ∙ mcu_last n shape bytes (standing_in from before count) at next others.0 m.blocks others.1 one
          ∙ ap (λ (k : ℕ). fine (others.0 ++ m.blocks ∷ [], standing_in read.cursor (added before read.before) k)) count_is,
    )

-- ---- in the machine

-- four sums of halves
sum_of_halves : (x y : ℤ) → unsigned_abs x ≤ 4096 → unsigned_abs y ≤ 8192 → to_z w16 (of_z w16 (to_z w16 (of_z w16 x) +ℤ to_z w16 (of_z w16 y))) ≡ x +ℤ y
sum_of_halves x y near slight =
    ap₂ (λ (a b : ℤ). to_z w16 (of_z w16 (a +ℤ b))) (kept_half x (omega (arith, near))) (kept_half y (omega (arith, slight)))
    ∙ kept_half (x +ℤ y) (let a = abs_sum x y in omega (arith, a, near, slight))

abbrev half_at : List ℤ → List ℤ → ℕ → ℤ
half_at dcs change k = to_z w16 (of_z w16 (to_z w16 (of_z w16 (get_or dcs k (pos 0))) +ℤ to_z w16 (of_z w16 (get_or change k (pos 0)))))

-- a list of four
four_of : (xs : List ℤ) → length xs ≡ 4 → get_or xs 0 (pos 0) ∷ get_or xs 1 (pos 0) ∷ get_or xs 2 (pos 0) ∷ get_or xs 3 (pos 0) ∷ [] ≡ xs
four_of (a ∷ b ∷ c ∷ d ∷ []) four = refl
four_of [] four = absurd (omega (arith, four))
four_of (a ∷ []) four = absurd (omega (arith, four))
four_of (a ∷ b ∷ []) four = absurd (omega (arith, four))
four_of (a ∷ b ∷ c ∷ []) four = absurd (omega (arith, four))
four_of (a ∷ b ∷ c ∷ d ∷ e ∷ more) four = absurd (omega (arith, four))

pub sums_in_halves : (dcs change : List ℤ) → length dcs ≡ 4 → length change ≡ 4 → All IsNear dcs → All IsChange change
    → half_at dcs change 0 ∷ half_at dcs change 1 ∷ half_at dcs change 2 ∷ half_at dcs change 3 ∷ [] ≡ added dcs change
sums_in_halves dcs change four also near slight =
    ap₂ (λ (a b : ℤ). a ∷ b ∷ half_at dcs change 2 ∷ half_at dcs change 3 ∷ []) (at 0 (omega arith)) (at 1 (omega arith))
    ∙ ap₂ (λ (a b : ℤ). get_or sums 0 (pos 0) ∷ get_or sums 1 (pos 0) ∷ a ∷ b ∷ []) (at 2 (omega arith)) (at 3 (omega arith))
    ∙ four_of sums (added_long dcs change ∙ four) where
      sums : List ℤ
      sums = added dcs change

      at : (k : ℕ) → k < 4 → half_at dcs change k ≡ get_or (added dcs change) k (pos 0)
      at k below =
          let in_dcs : k < length dcs = omega (arith, below, four) in
          let in_change : k < length change = omega (arith, below, also) in
          sum_of_halves (get_or dcs k (pos 0)) (get_or change k (pos 0)) (near k (pos 0) in_dcs) (slight k (pos 0) in_change) ∙ sym (added_at dcs change k in_dcs in_change)

-- DCs after a change are some that blocks can have
pub added_small : (dcs change : List ℤ) → All IsNear dcs → All IsChange change → All IsDc (added dcs change)
unfolding added
added_small dcs change near slight = λ k d below. small dcs change near slight k d below where
  small : (dcs change : List ℤ) → All IsNear dcs → All IsChange change → (k : ℕ) (d : ℤ) → k < length (added dcs change) → unsigned_abs (get_or (added dcs change) k d) ≤ 32767
  small [] change near slight k d below = absurd (omega (arith, below))
  small (dc ∷ dcs) [] near slight k d below = let n = near k d below in omega (arith, n)
  small (dc ∷ dcs) (more ∷ change) near slight zero d below =
      let n = near 0 d (omega arith) in
      let s = slight 0 d (omega arith) in
      let a = abs_sum dc more in
      omega (arith, a, n, s)
  small (dc ∷ dcs) (more ∷ change) near slight (suc k) d below =
      small dcs change (λ i e in'. near (suc i) e (omega (arith, in'))) (λ i e in'. slight (suc i) e (omega (arith, in'))) k d (omega (arith, below))

pub no_change : All IsChange (pos 0 ∷ pos 0 ∷ pos 0 ∷ pos 0 ∷ [])
no_change = λ k d below. small k d (omega (arith, below)) where
  small : (k : ℕ) (d : ℤ) → k < 4 → unsigned_abs (get_or (pos 0 ∷ pos 0 ∷ pos 0 ∷ pos 0 ∷ []) k d) ≤ 8192
  small zero d below = omega arith
  small (suc zero) d below = omega arith
  small (suc (suc zero)) d below = omega arith
  small (suc (suc (suc zero))) d below = omega arith
  small (suc (suc (suc (suc k)))) d below = absurd (omega (arith, below))

pub slots_within : (codes : List ComponentCodes) (slots : List ℕ) → length codes ≤ 4 → All (λ slot. slot < length codes) slots → All IsSlot (map (slot_in codes) slots)
slots_within codes slots few within = All-map IsSlot (slot_in codes) slots (λ i d below. let w = within i d below in omega (arith, w, few))

-- a list with one item more, or as it was
pub pushed : {X : Type 0} (P : X → Type 0) (start old new more : List X) (item : X) (done : Bool) → new ≡ (if done then old ++ item ∷ [] else old) → old ≡ start ++ more → All P old → P item
    → All P new × ((others : List X) × (new ≡ start ++ others))
pushed P start old new more item true e is all one =
    (subst (All P) (sym e) (All-push P old item all one), (more ++ item ∷ [], e ∙ ap (λ l. l ++ item ∷ []) is ∙ append_assoc start more (item ∷ [])))
pushed P start old new more item false e is all one = (subst (All P) (sym e) all, (more, e ∙ is))
