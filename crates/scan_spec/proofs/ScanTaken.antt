-- A scan that is read has the text that stands there, the text is read again, and so bytes tell the scan.
use Rattle.std.proofs.Common.{◌≡◌, ℕ, zero, suc, ◌+◌, ◌<◌, ◌≤◌, Bool, true, false, ◌==◌, ◌||◌, if◌then◌else◌, List, [], ◌∷◌, ◌++◌, length, map, drop, replicate, ℤ, Option, Some, None, Result, Ok, refl, sym, ap, ap₂, ◌∙◌, subst, arith, append-nil, length-append, length-drop}
use Rattle.std.specs.Prelude.{unwrap_or}
use Rattle.std.specs.List.{AllByRecursion, onto_first}
use Rattle.std.proofs.lemmas.Bool.{eqb-true, eq-eqb, false_from_ne_true}
use Rattle.std.proofs.lemmas.List.{drop_at}
use Rattle.std.proofs.Math.Nat.{zero-div}
use Rattle.coef_block.specs.Block.{IsBlock}
use Rattle.bit_list.specs.Bits.{IsByte}
use Rattle.bit_list.specs.Units.{Cursor, starting}
use Rattle.scan_spec.specs.Blocks.{blocks_text, dcs_after}
use Rattle.handover.specs.PadSums.{pads_with}
use Rattle.scan_spec.specs.Pads.{Same, interval_sum, bits_sum}
use Rattle.scan_spec.specs.Slots.{Shape}
use Rattle.scan_spec.specs.Scans.{Mcu, no_dcs, mcus_bits, restart_marker, ends_interval, intervals_after, intervals_of, intervals_bytes, scan_bytes, IsMcu, ArePads, pad_at, IsScan, pad_bits_of, pad_counts}
use Rattle.scan_spec.specs.Spots.{interval_number}
use Rattle.scan_spec.specs.ScanReading.{and_then, BlocksRead, blocks_at, Standing, standing_at, pads_at, after_mcu, mcu_at, mcus_at, scan_at}
use Rattle.scan_spec.specs.BlockBits.{in_zigzag}
use Rattle.scan_spec.specs.ScanSymbols.{restart_at}
use Rattle.scan_spec.specs.ScanPads.{pad_told, pads_told, scan_pads, pad_sum, sum_told, scan_sum}
use Rattle.scan_spec.specs.ScanLaws.{IsShape, Begins, zigzag_of, IsSpelled, IsReadAgain, IsSummed, OneScan}
use Rattle.scan_spec.specs.declared.slot.Slot.{Slot}
use Rattle.scan_spec.specs.declared.refusal.ScanRefusal.{ScanRefusal}
use Rattle.scan_spec.proofs.Cuts.{text_in_parts}
use Rattle.scan_spec.proofs.PadsTold.{Follows, follows_all, pads_more, no_pads_told, told_by, sums_more, no_sum_told, sum_by}
use Rattle.scan_spec.proofs.PutWhole.{number_next_of, number_same_of, intervals_some, slots_for}
use Rattle.scan_spec.proofs.BitsTaken.{Takes, takes_split, fine, is_fine, both_fine, then_fine}
use Rattle.scan_spec.proofs.AcsAgain.{text_parts}
use Rattle.scan_spec.proofs.ZigzagLaws.{zigzag_tells}
use Rattle.scan_spec.proofs.BlocksTaken.{McuTaken, blocks_read, blocks_again}
use Rattle.scan_spec.proofs.Intervals.{Agrees, pad_after, none_told, pad_is, pads_read, pads_fine, pads_are, restart_fine, restart_again}
use Rattle.scan_spec.proofs.Rests.{blocks_in, Later, Rest, RestOf, HasTextAt, TextOf, text_of_rest, rest_of_text, closed_rest, onto_rest}

-- ---- after the blocks of an MCU

abbrev pub place_standing : ℕ → ℕ → Option Bool → Standing
place_standing place count known = record { cursor = starting place 0; before = no_dcs; count = count + 1; pad = known }

abbrev pub over_standing : Cursor → ℕ → Option Bool → Standing
over_standing cursor count known = record { cursor = cursor; before = no_dcs; count = count + 1; pad = known }

abbrev pub on_standing : Cursor → List ℤ → ℕ → Standing
on_standing cursor before count = record { cursor = cursor; before = before; count = count + 1; pad = None }

abbrev pub end_by : Bool → Bool → Shape → List ℕ → Standing → BlocksRead → Result Standing ScanRefusal
end_by over ends shape bytes s read =
    if over || ends
    then (and_then (pads_at read.cursor) (λ padded. if over then Ok (over_standing padded.1 s.count padded.0)
    else and_then (restart_at bytes (interval_number shape s.count) padded.1.next) (λ place. Ok (place_standing place s.count padded.0))))
    else Ok (on_standing read.cursor read.before s.count)

-- pad bits that were read
pub record PadsTaken (cursor : Cursor) (pad : Bool) (next : Option Bool) : Type 0 where
  pub k : ℕ
  pub left : cursor.left ≡ replicate k pad
  pub next_is : next ≡ pad_after None k pad

pads_taken : (cursor : Cursor) (x : Option Bool × Cursor) (pad : Bool) → pads_at cursor ≡ Ok x → Agrees x.0 pad → PadsTaken cursor pad x.0
pads_taken cursor x pad e a =
    let f = pads_fine cursor x e in
    let p = pads_read cursor.left None x.0 pad f.0 a in
    record { k = length cursor.left; left = p.1; next_is = p.2 }

-- the last MCU
pub record EndTaken (s : Standing) (read : BlocksRead) (pad : Bool) (end : Standing) : Type 0 where
  pub pads : PadsTaken read.cursor pad end.pad
  pub is : end ≡ over_standing (record read.cursor { left = [] }) s.count end.pad
  pub next : end.cursor.next ≡ read.cursor.next

pub end_taken : (ends : Bool) (shape : Shape) (bytes : List ℕ) (s end : Standing) (read : BlocksRead) (pad : Bool) → end_by true ends shape bytes s read ≡ Ok end → Agrees end.pad pad → EndTaken s read pad end
end_taken ends shape bytes s end read pad e a =
    let x = then_fine (pads_at read.cursor) (λ padded. fine (over_standing padded.1 s.count padded.0)) end e in
    let is = is_fine (over_standing x.0.1 s.count x.0.0) end x.2 in
    let f = pads_fine read.cursor x.0 x.1 in
    let same : x.0.0 ≡ end.pad = ap (λ (t : Standing). t.pad) is in
    let p = pads_taken read.cursor x.0 pad x.1 (subst (λ (o : Option Bool). Agrees o pad) (sym same) a) in
    record {
      pads = subst (λ (o : Option Bool). PadsTaken read.cursor pad o) same p;
      is = sym is ∙ ap₂ (λ (c : Cursor) (o : Option Bool). over_standing c s.count o) f.1 same;
      next = sym (ap (λ (t : Standing). t.cursor.next) is) ∙ ap (λ (c : Cursor). c.next) f.1;
    }

-- the last one of another interval
pub record MarkerTaken (shape : Shape) (bytes : List ℕ) (s : Standing) (read : BlocksRead) (next : Standing) : Type 0 where
  pub known : Option Bool
  pub place : ℕ
  pub is : next ≡ place_standing place s.count known
  pub marker : drop read.cursor.next bytes ≡ restart_marker (interval_number shape s.count) ++ drop place bytes
  pub place_is : place ≡ read.cursor.next + 2
  pub pads : (pad : Bool) → Agrees known pad → PadsTaken read.cursor pad known

pub marker_taken : (shape : Shape) (bytes : List ℕ) (s next : Standing) (read : BlocksRead) → end_by false true shape bytes s read ≡ Ok next → MarkerTaken shape bytes s read next
marker_taken shape bytes s next read e =
    let n = interval_number shape s.count in
    let x = then_fine (pads_at read.cursor) (λ padded. and_then (restart_at bytes n padded.1.next) (λ place. fine (place_standing place s.count padded.0))) next e in
    let m = then_fine (restart_at bytes n x.0.1.next) (λ place. fine (place_standing place s.count x.0.0)) next x.2 in
    let f = pads_fine read.cursor x.0 x.1 in
    let same : x.0.1.next ≡ read.cursor.next = ap (λ (c : Cursor). c.next) f.1 in
    let r = restart_fine bytes n x.0.1.next m.0 m.1 in
    record {
      known = x.0.0;
      place = m.0;
      is = sym (is_fine (place_standing m.0 s.count x.0.0) next m.2);
      marker = ap (λ (k : ℕ). drop k bytes) (sym same) ∙ r.0;
      place_is = r.1 ∙ ap (λ (k : ℕ). k + 2) same;
      pads = λ pad a. pads_taken read.cursor x.0 pad x.1 a;
    }

-- ---- one MCU

pub record McuFine (shape : Shape) (bytes : List ℕ) (s : Standing) (blocks : List (List ℤ)) (next : Standing) : Type 0 where
  pub read : BlocksRead
  pub is : blocks_at shape.slots s.before bytes s.cursor ≡ Ok read
  pub after : after_mcu shape bytes s read ≡ Ok next
  pub same : blocks ≡ read.blocks

pub mcu_fine : (shape : Shape) (bytes : List ℕ) (s : Standing) (x : List (List ℤ) × Standing) → mcu_at shape bytes s ≡ Ok x → McuFine shape bytes s x.0 x.1
unfolding mcu_at
mcu_fine shape bytes s x e =
    let r = then_fine (blocks_at shape.slots s.before bytes s.cursor) (λ read. and_then (after_mcu shape bytes s read) (λ next. Ok (read.blocks, next))) x e in
    let n = then_fine (after_mcu shape bytes s r.0) (λ next. fine (r.0.blocks, next)) x r.2 in
    let p = both_fine (r.0.blocks, n.0) x n.2 in
    record { read = r.0; is = r.1; after = n.1 ∙ ap (λ (t : Standing). fine t) p.1; same = sym p.0 }

pub mcu_again : (shape : Shape) (bytes : List ℕ) (s next : Standing) (read : BlocksRead) → blocks_at shape.slots s.before bytes s.cursor ≡ Ok read → after_mcu shape bytes s read ≡ Ok next
    → mcu_at shape bytes s ≡ Ok (read.blocks, next)
unfolding mcu_at
mcu_again shape bytes s next read e f =
    ap (λ r. and_then {A = BlocksRead} {B = List (List ℤ) × Standing} r (λ read. and_then (after_mcu shape bytes s read) (λ next. Ok (read.blocks, next)))) e
    ∙ ap (λ r. and_then {A = Standing} {B = List (List ℤ) × Standing} r (λ next. Ok (read.blocks, next))) f

-- and then others
pub record McusFine (n : ℕ) (shape : Shape) (bytes : List ℕ) (s : Standing) (blocks : List (List (List ℤ))) (end : Standing) : Type 0 where
  pub first : List (List ℤ)
  pub next : Standing
  pub more : List (List (List ℤ))
  pub one : mcu_at shape bytes s ≡ Ok (first, next)
  pub others : mcus_at n shape bytes next ≡ Ok (more, end)
  pub same : blocks ≡ first ∷ more

pub mcus_fine : (n : ℕ) (shape : Shape) (bytes : List ℕ) (s : Standing) (x : List (List (List ℤ)) × Standing) → mcus_at (suc n) shape bytes s ≡ Ok x → McusFine n shape bytes s x.0 x.1
unfolding mcus_at
mcus_fine n shape bytes s x e =
    let f = then_fine (mcu_at shape bytes s) (λ first. and_then (mcus_at n shape bytes first.1) (λ more. Ok (first.0 ∷ more.0, more.1))) x e in
    let m = then_fine (mcus_at n shape bytes f.0.1) (λ more. fine (f.0.0 ∷ more.0, more.1)) x f.2 in
    let p = both_fine (f.0.0 ∷ m.0.0, m.0.1) x m.2 in
    record { first = f.0.0; next = f.0.1; more = m.0.0; one = f.1; others = m.1 ∙ ap (λ (t : Standing). fine (m.0.0, t)) p.1; same = sym p.0 }

pub mcus_more : (n : ℕ) (shape : Shape) (bytes : List ℕ) (s next end : Standing) (first : List (List ℤ)) (more : List (List (List ℤ))) → mcu_at shape bytes s ≡ Ok (first, next) → mcus_at n shape bytes next ≡ Ok (more, end)
    → mcus_at (suc n) shape bytes s ≡ Ok (first ∷ more, end)
unfolding mcus_at
mcus_more n shape bytes s next end first more e f =
    ap (λ r. and_then {A = List (List ℤ) × Standing} {B = List (List (List ℤ)) × Standing} r (λ first. and_then (mcus_at n shape bytes first.1) (λ more. Ok (first.0 ∷ more.0, more.1)))) e
    ∙ ap (λ r. and_then {A = List (List (List ℤ)) × Standing} {B = List (List (List ℤ)) × Standing} r (λ more. Ok (first ∷ more.0, more.1))) f

pub no_mcus : (shape : Shape) (bytes : List ℕ) (s : Standing) → mcus_at 0 shape bytes s ≡ Ok ([], s)
unfolding mcus_at
no_mcus shape bytes s = refl

pub agrees_known : (known : Option Bool) (pad : Bool) → pad ≡ unwrap_or known true → Agrees known pad
agrees_known None pad e = tt
agrees_known (Some known) pad e = sym e

-- ---- what is read is the text

one_interval : (t : Bool) (mcu : Mcu) → (if t then (mcu ∷ []) ∷ [] else onto_first mcu []) ≡ (mcu ∷ []) ∷ []
one_interval true mcu = refl
one_interval false mcu = refl

-- MCUs that were read, the last of them the last of the scan
record McusTaken (n : ℕ) (shape : Shape) (bytes : List ℕ) (s : Standing) (blocks : List (List (List ℤ))) (pads : ℕ → Bool) (told : List Bool) (end : Standing) : Type 0 where
  mcus : List Mcu
  long : length mcus ≡ n
  each : AllByRecursion (IsMcu shape.slots) mcus
  same : blocks ≡ zigzag_of mcus
  k : ℕ
  others : List (List Mcu)
  rest : RestOf shape pads bytes end.cursor.next s.count s.before s.cursor k mcus others
  are : ArePads (k ∷ pad_counts shape.slots others) told

-- after an MCU that ends its interval
later_some : (all : List (List Mcu)) (slots : List Slot) (pads : ℕ → Bool) (bytes : List ℕ) (after n at place : ℕ) → 0 < length all → drop at bytes ≡ restart_marker n ++ drop place bytes → place ≡ at + 2
    → TextOf slots pads bytes after (n + 1) place all → Later slots pads bytes after n all at
later_some [] slots pads bytes after n at place some m p t = absurd (omega (arith, some))
later_some (i ∷ is) slots pads bytes after n at place some m p t =
    let g = t.2 in
    (t.0, t.1, m ∙ ap (λ (l : List ℕ). restart_marker n ++ l) g.there, (let a = g.long in omega (arith, a, p)))

last_mcu : (shape : Shape) (bytes : List ℕ) (s end : Standing) (blocks : List (List (List ℤ))) (pads : ℕ → Bool) → IsShape shape → s.count + 1 ≡ shape.mcus → mcus_at 1 shape bytes s ≡ Ok (blocks, end)
    → Follows pads (interval_number shape s.count) (pads_told 1 shape bytes s) → McusTaken 1 shape bytes s blocks pads (pads_told 1 shape bytes s) end
last_mcu shape bytes s end blocks pads is count e follows =
    let f = mcus_fine 0 shape bytes s (blocks, end) e in
    let p = both_fine {A = List (List (List ℤ))} {B = Standing} ([], f.next) (f.more, end) (sym (no_mcus shape bytes f.next) ∙ f.others) in
    let one = mcu_fine shape bytes s (f.first, f.next) f.one in
    let m = blocks_read shape.slots s.before bytes s.cursor one.read is.slots one.is in
    let over : (s.count + 1 == shape.mcus) ≡ true = eq-eqb (s.count + 1) shape.mcus count in
    let ends = ends_interval shape.interval (s.count + 1) in
    let after = sym (ap (λ (b : Bool). end_by b ends shape bytes s one.read) over) ∙ one.after ∙ ap (λ (g : Standing). fine g) p.1 in
    let counted : end.count ≡ s.count + 1 = let x = then_fine (pads_at one.read.cursor) (λ padded. fine (over_standing padded.1 s.count padded.0)) end after in
    sym (ap (λ (t : Standing). t.count) (is_fine (over_standing x.0.1 s.count x.0.0) end x.2)) in
    let told : pads_told 1 shape bytes s ≡ unwrap_or end.pad true ∷ [] =
    pads_more 0 shape bytes s f.next f.first f.one ∙ ap₂ (λ (a b : List Bool). a ++ b) (ap (pad_told shape) p.1) (no_pads_told shape bytes f.next) ∙ append-nil (pad_told shape end)
    ∙ told_by true ends shape end (s.count + 1) counted over refl in
    let pad = pads (interval_number shape s.count) in
    let known = (subst (λ (l : List Bool). Follows pads (interval_number shape s.count) l) told follows).0 in
    let t = end_taken ends shape bytes s end one.read pad after (agrees_known end.pad pad known) in
    let taken = t.pads in
    let one_bit : ArePads (taken.k ∷ []) (unwrap_or end.pad true ∷ []) = (none_told taken.k end.pad pad taken.next_is, tt) in
    let interval : intervals_after shape.interval s.count (m.mcu ∷ []) ≡ (m.mcu ∷ []) ∷ [] = one_interval ends m.mcu in
    record {
      mcus = m.mcu ∷ [];
      long = refl;
      each = ((m.long, m.each), tt);
      same = f.same ∙ ap₂ (λ (b : List (List ℤ)) (l : List (List (List ℤ))). b ∷ l) (one.same ∙ m.same) (sym p.0);
      k = taken.k;
      others = [];
      rest = closed_rest shape pads bytes end.cursor.next s.count s.before s.cursor one.read.cursor taken.k m.mcu [] [] m.bits interval m.text m.takes taken.left (sym t.next);
      are = subst (λ (l : List Bool). ArePads (taken.k ∷ []) l) (sym told) one_bit;
    }

-- an MCU before others, by whether it ends its interval
more_mcus : (ends : Bool) (n : ℕ) (shape : Shape) (bytes : List ℕ) (s next end : Standing) (first : List (List ℤ)) (more : List (List (List ℤ))) (read : BlocksRead) (pads : ℕ → Bool) (told : List Bool) → IsShape shape → AllByRecursion IsByte bytes
    → (s.count + 1 == shape.mcus) ≡ false → ends_interval shape.interval (s.count + 1) ≡ ends → McuTaken shape.slots s.before bytes s.cursor read → first ≡ read.blocks → end_by false ends shape bytes s read ≡ Ok next
    → Follows pads (interval_number shape s.count) (pad_told shape next ++ told)
    → (next.count ≡ s.count + 1 → Follows pads (interval_number shape (s.count + 1)) told → McusTaken (suc n) shape bytes next more pads told end)
    → McusTaken (suc (suc n)) shape bytes s (first ∷ more) pads (pad_told shape next ++ told) end
more_mcus true n shape bytes s next end first more read pads told is all on closes m same e follows later =
    let t = marker_taken shape bytes s next read e in
    let counted : next.count ≡ s.count + 1 = ap (λ (g : Standing). g.count) t.is in
    let number : interval_number shape (s.count + 1) ≡ interval_number shape s.count + 1 = number_next_of (shape.interval == 0) shape.interval s.count refl closes in
    let tells : pad_told shape next ≡ unwrap_or next.pad true ∷ [] = told_by false true shape next (s.count + 1) counted on closes in
    let go = subst (λ (l : List Bool). Follows pads (interval_number shape s.count) (l ++ told)) tells follows in
    let r = subst (λ (g : Standing). McusTaken (suc n) shape bytes g more pads told end) t.is (later counted (subst (λ (k : ℕ). Follows pads k told) (sym number) go.1)) in
    let x = text_of_rest shape pads bytes end.cursor.next (s.count + 1) t.place r.k r.mcus r.others all r.rest in
    let intervals = intervals_after shape.interval (s.count + 1) r.mcus in
    let text : TextOf shape.slots pads bytes end.cursor.next (interval_number shape s.count + 1) t.place intervals = subst (λ (k : ℕ). TextOf shape.slots pads bytes end.cursor.next k t.place intervals) number x.1 in
    let w = r.rest in
    let some : 0 < length intervals = let l = ap length w.is in omega (arith, l) in
    let pad = pads (interval_number shape s.count) in
    let known : pad ≡ unwrap_or t.known true = go.0 ∙ ap (λ (g : Standing). unwrap_or g.pad true) t.is in
    let taken = t.pads pad (agrees_known t.known pad known) in
    let interval : intervals_after shape.interval s.count (m.mcu ∷ r.mcus) ≡ (m.mcu ∷ []) ∷ intervals = ap (λ (b : Bool). if b then (m.mcu ∷ []) ∷ intervals else onto_first m.mcu intervals) closes in
    let one : taken.k ≡ 0 → unwrap_or next.pad true ≡ true = λ none. ap (λ (g : Standing). unwrap_or g.pad true) t.is ∙ none_told taken.k t.known pad taken.next_is none in
    record {
      mcus = m.mcu ∷ r.mcus;
      long = ap suc r.long;
      each = ((m.long, m.each), r.each);
      same = ap₂ (λ (b : List (List ℤ)) (l : List (List (List ℤ))). b ∷ l) (same ∙ m.same) r.same;
      k = taken.k;
      others = intervals;
      rest = closed_rest shape pads bytes end.cursor.next s.count s.before s.cursor read.cursor taken.k m.mcu r.mcus intervals m.bits interval m.text m.takes taken.left
          (later_some intervals shape.slots pads bytes end.cursor.next (interval_number shape s.count) read.cursor.next t.place some t.marker t.place_is text);
      are = subst (λ (l : List Bool). ArePads (taken.k ∷ pad_counts shape.slots intervals) (l ++ told)) (sym tells)
          (one, subst (λ (c : List ℕ). ArePads c told) x.0 r.are);
    }
more_mcus false n shape bytes s next end first more read pads told is all on goes m same e follows later =
    let st = on_standing read.cursor read.before s.count in
    let same_next : st ≡ next = is_fine st next e in
    let counted : next.count ≡ s.count + 1 = sym (ap (λ (g : Standing). g.count) same_next) in
    let number : interval_number shape (s.count + 1) ≡ interval_number shape s.count = number_same_of (shape.interval == 0) shape.interval s.count refl goes in
    let tells : pad_told shape next ≡ [] = told_by false false shape next (s.count + 1) counted on goes in
    let go = subst (λ (l : List Bool). Follows pads (interval_number shape s.count) (l ++ told)) tells follows in
    let r = subst (λ (g : Standing). McusTaken (suc n) shape bytes g more pads told end) (sym same_next) (later counted (subst (λ (k : ℕ). Follows pads k told) (sym number) go)) in
    let rest = subst (λ (d : List ℤ). RestOf shape pads bytes end.cursor.next (s.count + 1) d read.cursor r.k r.mcus r.others) m.last r.rest in
    record {
      mcus = m.mcu ∷ r.mcus;
      long = ap suc r.long;
      each = ((m.long, m.each), r.each);
      same = ap₂ (λ (b : List (List ℤ)) (l : List (List (List ℤ))). b ∷ l) (same ∙ m.same) r.same;
      k = r.k;
      others = r.others;
      rest = onto_rest shape pads bytes end.cursor.next s.count s.before s.cursor read.cursor r.k m.mcu r.mcus r.others m.bits goes (sym m.long) m.text m.takes rest;
      are = subst (λ (l : List Bool). ArePads (r.k ∷ pad_counts shape.slots r.others) (l ++ told)) (sym tells) r.are;
    }

mcus_read : (n : ℕ) (shape : Shape) (bytes : List ℕ) (s end : Standing) (blocks : List (List (List ℤ))) (pads : ℕ → Bool) → IsShape shape → AllByRecursion IsByte bytes → s.count + suc n ≡ shape.mcus
    → mcus_at (suc n) shape bytes s ≡ Ok (blocks, end) → Follows pads (interval_number shape s.count) (pads_told (suc n) shape bytes s) → McusTaken (suc n) shape bytes s blocks pads (pads_told (suc n) shape bytes s) end
mcus_read zero shape bytes s end blocks pads is all count e follows = last_mcu shape bytes s end blocks pads is count e follows
mcus_read (suc n) shape bytes s end blocks pads is all count e follows =
    let f = mcus_fine (suc n) shape bytes s (blocks, end) e in
    let one = mcu_fine shape bytes s (f.first, f.next) f.one in
    let m = blocks_read shape.slots s.before bytes s.cursor one.read is.slots one.is in
    let ends = ends_interval shape.interval (s.count + 1) in
    let on : (s.count + 1 == shape.mcus) ≡ false = false_from_ne_true (s.count + 1 == shape.mcus) (λ z. let h = eqb-true (s.count + 1) shape.mcus z in omega (arith, h, count)) in
    let g : end_by false ends shape bytes s one.read ≡ Ok f.next = sym (ap (λ (b : Bool). end_by b ends shape bytes s one.read) on) ∙ one.after in
    let more = pads_more (suc n) shape bytes s f.next f.first f.one in
    let told = pads_told (suc n) shape bytes f.next in
    let r = more_mcus ends n shape bytes s f.next end f.first f.more one.read pads told is all on refl m one.same g
    (subst (λ (l : List Bool). Follows pads (interval_number shape s.count) l) more follows)
    (λ c go. mcus_read n shape bytes f.next end f.more pads is all (omega (arith, c, count)) f.others (subst (λ (k : ℕ). Follows pads (interval_number shape k) told) (sym c) go)) in
    let t = subst (λ (l : List Bool). McusTaken (suc (suc n)) shape bytes s (f.first ∷ f.more) pads l end) (sym more) r in
    subst (λ (b : List (List (List ℤ))). McusTaken (suc (suc n)) shape bytes s b pads (pads_told (suc (suc n)) shape bytes s) end) (sym f.same) t

pub first_number : (shape : Shape) → interval_number shape 0 ≡ 0
first_number shape = by (shape.interval == 0) where
  by : (t : Bool) → (if t then 0 else Rattle.std.specs.Prelude.◌/◌ 0 shape.interval) ≡ 0
  by true = refl
  by false = zero-div shape.interval

spelled_by : (n : ℕ) (shape : Shape) (bytes : List ℕ) (place : ℕ) (blocks : List (List (List ℤ))) (end : Standing) → n ≡ shape.mcus → IsShape shape → AllByRecursion IsByte bytes → place ≤ length bytes
    → mcus_at n shape bytes (standing_at place) ≡ Ok (blocks, end)
    → (mcus : List Mcu) × (blocks ≡ zigzag_of mcus) × Begins shape mcus (pads_told n shape bytes (standing_at place)) bytes place end.cursor.next
unfolding scan_bytes
spelled_by zero shape bytes place blocks end n is all within e = absurd (let h = is.mcus in omega (arith, n, h))
spelled_by (suc n) shape bytes place blocks end count is all within e =
    let told = pads_told (suc n) shape bytes (standing_at place) in
    let pads = pad_at told in
    let after = end.cursor.next in
    let follows = subst (λ (k : ℕ). Follows pads k told) (sym (first_number shape)) (follows_all told) in
    let r = mcus_read n shape bytes (standing_at place) end blocks pads is all (omega (arith, count)) e follows in
    let x = text_of_rest shape pads bytes after 0 place r.k r.mcus r.others all r.rest in
    let intervals = intervals_after shape.interval 0 r.mcus in
    let text : TextOf shape.slots pads bytes after 0 place intervals = subst (λ (k : ℕ). TextOf shape.slots pads bytes after k place intervals) (first_number shape) x.1 in
    let g = text.2 in (
      r.mcus,
      r.same,
      record {
        scan = text.0;
        is = record {
          grid = record { count = r.long ∙ count; each = r.each };
          told = subst (λ (c : List ℕ). ArePads c told) x.0 r.are;
          text = text.1;
        };
        text = g.there;
        within =
            let a = ap length g.there in let b = length-append text.0 (drop after bytes) in let c = length-drop place bytes in let d = length-drop after bytes in let f = g.long in omega (arith, a, b, c, d, f, within);
        long = g.long;
      },
    )

pub spelled : IsSpelled
spelled shape bytes place blocks end is all within e = spelled_by shape.mcus shape bytes place blocks end refl is all within e

-- ---- the text is read again

abbrev no_left : Cursor → Cursor
no_left cursor = record cursor { left = [] }

pub end_again : (ends : Bool) (shape : Shape) (bytes : List ℕ) (s : Standing) (read : BlocksRead) (pad : Bool) (k : ℕ) → read.cursor.left ≡ replicate k pad
    → end_by true ends shape bytes s read ≡ Ok (over_standing (no_left read.cursor) s.count (pad_after None k pad))
end_again ends shape bytes s read pad k left =
    ap (λ r. and_then {A = Option Bool × Cursor} {B = Standing} r (λ padded. Ok (over_standing padded.1 s.count padded.0))) (pads_are k read.cursor pad left)

pub marker_again : (shape : Shape) (bytes more : List ℕ) (s : Standing) (read : BlocksRead) (pad : Bool) (k : ℕ) → read.cursor.left ≡ replicate k pad
    → drop read.cursor.next bytes ≡ restart_marker (interval_number shape s.count) ++ more → end_by false true shape bytes s read ≡ Ok (place_standing (read.cursor.next + 2) s.count (pad_after None k pad))
marker_again shape bytes more s read pad k left e =
    let n = interval_number shape s.count in
    ap (λ r. and_then {A = Option Bool × Cursor} {B = Standing} r (λ padded. and_then (restart_at bytes n padded.1.next) (λ place. Ok (place_standing place s.count padded.0)))) (pads_are k read.cursor pad left)
    ∙ ap (λ r. and_then {A = ℕ} {B = Standing} r (λ place. Ok (place_standing place s.count (pad_after None k pad)))) (restart_again bytes more n read.cursor.next e).0

lists_same : (a b : List Mcu) (xs ys : List (List Mcu)) → a ∷ xs ≡ b ∷ ys → (a ≡ b) × (xs ≡ ys)
lists_same a b xs ys e = (cc, cc)

list_split : (all : List (List Mcu)) → 0 < length all → (first : List Mcu) × (others : List (List Mcu)) × (all ≡ first ∷ others)
list_split [] some = absurd (omega (arith, some))
list_split (i ∷ is) some = (i, is, refl)

-- an interval of k pad bits, and others
sum_is : (k : ℕ) (pad bit : Bool) (counts : List ℕ) (told : List Bool) → pad ≡ bit
    → pads_with (pad_sum (pad_after None k pad)) (bits_sum counts told) ≡ bits_sum (k ∷ counts) (bit ∷ told)
sum_is zero pad bit counts told e = refl
sum_is (suc k) pad bit counts told e = ap (λ (b : Bool). pads_with (interval_sum (Same b) 0 false) (bits_sum counts told)) e

-- the first MCU, where it ends its interval
record ClosedMcu (shape : Shape) (pads : ℕ → Bool) (bytes : List ℕ) (after count : ℕ) (before : List ℤ) (cursor : Cursor) (k : ℕ) (mcu : Mcu) (old others : List (List Mcu)) : Type 0 where
  bits : List Bool
  text : blocks_text shape.slots before mcu ≡ Ok bits
  to : Cursor
  takes : Takes bytes cursor bits to
  left : to.left ≡ replicate k (pads (interval_number shape count))
  later : Later shape.slots pads bytes after (interval_number shape count) others to.next
  same : old ≡ others

closed_parts : (shape : Shape) (pads : ℕ → Bool) (bytes : List ℕ) (after count : ℕ) (before : List ℤ) (cursor : Cursor) (k : ℕ) (mcu : Mcu) (mcus : List Mcu) (old others : List (List Mcu))
    → RestOf shape pads bytes after count before cursor k (mcu ∷ mcus) old → intervals_after shape.interval count (mcu ∷ mcus) ≡ (mcu ∷ []) ∷ others
    → ClosedMcu shape pads bytes after count before cursor k mcu old others
closed_parts shape pads bytes after count before cursor k mcu mcus old others r is =
    let p = lists_same r.first (mcu ∷ []) old others (sym r.is ∙ is) in
    let n = interval_number shape count in
    let a = subst (λ (f : List Mcu). Rest shape.slots pads bytes after n before cursor k f old) p.0 r.rest in
    let w = subst (λ (o : List (List Mcu)). Rest shape.slots pads bytes after n before cursor k (mcu ∷ []) o) p.1 a in
    record {
      bits = w.bits;
      text = sym (ap₂ (λ (s : List Slot) (b : Mcu). blocks_text s before b) (append-nil shape.slots) (append-nil mcu)) ∙ w.text;
      to = w.to;
      takes = w.takes;
      left = w.left;
      later = w.later;
      same = p.1;
    }

-- and where the interval goes on
record OnMcu (shape : Shape) (pads : ℕ → Bool) (bytes : List ℕ) (after count : ℕ) (before : List ℤ) (cursor : Cursor) (k : ℕ) (mcu : Mcu) (mcus : List Mcu) (old : List (List Mcu)) : Type 0 where
  bits : List Bool
  text : blocks_text shape.slots before mcu ≡ Ok bits
  mid : Cursor
  takes : Takes bytes cursor bits mid
  others : List (List Mcu)
  rest : RestOf shape pads bytes after (count + 1) (dcs_after shape.slots before mcu) mid k mcus others
  same : old ≡ others

on_parts : (shape : Shape) (pads : ℕ → Bool) (bytes : List ℕ) (after count : ℕ) (before : List ℤ) (cursor : Cursor) (k : ℕ) (mcu : Mcu) (mcus first : List Mcu) (old others : List (List Mcu))
    → length shape.slots ≡ length mcu → ends_interval shape.interval (count + 1) ≡ false → intervals_after shape.interval (count + 1) mcus ≡ first ∷ others
    → RestOf shape pads bytes after count before cursor k (mcu ∷ mcus) old → OnMcu shape pads bytes after count before cursor k mcu mcus old
on_parts shape pads bytes after count before cursor k mcu mcus first old others size on is r =
    let whole : intervals_after shape.interval count (mcu ∷ mcus) ≡ (mcu ∷ first) ∷ others =
    ap (λ (t : Bool). if t then (mcu ∷ []) ∷ intervals_after shape.interval (count + 1) mcus else onto_first mcu (intervals_after shape.interval (count + 1) mcus)) on ∙ ap (onto_first mcu) is in
    let p = lists_same r.first (mcu ∷ first) old others (sym r.is ∙ whole) in
    let n = interval_number shape count in
    let a = subst (λ (f : List Mcu). Rest shape.slots pads bytes after n before cursor k f old) p.0 r.rest in
    let w = subst (λ (o : List (List Mcu)). Rest shape.slots pads bytes after n before cursor k (mcu ∷ first) o) p.1 a in
    let d = dcs_after shape.slots before mcu in
    let t = text_parts (blocks_text shape.slots before mcu) (blocks_text (slots_for shape.slots first) d (blocks_in first)) w.bits
    (sym (text_in_parts shape.slots (slots_for shape.slots first) before mcu (blocks_in first) size) ∙ w.text) in
    let x = takes_split bytes cursor w.to t.0 t.1 (subst (λ (l : List Bool). Takes bytes cursor l w.to) t.4 w.takes) in
    let same : interval_number shape (count + 1) ≡ n = number_same_of (shape.interval == 0) shape.interval count refl on in
    record {
      bits = t.0;
      text = t.2;
      mid = x.0;
      takes = x.1;
      others = others;
      rest = record {
        first = first;
        is = is;
        rest = record {
          bits = t.1;
          text = t.3;
          to = w.to;
          takes = x.2;
          left = w.left ∙ ap (λ (m : ℕ). replicate k (pads m)) (sym same);
          later = subst (λ (m : ℕ). Later shape.slots pads bytes after m others w.to.next) (sym same) w.later;
        };
      };
      same = p.1;
    }

record McusAgain (n : ℕ) (shape : Shape) (bytes : List ℕ) (s : Standing) (blocks : List (List (List ℤ))) (after : ℕ) (counts : List ℕ) (told : List Bool) : Type 0 where
  end : Standing
  is : mcus_at n shape bytes s ≡ Ok (blocks, end)
  next : end.cursor.next ≡ after
  tells : pads_told n shape bytes s ≡ told
  sums : sum_told n shape bytes s ≡ bits_sum counts told

abbrev read_of : List Slot → List ℤ → Mcu → Cursor → BlocksRead
read_of slots before mcu cursor = record { blocks = map in_zigzag mcu; before = dcs_after slots before mcu; cursor = cursor }

-- the one bit that is told of an interval
one_told : (k : ℕ) (told : List Bool) → ArePads (k ∷ []) told → (bit : Bool) × (told ≡ bit ∷ []) × (k ≡ 0 → bit ≡ true)
one_told k [] are = absurd are
one_told k (bit ∷ []) are = (bit, refl, are.0)
one_told k (bit ∷ more ∷ told) are = absurd are.1

last_again : (shape : Shape) (bytes : List ℕ) (s : Standing) (mcu : Mcu) (pads : ℕ → Bool) (told : List Bool) (after k : ℕ) (old : List (List Mcu)) → IsShape shape → IsMcu shape.slots mcu → s.count + 1 ≡ shape.mcus
    → RestOf shape pads bytes after s.count s.before s.cursor k (mcu ∷ []) old → ArePads (k ∷ pad_counts shape.slots old) told → Follows pads (interval_number shape s.count) told
    → McusAgain 1 shape bytes s (zigzag_of (mcu ∷ [])) after (k ∷ pad_counts shape.slots old) told
last_again shape bytes s mcu pads told after k old is one count r are follows =
    let ends = ends_interval shape.interval (s.count + 1) in
    let c = closed_parts shape pads bytes after s.count s.before s.cursor k mcu [] old [] r (one_interval ends mcu) in
    let bit = one_told k told (subst (λ (o : List (List Mcu)). ArePads (k ∷ pad_counts shape.slots o) told) c.same are) in
    let pad = pads (interval_number shape s.count) in
    let known : pad ≡ bit.0 = (subst (λ (l : List Bool). Follows pads (interval_number shape s.count) l) bit.1 follows).0 in
    let read = read_of shape.slots s.before mcu c.to in
    let blocks = blocks_again shape.slots s.before mcu bytes c.bits s.cursor c.to is.slots one.1 one.0 c.text c.takes in
    let over : (s.count + 1 == shape.mcus) ≡ true = eq-eqb (s.count + 1) shape.mcus count in
    let end = over_standing (no_left c.to) s.count (pad_after None k pad) in
    let first : mcu_at shape bytes s ≡ Ok (map in_zigzag mcu, end) =
    mcu_again shape bytes s end read blocks (ap (λ (b : Bool). end_by b ends shape bytes s read) over ∙ end_again ends shape bytes s read pad k c.left) in
    record {
      end = end;
      is = mcus_more 0 shape bytes s end end (map in_zigzag mcu) [] first (no_mcus shape bytes end);
      next = c.later;
      tells = pads_more 0 shape bytes s end (map in_zigzag mcu) first ∙ ap₂ (λ (a b : List Bool). a ++ b) (told_by true ends shape end (s.count + 1) refl over refl) (no_pads_told shape bytes end)
          ∙ ap (λ (b : Bool). b ∷ []) (pad_is k pad (λ none. known ∙ bit.2 none) ∙ known) ∙ sym bit.1;
      sums = sums_more 0 shape bytes s end (map in_zigzag mcu) first ∙ ap₂ pads_with (sum_by true ends shape end (s.count + 1) refl over refl) (no_sum_told shape bytes end)
          ∙ sum_is k pad bit.0 [] [] known ∙ ap₂ (λ (o : List (List Mcu)) (l : List Bool). bits_sum (k ∷ pad_counts shape.slots o) l) (sym c.same) (sym bit.1);
    }

some_text : (all : List (List Mcu)) (slots : List Slot) (pads : ℕ → Bool) (bytes : List ℕ) (after n at : ℕ) → 0 < length all → Later slots pads bytes after n all at
    → (text : List ℕ) × (intervals_bytes slots pads (n + 1) all ≡ Ok text) × (drop at bytes ≡ restart_marker n ++ (text ++ drop after bytes)) × (after ≡ at + (2 + length text))
some_text [] slots pads bytes after n at some l = absurd (omega (arith, some))
some_text (i ∷ is) slots pads bytes after n at some l = l

-- the bits that are told of an interval and of others
first_told : (k : ℕ) (counts : List ℕ) (told : List Bool) → ArePads (k ∷ counts) told → (bit : Bool) × (more : List Bool) × (told ≡ bit ∷ more) × (k ≡ 0 → bit ≡ true) × ArePads counts more
first_told k counts [] are = absurd are
first_told k counts (bit ∷ more) are = (bit, more, refl, are.0, are.1)

-- an MCU before others, by whether it ends its interval
more_again : (ends : Bool) (n : ℕ) (shape : Shape) (bytes : List ℕ) (s : Standing) (mcu next : Mcu) (mcus : List Mcu) (pads : ℕ → Bool) (told : List Bool) (after k : ℕ) (old : List (List Mcu)) → IsShape shape → IsMcu shape.slots mcu
    → (s.count + 1 == shape.mcus) ≡ false → ends_interval shape.interval (s.count + 1) ≡ ends
    → RestOf shape pads bytes after s.count s.before s.cursor k (mcu ∷ next ∷ mcus) old → ArePads (k ∷ pad_counts shape.slots old) told → Follows pads (interval_number shape s.count) told
    → ((t : Standing) (j : ℕ) (more : List Bool) (others : List (List Mcu)) → t.count ≡ s.count + 1 → RestOf shape pads bytes after t.count t.before t.cursor j (next ∷ mcus) others → ArePads (j ∷ pad_counts shape.slots others) more
    → Follows pads (interval_number shape t.count) more → McusAgain n shape bytes t (zigzag_of (next ∷ mcus)) after (j ∷ pad_counts shape.slots others) more)
    → McusAgain (suc n) shape bytes s (zigzag_of (mcu ∷ next ∷ mcus)) after (k ∷ pad_counts shape.slots old) told
more_again true n shape bytes s mcu next mcus pads told after k old is one on closes r are follows later =
    let intervals = intervals_after shape.interval (s.count + 1) (next ∷ mcus) in
    let some = intervals_some shape.interval (s.count + 1) next mcus in
    let c = closed_parts shape pads bytes after s.count s.before s.cursor k mcu (next ∷ mcus) old intervals r
    (ap (λ (b : Bool). if b then (mcu ∷ []) ∷ intervals else onto_first mcu intervals) closes) in
    let bit = first_told k (pad_counts shape.slots intervals) told (subst (λ (o : List (List Mcu)). ArePads (k ∷ pad_counts shape.slots o) told) c.same are) in
    let pad = pads (interval_number shape s.count) in
    let go = subst (λ (l : List Bool). Follows pads (interval_number shape s.count) l) bit.2 follows in
    let known : pad ≡ bit.0 = go.0 in
    let read = read_of shape.slots s.before mcu c.to in
    let blocks = blocks_again shape.slots s.before mcu bytes c.bits s.cursor c.to is.slots one.1 one.0 c.text c.takes in
    let t = some_text intervals shape.slots pads bytes after (interval_number shape s.count) c.to.next some c.later in
    let marker = restart_again bytes (t.0 ++ drop after bytes) (interval_number shape s.count) c.to.next t.2 in
    let place = c.to.next + 2 in
    let st = place_standing place s.count (pad_after None k pad) in
    let number : interval_number shape (s.count + 1) ≡ interval_number shape s.count + 1 = number_next_of (shape.interval == 0) shape.interval s.count refl closes in
    let long = t.3 in
    let goes : HasTextAt bytes place t.0 after = record { there = marker.1; long = omega (arith, long) } in
    let text : TextOf shape.slots pads bytes after (interval_number shape (s.count + 1)) place intervals =
    (t.0, ap (λ (m : ℕ). intervals_bytes shape.slots pads m intervals) number ∙ t.1, goes) in
    let f = list_split intervals some in
    let rest = rest_of_text shape pads bytes after (s.count + 1) place (next ∷ mcus) f.0 f.1 f.2 text in
    let l = later st (pad_bits_of (mcus_bits shape.slots f.0)) bit.1 f.1 refl rest (subst (λ (is : List (List Mcu)). ArePads (pad_counts shape.slots is) bit.1) f.2 bit.4)
    (subst (λ (m : ℕ). Follows pads m bit.1) (sym number) go.1) in
    let first : mcu_at shape bytes s ≡ Ok (map in_zigzag mcu, st) =
    mcu_again shape bytes s st read blocks (ap (λ (b : Bool). end_by b (ends_interval shape.interval (s.count + 1)) shape bytes s read) on ∙ ap (λ (b : Bool). end_by false b shape bytes s read) closes
    ∙ marker_again shape bytes (t.0 ++ drop after bytes) s read pad k c.left t.2) in
    record {
      end = l.end;
      is = mcus_more n shape bytes s st l.end (map in_zigzag mcu) (zigzag_of (next ∷ mcus)) first l.is;
      next = l.next;
      tells = pads_more n shape bytes s st (map in_zigzag mcu) first ∙ ap₂ (λ (a b : List Bool). a ++ b) (told_by false true shape st (s.count + 1) refl on closes) l.tells
          ∙ ap (λ (b : Bool). b ∷ bit.1) (pad_is k pad (λ none. known ∙ bit.3 none) ∙ known) ∙ sym bit.2;
      sums = sums_more n shape bytes s st (map in_zigzag mcu) first ∙ ap₂ pads_with (sum_by false true shape st (s.count + 1) refl on closes) l.sums
          ∙ ap (λ (is : List (List Mcu)). pads_with (pad_sum (pad_after None k pad)) (bits_sum (pad_counts shape.slots is) bit.1)) (sym f.2) ∙ sum_is k pad bit.0 (pad_counts shape.slots intervals) bit.1 known
          ∙ ap₂ (λ (o : List (List Mcu)) (l : List Bool). bits_sum (k ∷ pad_counts shape.slots o) l) (sym c.same) (sym bit.2);
    }
more_again false n shape bytes s mcu next mcus pads told after k old is one on goes_on r are follows later =
    let intervals = intervals_after shape.interval (s.count + 1) (next ∷ mcus) in
    let f = list_split intervals (intervals_some shape.interval (s.count + 1) next mcus) in
    let c = on_parts shape pads bytes after s.count s.before s.cursor k mcu (next ∷ mcus) f.0 old f.1 (sym one.0) goes_on f.2 r in
    let read = read_of shape.slots s.before mcu c.mid in
    let blocks = blocks_again shape.slots s.before mcu bytes c.bits s.cursor c.mid is.slots one.1 one.0 c.text c.takes in
    let st = on_standing c.mid (dcs_after shape.slots s.before mcu) s.count in
    let number : interval_number shape (s.count + 1) ≡ interval_number shape s.count = number_same_of (shape.interval == 0) shape.interval s.count refl goes_on in
    let l = later st k told c.others refl c.rest (subst (λ (o : List (List Mcu)). ArePads (k ∷ pad_counts shape.slots o) told) c.same are) (subst (λ (m : ℕ). Follows pads m told) (sym number) follows) in
    let first : mcu_at shape bytes s ≡ Ok (map in_zigzag mcu, st) =
    mcu_again shape bytes s st read blocks (ap (λ (b : Bool). end_by b (ends_interval shape.interval (s.count + 1)) shape bytes s read) on ∙ ap (λ (b : Bool). end_by false b shape bytes s read) goes_on) in
    record {
      end = l.end;
      is = mcus_more n shape bytes s st l.end (map in_zigzag mcu) (zigzag_of (next ∷ mcus)) first l.is;
      next = l.next;
      tells = pads_more n shape bytes s st (map in_zigzag mcu) first ∙ ap₂ (λ (a b : List Bool). a ++ b) (told_by false false shape st (s.count + 1) refl on goes_on) l.tells;
      sums = sums_more n shape bytes s st (map in_zigzag mcu) first ∙ ap₂ pads_with (sum_by false false shape st (s.count + 1) refl on goes_on) l.sums
          ∙ ap (λ (o : List (List Mcu)). bits_sum (k ∷ pad_counts shape.slots o) told) (sym c.same);
    }

mcus_again : (mcus : List Mcu) (mcu : Mcu) (shape : Shape) (bytes : List ℕ) (s : Standing) (pads : ℕ → Bool) (told : List Bool) (after k : ℕ) (old : List (List Mcu)) → IsShape shape → AllByRecursion (IsMcu shape.slots) (mcu ∷ mcus)
    → s.count + suc (length mcus) ≡ shape.mcus → RestOf shape pads bytes after s.count s.before s.cursor k (mcu ∷ mcus) old → ArePads (k ∷ pad_counts shape.slots old) told → Follows pads (interval_number shape s.count) told
    → McusAgain (suc (length mcus)) shape bytes s (zigzag_of (mcu ∷ mcus)) after (k ∷ pad_counts shape.slots old) told
mcus_again [] mcu shape bytes s pads told after k old is each count r are follows = last_again shape bytes s mcu pads told after k old is each.0 count r are follows
mcus_again (next ∷ mcus) mcu shape bytes s pads told after k old is each count r are follows =
    let on : (s.count + 1 == shape.mcus) ≡ false = false_from_ne_true (s.count + 1 == shape.mcus) (λ z. let h = eqb-true (s.count + 1) shape.mcus z in omega (arith, h, count)) in
    more_again (ends_interval shape.interval (s.count + 1)) (suc (length mcus)) shape bytes s mcu next mcus pads told after k old is each.0 on refl r are follows
    (λ t j more others c q a g. mcus_again mcus next shape bytes t pads more after j others is each.1 (omega (arith, c, count)) q a g)

-- the scan again
record ScanAgain (shape : Shape) (bytes : List ℕ) (place after : ℕ) (mcus : List Mcu) (pads : List Bool) : Type 0 where
  end : Standing
  is : scan_at shape bytes place ≡ Ok (zigzag_of mcus, end)
  next : end.cursor.next ≡ after
  tells : scan_pads shape bytes place ≡ pads
  sums : scan_sum shape bytes place ≡ bits_sum (pad_counts shape.slots (intervals_of shape mcus)) pads

again_by : (mcus : List Mcu) (shape : Shape) (bytes : List ℕ) (place after : ℕ) (pads : List Bool) → IsShape shape → Begins shape mcus pads bytes place after → ScanAgain shape bytes place after mcus pads
unfolding scan_bytes
again_by [] shape bytes place after pads is b = absurd (let h = b.is.grid.count in let m = is.mcus in omega (arith, h, m))
again_by (mcu ∷ mcus) shape bytes place after pads is b =
    let all = mcu ∷ mcus in
    let w = b.is in
    let count = w.grid.count in
    let intervals = intervals_after shape.interval 0 all in
    let f = list_split intervals (intervals_some shape.interval 0 mcu mcus) in
    let goes : HasTextAt bytes place b.scan after = record { there = b.text; long = b.long } in
    let text : TextOf shape.slots (pad_at pads) bytes after (interval_number shape 0) place intervals = (b.scan, ap (λ (n : ℕ). intervals_bytes shape.slots (pad_at pads) n intervals) (first_number shape) ∙ w.text, goes) in
    let rest = rest_of_text shape (pad_at pads) bytes after 0 place all f.0 f.1 f.2 text in
    let are = subst (λ (is : List (List Mcu)). ArePads (pad_counts shape.slots is) pads) f.2 w.told in
    let follows = subst (λ (k : ℕ). Follows (pad_at pads) k pads) (sym (first_number shape)) (follows_all pads) in
    let r = mcus_again mcus mcu shape bytes (standing_at place) (pad_at pads) pads after (pad_bits_of (mcus_bits shape.slots f.0)) f.1 is w.grid.each (omega (arith, count)) rest are follows in
    record {
      end = r.end;
      is = ap (λ (n : ℕ). mcus_at n shape bytes (standing_at place)) (sym count) ∙ r.is;
      next = r.next;
      tells = ap (λ (n : ℕ). pads_told n shape bytes (standing_at place)) (sym count) ∙ r.tells;
      sums = ap (λ (n : ℕ). sum_told n shape bytes (standing_at place)) (sym count) ∙ r.sums ∙ ap (λ (is : List (List Mcu)). bits_sum (pad_counts shape.slots is) pads) (sym f.2);
    }

pub read_again : IsReadAgain
read_again shape bytes place after mcus pads is b =
    let r = again_by mcus shape bytes place after pads is b in
    (r.end, r.is, r.next, r.tells)

pub summed_again : IsSummed
summed_again shape bytes place after mcus pads is b = (again_by mcus shape bytes place after pads is b).sums

-- ---- bytes tell the scan

pub zigzags_tell : (a b : List (List ℤ)) → AllByRecursion IsBlock a → AllByRecursion IsBlock b → map in_zigzag a ≡ map in_zigzag b → a ≡ b
zigzags_tell [] [] x y e = refl
zigzags_tell [] (d ∷ b) x y e = absurd (let h = ap length e in omega (arith, h))
zigzags_tell (c ∷ a) [] x y e = absurd (let h = ap length e in omega (arith, h))
zigzags_tell (c ∷ a) (d ∷ b) x y e =
    let p = both_lists (in_zigzag c) (in_zigzag d) (map in_zigzag a) (map in_zigzag b) e in
    ap₂ (λ (l : List ℤ) (ls : List (List ℤ)). l ∷ ls) (zigzag_tells c d x.0.count y.0.count p.0) (zigzags_tell a b x.1 y.1 p.1) where
      both_lists : (a b : List ℤ) (xs ys : List (List ℤ)) → a ∷ xs ≡ b ∷ ys → (a ≡ b) × (xs ≡ ys)
      both_lists a b xs ys e = (cc, cc)

mcus_same : (a b : Mcu) (xs ys : List Mcu) → a ∷ xs ≡ b ∷ ys → (a ≡ b) × (xs ≡ ys)
mcus_same a b xs ys e = (cc, cc)

mcus_tell : (a b : List Mcu) (slots : List Slot) → AllByRecursion (IsMcu slots) a → AllByRecursion (IsMcu slots) b → zigzag_of a ≡ zigzag_of b → a ≡ b
mcus_tell [] [] slots x y e = refl
mcus_tell [] (d ∷ b) slots x y e = absurd (let h = ap length e in omega (arith, h))
mcus_tell (c ∷ a) [] slots x y e = absurd (let h = ap length e in omega (arith, h))
mcus_tell (c ∷ a) (d ∷ b) slots x y e =
    let p = mcus_same (map in_zigzag c) (map in_zigzag d) (zigzag_of a) (zigzag_of b) e in
    ap₂ (λ (l : Mcu) (ls : List Mcu). l ∷ ls) (zigzags_tell c d x.0.1 y.0.1 p.0) (mcus_tell a b slots x.1 y.1 p.1)

same_length : (a b x y : List ℕ) → length a ≡ length b → a ++ x ≡ b ++ y → (a ≡ b) × (x ≡ y)
same_length [] [] x y h e = (refl, e)
same_length [] (d ∷ b) x y h e = absurd (omega (arith, h))
same_length (c ∷ a) [] x y h e = absurd (omega (arith, h))
same_length (c ∷ a) (d ∷ b) x y h e =
    let same : c ≡ d = cc in
    let tails : a ++ x ≡ b ++ y = cc in
    let r = same_length a b x y (omega (arith, h)) tails in
    (ap₂ (λ (n : ℕ) (l : List ℕ). n ∷ l) same r.0, r.1)

-- a scan at the head of bytes
head_begins : (shape : Shape) (mcus : List Mcu) (pads : List Bool) (a x bytes : List ℕ) → IsScan shape mcus pads a → bytes ≡ a ++ x → Begins shape mcus pads bytes 0 (length a)
head_begins shape mcus pads a x bytes is e =
    let after : drop (length a) bytes ≡ x = ap (drop (length a)) e ∙ drop_at a x (length a) refl in
    let long = ap length e in
    let sum = length-append a x in
    record {
      scan = a;
      is = is;
      text = e ∙ ap (λ (l : List ℕ). a ++ l) (sym after);
      within = omega (arith, long, sum);
      long = omega arith;
    }

pub one_scan : OneScan
one_scan shape mcus others pads bits a b x y is fst snd e =
    let f = read_again shape (a ++ x) 0 (length a) mcus pads is (head_begins shape mcus pads a x (a ++ x) fst refl) in
    let s = read_again shape (a ++ x) 0 (length b) others bits is (head_begins shape others bits b y (a ++ x) snd e) in
    let p = both_fine (zigzag_of mcus, f.0) (zigzag_of others, s.0) (sym f.1 ∙ s.1) in
    let place : length a ≡ length b = sym f.2 ∙ ap (λ (t : Standing). t.cursor.next) p.1 ∙ s.2 in
    let parts = same_length a b x y place e in
    (mcus_tell mcus others shape.slots fst.grid.each snd.grid.each p.0, sym f.3 ∙ s.3, parts.0, parts.1)
