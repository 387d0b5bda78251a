-- Coefficients, blocks and MCUs that are drawn and put turn by turn.
use Rattle.std.proofs.Common.{◌≡◌, ℕ, suc, ◌+◌, ◌-◌, ◌*◌, ◌<◌, ◌≤◌, true, List, [], ◌∷◌, ◌++◌, length, ℤ, Option, Result, Ok, Err, refl, sym, ap, subst, ◌∙◌, arith, append_assoc, append-nil}
use Rattle.std.specs.Prelude.{None}
use Rattle.jpeg_marker.specs.Plans.{PlanFields}
use Rattle.scan_spec.specs.Pads.{PadBits, Same, bit_for}
use Rattle.scan_spec.specs.ScanCalls.{McuIsPut, McuIsPutOn, ScanWriter, writer_of}
use Rattle.scan_spec.specs.Scans.{Mcu}
use Rattle.scan_spec.specs.Slots.{Shape, shape_of}
use Rattle.scan_spec.specs.Spots.{Put, Spot, mcu_put, mcus_put, prefixed_put}
use Rattle.scan_spec.specs.declared.stop.WriteStop.{WriteStop}
use Rattle.sample_jpeg.specs.declared.extent.Extent.{Extent}
use Rattle.sample_jpeg.specs.Draws.{state_after}
use Rattle.sample_jpeg.specs.DrawnMcus.{drawn_block, drawn_blocks, drawn_mcus, set_once, set_times}
use Rattle.sample_jpeg.specs.SampleFile.{bytes_or_none, end_of_image, sample_file, sample_scan}
use Rattle.sample_jpeg.specs.SampleHeader.{IsExtent, extent_of, sample_header, sample_plan}
use Rattle.sample_jpeg.specs.SampleWriting.{AreDrawnDcs, IsUnderWay, PutsMcu, PutsMcus}
use Rattle.sample_jpeg.proofs.SampleLaws.{sample_shape}
use Rattle.sample_jpeg.proofs.SampleMcus.{mcu_few}
use Rattle.sample_jpeg.proofs.SampleScans.{put_next, scan_of}

-- a coefficient more was set: what is left gives the same
pub times_step : (n k state after : ℕ) (block next whole : List ℤ) (end : ℕ) → k < n → next ≡ set_once block state → after ≡ state_after (state_after state)
    → set_times (n - k) block state ≡ record { value = whole; state = end } → set_times (n - (k + 1)) next after ≡ record { value = whole; state = end }
times_step n k state after block next whole end below is then same =
    let left : n - k ≡ suc (n - (k + 1)) = omega (arith, below) in
    rw (is, then) (sym (ap (λ m. set_times m block state) left) ∙ same)

-- three blocks
pub mcu_is : (s t u v : ℕ) (a b c : List ℤ) → a ≡ (drawn_block s).value → t ≡ (drawn_block s).state → b ≡ (drawn_block t).value → u ≡ (drawn_block t).state
    → c ≡ (drawn_block u).value → v ≡ (drawn_block u).state
    → (a ∷ b ∷ c ∷ [] ≡ (drawn_blocks 3 s).value) × (v ≡ (drawn_blocks 3 s).state)
unfolding drawn_blocks
mcu_is s t u v a b c ea et eb eu ec ev = rw (ea, eb, ec, ev, eu, et) (refl, refl)

-- ---- an MCU that is put

-- what a writer that has no stop says of it
put_on : (stop : Option WriteStop) (w new : ScanWriter) (mcu : Mcu) (out out_new : List ℕ) (result : Result (Unit {0}) WriteStop) → stop ≡ None
    → McuIsPut stop w mcu out result new out_new → McuIsPutOn w mcu out result new out_new
put_on stop w new mcu out out_new result none put = subst (λ (s : Option WriteStop). McuIsPut s w mcu out result new out_new) none put

no_stop : (put : Put) (made : List ℕ × Spot) (stop : WriteStop) → put ≡ Ok made → put ≡ Err stop → ⊥
no_stop put made stop a b = let e : Ok made ≡ Err stop = sym a ∙ b in cc

one_put : (put : Put) (a b : List ℕ × Spot) → put ≡ Ok a → put ≡ Ok b → b ≡ a
one_put put a b p q = let e : Ok b ≡ Ok a = sym q ∙ p in cc

with_ones : (pads : PadBits) (shape : Shape) (spot : Spot) (mcu : Mcu) → pads ≡ Same true → mcu_put shape (bit_for pads) spot mcu ≡ mcu_put shape (λ n. true) spot mcu
with_ones pads shape spot mcu e = ap (λ (p : PadBits). mcu_put shape (bit_for p) spot mcu) e

pub never_stops : (w new : ScanWriter) (state : ℕ) (mcu : Mcu) (out out_new : List ℕ) (result : Result (Unit {0}) WriteStop) (stop : WriteStop) → mcu ≡ (drawn_blocks 3 state).value
    → IsUnderWay w → result ≡ Err stop → McuIsPut w.stop w mcu out result new out_new → ⊥
never_stops w new state mcu out out_new result stop drawn way err put =
    let on = subst (λ r. McuIsPutOn w mcu out r new out_new) err (put_on w.stop w new mcu out out_new result way.stop put) in
    let few = mcu_few w.shape w.spot state way.slots way.begun way.before in
    no_stop (mcu_put w.shape (bit_for w.pads) w.spot mcu) few.made stop
    (with_ones w.pads w.shape w.spot mcu way.pads ∙ ap (mcu_put w.shape (λ n. true) w.spot) drawn ∙ few.is) on.0

pub mcu_puts : (w new : ScanWriter) (state : ℕ) (mcu : Mcu) (out out_new bytes file longer : List ℕ) (result : Result (Unit {0}) WriteStop) (done : Unit {0}) → mcu ≡ (drawn_blocks 3 state).value
    → IsUnderWay w → out ≡ [] → result ≡ Ok done → McuIsPut w.stop w mcu out result new out_new → bytes ≡ out_new → longer ≡ file ++ bytes → PutsMcu state w new file longer
mcu_puts w new state mcu out out_new bytes file longer result done drawn way empty ok put same appended =
    let on = subst (λ r. McuIsPutOn w mcu out r new out_new) ok (put_on w.stop w new mcu out out_new result way.stop put) in
    let few = mcu_few w.shape w.spot state way.slots way.begun way.before in
    let text = on.0 in
    let is = sym (with_ones w.pads w.shape w.spot mcu way.pads ∙ ap (mcu_put w.shape (λ n. true) w.spot) drawn) ∙ on.1 in
    let made : (text, new.spot) ≡ few.made = one_put _ few.made (text, new.spot) few.is is in
    let there : out_new ≡ text = on.2 ∙ ap (λ (o : List ℕ). o ++ text) empty in
    record {
      text = text;
      put = is;
      appended = appended ∙ ap (λ (b : List ℕ). file ++ b) (same ∙ there);
      shape = ap (λ (x : ScanWriter). x.shape) on.3;
      way = record {
        slots = ap (λ (x : ScanWriter). x.shape.slots) on.3 ∙ way.slots;
        pads = ap (λ (x : ScanWriter). x.pads) on.3 ∙ way.pads;
        begun = subst (λ (m : List ℕ × Spot). length m.1.begun < 8) (sym made) few.few.begun;
        before = subst (λ (m : List ℕ × Spot). AreDrawnDcs m.1.before) (sym made) few.few.before;
        stop = ap (λ (x : ScanWriter). x.stop) on.3 ∙ way.stop;
      };
      count = subst (λ (m : List ℕ × Spot). m.1.count ≡ w.spot.count + 1) (sym made) few.few.count;
    }

-- ---- MCUs that are put one after another

-- after k of n MCUs: the text so far, and that what is left gives the rest
pub record IsAt (n first : ℕ) (old : ScanWriter) (file : List ℕ) (k state : ℕ) (now : ScanWriter) (longer : List ℕ) : Type 0 where
  pub way : IsUnderWay now
  pub shape : now.shape ≡ old.shape
  pub count : now.spot.count ≡ old.spot.count + k
  pub text : List ℕ
  pub appended : longer ≡ file ++ text
  pub left : mcus_put old.shape (λ n. true) old.spot (drawn_mcus n first).value
      ≡ prefixed_put text (mcus_put old.shape (λ n. true) now.spot (drawn_mcus (n - k) state).value)

prefixed_twice : (a b : List ℕ) (put : Put) → prefixed_put a (prefixed_put b put) ≡ prefixed_put (a ++ b) put
prefixed_twice a b (Ok made) = ap (λ (l : List ℕ). Ok (l, made.1)) (sym (append_assoc a b made.0))
prefixed_twice a b (Err stop) = refl

pub at_next : (n first : ℕ) (old : ScanWriter) (file : List ℕ) (k state after : ℕ) (now new : ScanWriter) (longer more : List ℕ) → k < n
    → IsAt n first old file k state now longer → PutsMcu state now new longer more → after ≡ (drawn_blocks 3 state).state
    → IsAt n first old file (k + 1) after new more
at_next n first old file k state after now new longer more below at puts then =
    let left : n - k ≡ suc (n - (k + 1)) = omega (arith, below) in
    let put = subst (λ (s : Shape). mcu_put s (λ n. true) now.spot (drawn_blocks 3 state).value ≡ Ok (puts.text, new.spot)) at.shape puts.put in
    let rest = mcus_put old.shape (λ n. true) new.spot (drawn_mcus (n - (k + 1)) after).value in
    record {
      way = puts.way;
      shape = puts.shape ∙ at.shape;
      count = omega (arith, puts.count, at.count);
      text = at.text ++ puts.text;
      appended = puts.appended ∙ ap (λ (l : List ℕ). l ++ puts.text) at.appended ∙ append_assoc file at.text puts.text;
      left = at.left
          ∙ ap (λ m. prefixed_put at.text (mcus_put old.shape (λ n. true) now.spot (drawn_mcus m state).value)) left
          ∙ ap (prefixed_put at.text) (put_next (n - (k + 1)) state old.shape now.spot new.spot puts.text put)
          ∙ ap (λ s. prefixed_put at.text (prefixed_put puts.text (mcus_put old.shape (λ n. true) new.spot (drawn_mcus (n - (k + 1)) s).value))) (sym then)
          ∙ prefixed_twice at.text puts.text rest;
    }

pub at_end : (n first : ℕ) (old : ScanWriter) (file : List ℕ) (k state : ℕ) (now : ScanWriter) (longer : List ℕ) → n ≤ k → IsAt n first old file k state now longer
    → PutsMcus n first old file longer
unfolding mcus_put drawn_mcus
at_end n first old file k state now longer over at =
    let none : n - k ≡ 0 = omega (arith, over) in
    record {
      text = at.text;
      end = now.spot;
      put = at.left ∙ ap (λ m. prefixed_put at.text (mcus_put old.shape (λ n. true) now.spot (drawn_mcus m state).value)) none
          ∙ ap (λ (l : List ℕ). Ok (l, now.spot)) (append-nil at.text);
      appended = at.appended;
    }

-- ---- the file

pub file_is : (seed columns rows : ℕ) (longer : List ℕ) → IsExtent (extent_of seed columns rows)
    → PutsMcus (columns * rows) seed (writer_of (shape_of (sample_plan (extent_of seed columns rows))) (Same true)) (sample_header (extent_of seed columns rows)) longer
    → longer ++ end_of_image ≡ sample_file seed columns rows
unfolding sample_file
file_is seed columns rows longer is puts =
    let e = extent_of seed columns rows in
    let scan = scan_of (shape_of (sample_plan e)) seed puts.text puts.end (sample_shape e is) refl puts.put in
    let same : puts.text ≡ sample_scan seed e = sym (ap bytes_or_none scan) in
    ap (λ (l : List ℕ). l ++ end_of_image) (puts.appended ∙ ap (λ (l : List ℕ). sample_header e ++ l) same)
    ∙ append_assoc (sample_header e) (sample_scan seed e) end_of_image

-- what the whole program writes, step by step
pub sample_done : (seed columns rows : ℕ) (e : Extent) (b0 b1 b2 b3 : List ℕ) (plan : PlanFields) (w : ScanWriter) (mcus state : ℕ) → IsExtent (extent_of seed columns rows)
    → e ≡ extent_of seed columns rows → b0 ≡ [] → b1 ≡ b0 ++ sample_header e → plan ≡ sample_plan e → w ≡ writer_of (shape_of plan) (Same true)
    → mcus ≡ plan.across * plan.down → state ≡ seed → PutsMcus mcus state w b1 b2 → b3 ≡ b2 ++ end_of_image → b3 ≡ sample_file seed columns rows
sample_done seed columns rows e b0 b1 b2 b3 plan w mcus state is extent none header planned writer count from puts end =
    let f = extent_of seed columns rows in
    let b : b1 ≡ sample_header f = header ∙ ap (λ (l : List ℕ). l ++ sample_header e) none ∙ ap sample_header extent in
    let p : plan ≡ sample_plan f = planned ∙ ap sample_plan extent in
    let v : w ≡ writer_of (shape_of (sample_plan f)) (Same true) = writer ∙ ap (λ (q : PlanFields). writer_of (shape_of q) (Same true)) p in
    let m : mcus ≡ columns * rows = count ∙ ap (λ (q : PlanFields). q.across * q.down) p in
    let puts_so : PutsMcus (columns * rows) seed (writer_of (shape_of (sample_plan f)) (Same true)) (sample_header f) b2 =
    subst (λ (n : ℕ). PutsMcus n seed (writer_of (shape_of (sample_plan f)) (Same true)) (sample_header f) b2) m
    (subst (λ (s : ℕ). PutsMcus mcus s (writer_of (shape_of (sample_plan f)) (Same true)) (sample_header f) b2) from
    (subst (λ (x : ScanWriter). PutsMcus mcus state x (sample_header f) b2) v
    (subst (λ (l : List ℕ). PutsMcus mcus state w l b2) b puts))) in
    end ∙ file_is seed columns rows b2 is puts_so
