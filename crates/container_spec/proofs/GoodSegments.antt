-- A segment that ends well has MCUs, whose stream is its own.
use Rattle.std.proofs.Common.{◌≡◌, ℕ, zero, suc, Bool, true, false, if◌then◌else◌, List, [], ◌∷◌, ◌++◌, length, Result, Ok, Err, Option, Some, None, refl, sym, ap, subst, ◌∙◌, append_assoc, append-nil, ℤ}
use Rattle.std.specs.Prelude.{bytes_eq, IfSome}
use Rattle.std.specs.List.{AllByRecursion}
use Rattle.std.proofs.lemmas.Slice.Eq.{bytes_eq-Decides}
use Rattle.coef_block.specs.Block.{IsBlock}
use Rattle.scan_spec.specs.Pads.{bit_for}
use Rattle.scan_spec.specs.Scans.{Mcu, IsMcu}
use Rattle.scan_spec.specs.Spots.{Spot, prefixed_put, then_put, mcu_put, mcus_put, spot_in}
use Rattle.scan_spec.specs.declared.stop.WriteStop.{WriteStop}
use Rattle.scan_spec.specs.declared.stop.WriteStop.TheVariants as stops
use Rattle.handover.specs.Handovers.{HandoverFields, IsHandover}
use Rattle.handover.specs.HandoverBytes.{handover_bytes, handover_in}
use Rattle.handover.specs.PadSums.{pads_with}
use Rattle.handover.specs.declared.pads.PadSum.{PadSum}
use Rattle.handover.proofs.FieldBytes.{fields_again}
use Rattle.handover.specs.declared.outcome.Outcome.{Outcome}
use Rattle.handover.specs.declared.outcome.Outcome.TheVariants.{Good}
use Rattle.handover.specs.declared.outcome.StreamCause.{StreamCause}
use Rattle.handover.specs.declared.outcome.StreamCause.TheVariants.{Seam, StreamBad}
use Rattle.handover.proofs.PadsSummed.{sums_more, sums_none}
use Rattle.cut_spec.specs.RowHandovers.{handover_of}
use Rattle.block_spec.specs.declared.fault.BlockFault.{BlockFault}
use Rattle.block_spec.specs.declared.fault.BlockFault.TheVariants as faults
use Rattle.block_spec.specs.BlockReading.{and_then, blocks_read}
use Rattle.block_spec.specs.ReadingLaws.{HaveGiven}
use Rattle.block_spec.proofs.BlocksRead.{blocks_are_given}
use Rattle.container_spec.specs.ScanStream.{blocks_of, blocks_stream}
use Rattle.container_spec.specs.Segments.{SegmentFields, Progress, Output, progress_after, fault_cause, stop_cause, stopped, stream_ending, seam_ending, ending, after_step, mcu_step, mcus_output}
use Rattle.container_spec.specs.SegmentLaws.{Meets, IsGood, IsSpot, CanMeet, GoodHasItsStream, mcus_sum}
use Rattle.container_spec.proofs.SpotsKept.{spot_kept, handover_is}
use Rattle.container_spec.proofs.McusPut.{here}

-- ---- results

and_ok : {A B E : Type 0} (r : Result A E) (f : A → Result B E) (y : B) → and_then r f ≡ Ok y
    → (x : A) × (r ≡ Ok x) × (f x ≡ Ok y)
and_ok (Ok x) f y h = (x, refl, h)
and_ok (Err e) f y h = absurd cc

fault_ok : {A : Type 0} (r : Result A BlockFault) (x : A) → fault_cause r ≡ Ok x → r ≡ Ok x
fault_ok (Ok y) x h = ap (λ (c : Result _ StreamCause). back c) h where
  back : {A : Type 0} → Result A StreamCause → Result A BlockFault
  back (Ok a) = Ok a
  back (Err c) = Err faults.DcRange
fault_ok (Err faults.BlockCount) x h = absurd cc
fault_ok (Err faults.DcRange) x h = absurd cc

stop_ok : {A : Type 0} (r : Result A WriteStop) (x : A) → stop_cause r ≡ Ok x → r ≡ Ok x
stop_ok (Ok y) x h = ap (λ (c : Result _ StreamCause). back c) h where
  back : {A : Type 0} → Result A StreamCause → Result A WriteStop
  back (Ok a) = Ok a
  back (Err c) = Err stops.NoCode
stop_ok (Err stops.NoCode) x h = absurd cc
stop_ok (Err stops.DiffRange) x h = absurd cc

value_of : {A E : Type 0} → A → Result A E → A
value_of d (Ok x) = x
value_of d (Err e) = d

-- ---- one MCU

pub record Stepped (s : SegmentFields) (at : Progress) (bytes : List ℕ)
    (next : Progress) : Type 0 where
  pub mcu : Mcu
  pub spot : Spot
  pub is : IsMcu s.shape.slots mcu
  pub given : HaveGiven s.grid s.stream (at.blocks ++ mcu)
  pub put : mcu_put s.shape (bit_for s.pads) at.spot mcu ≡ Ok (bytes, spot)
  pub at_next : progress_after s at mcu spot ≡ next

last_are : (xs ys : List (List ℤ)) → AllByRecursion IsBlock (xs ++ ys) → AllByRecursion IsBlock ys
last_are [] ys all = all
last_are (x ∷ xs) ys all = last_are xs ys all.1

pub stepped : (s : SegmentFields) (at : Progress) (bytes : List ℕ) (next : Progress)
    → HaveGiven s.grid s.stream at.blocks → mcu_step s at ≡ Ok (bytes, next)
    → Stepped s at bytes next
unfolding mcu_step value_of
stepped s at bytes next have h =
    let read = blocks_read s.grid s.stream at.blocks (length s.shape.slots) in
    let p = and_ok (fault_cause read)
    (λ mcu. and_then (stop_cause (mcu_put s.shape (bit_for s.pads) at.spot mcu))
    (λ (put : List ℕ × Spot). Ok (put.0, progress_after s at mcu put.1))) (bytes, next) h in
    let q = and_ok (stop_cause (mcu_put s.shape (bit_for s.pads) at.spot p.0))
    (λ (put : List ℕ × Spot). Ok (put.0, progress_after s at p.0 put.1)) (bytes, next) p.2 in
    let e = ap (value_of (bytes, next)) q.2 in
    let given = blocks_are_given s.grid s.stream at.blocks p.0 (length s.shape.slots) have
    (fault_ok read p.0 p.1) in
    record {
      mcu = p.0;
      spot = q.0.1;
      is = (given.0, last_are at.blocks p.0 given.1.each);
      given = given.1;
      put = stop_ok (mcu_put s.shape (bit_for s.pads) at.spot p.0) q.0 q.1
          ∙ ap (λ (l : List ℕ). Ok (l, q.0.1)) (ap (λ (x : List ℕ × Progress). x.0) e);
      at_next = ap (λ (x : List ℕ × Progress). x.1) e;
    }

-- ---- endings

good_test : (t : Bool) (s : SegmentFields) (a : Output) (cause : StreamCause) (bytes : List ℕ)
    (padded : PadSum) → (if t then a else stopped s cause) ≡ (bytes, Good padded)
    → (t ≡ true) × (a ≡ (bytes, Good padded))
good_test true s a cause bytes padded h = (refl, h)
good_test false s a cause bytes padded h =
    absurd (let e = ap (λ (o : Output). o.1) h in cc)

record Ended (s : SegmentFields) (at : Progress) (bytes : List ℕ) (padded : PadSum) : Type 0 where
  pub stream : blocks_stream s.grid at.blocks ≡ s.stream
  pub none : [] ≡ bytes
  pub padded_is : at.padded ≡ padded

good_stream : (s : SegmentFields) (at : Progress) (bytes : List ℕ) (padded : PadSum)
    → stream_ending s at ≡ (bytes, Good padded) → Ended s at bytes padded
good_stream s at bytes padded h =
    let g = good_test (bytes_eq (blocks_stream s.grid at.blocks) s.stream) s ([], Good at.padded)
    StreamBad bytes padded h in
    record {
      stream = (bytes_eq-Decides (blocks_stream s.grid at.blocks) s.stream).0 g.0;
      none = ap (λ (o : Output). o.0) g.1;
      padded_is = padded_same (ap (λ (o : Output). o.1) g.1);
    } where
      padded_same : {a b : PadSum} → Good a ≡ Good b → a ≡ b
      padded_same e = cc

one_handover : (h k : HandoverFields) → IsHandover h → IsHandover k
    → handover_bytes h ≡ handover_bytes k → h ≡ k
one_handover h k is are e =
    sym (fields_again h is).1 ∙ ap handover_in e ∙ (fields_again k are).1

good_end : (s : SegmentFields) (at : Progress) (next : Option HandoverFields)
    (found : HandoverFields) (bytes : List ℕ) (padded : PadSum) → IsHandover found
    → IfSome next IsHandover → seam_ending s at found next ≡ (bytes, Good padded)
    → Meets found next × Ended s at bytes padded
good_end s at None found bytes padded is are h = (tt, good_stream s at bytes padded h)
good_end s at (Some kept) found bytes padded is are h =
    let k = good_test (bytes_eq (handover_bytes found) (handover_bytes kept)) s (stream_ending s at)
    (Seam found kept) bytes padded h in (
      one_handover found kept is are
          ((bytes_eq-Decides (handover_bytes found) (handover_bytes kept)).0 k.0),
      good_stream s at bytes padded k.1,
    )

-- ---- all MCUs

-- a segment that ended well, and what was padded
abbrev IsGoodWith : SegmentFields → Progress → ℕ → List ℕ → PadSum → Type 0
IsGoodWith s at left bytes padded =
    (good : IsGood s at left bytes)
    × (padded ≡ pads_with at.padded (mcus_sum s.shape s.pads at.spot good.mcus))

good_none : (s : SegmentFields) (at : Progress) (bytes : List ℕ) (padded : PadSum) → CanMeet s
    → IsSpot at.spot → ending s at ≡ (bytes, Good padded) → IsGoodWith s at 0 bytes padded
unfolding ending mcus_put
good_none s at bytes padded can spot h =
    let g = good_end s at s.next (handover_of s.shape at.spot) bytes padded
    (handover_is s.shape at.spot can.few spot) can.next h in (
      record {
        mcus = [];
        end = at.spot;
        long = refl;
        each = tt;
        text = ap (λ (l : List ℕ). Ok (l, at.spot)) g.1.none;
        stream = ap (blocks_stream s.grid) (append-nil at.blocks) ∙ g.1.stream;
        seam = g.0;
      },
      sym g.1.padded_is ∙ sym (sums_none at.padded),
    )

good_more : (left : ℕ) (s : SegmentFields) (at : Progress) (mcu : Mcu) (spot : Spot)
    (before rest : List ℕ) (padded : PadSum) → IsMcu s.shape.slots mcu
    → mcu_put s.shape (bit_for s.pads) at.spot mcu ≡ Ok (before, spot)
    → IsGoodWith s (progress_after s at mcu spot) left rest padded
    → IsGoodWith s at (suc left) (before ++ rest) padded
unfolding mcus_put
good_more left s at mcu spot before rest padded is put (g, p) = (
  record {
    mcus = mcu ∷ g.mcus;
    end = g.end;
    long = ap suc g.long;
    each = (is, g.each);
    text = ap (λ q. then_put q (λ next. mcus_put s.shape (bit_for s.pads) next g.mcus)) put
        ∙ ap (prefixed_put before) g.text;
    stream = ap (blocks_stream s.grid) (sym (append_assoc at.blocks mcu (blocks_of g.mcus)))
        ∙ g.stream;
    seam = g.seam;
  },
  p ∙ sums_more at.padded (here s at mcu) (mcus_sum s.shape s.pads spot g.mcus)
      ∙ ap (λ (end : Spot).
      pads_with at.padded (pads_with (here s at mcu) (mcus_sum s.shape s.pads end g.mcus)))
      (sym (ap spot_in put)),
)

-- after a step, where what is left of a segment that ends well has its stream
abbrev Again : ℕ → SegmentFields → PadSum → Type 0
Again left s padded =
    (next : Progress) (rest : List ℕ) → IsSpot next.spot → HaveGiven s.grid s.stream next.blocks
    → mcus_output left s next ≡ (rest, Good padded) → IsGoodWith s next left rest padded

one_spot : (s : SegmentFields) (at : Progress) (mcu : Mcu) (spot : Spot) (bytes : List ℕ)
    → IsSpot at.spot → IsMcu s.shape.slots mcu
    → mcu_put s.shape (bit_for s.pads) at.spot mcu ≡ Ok (bytes, spot) → IsSpot spot
unfolding mcus_put
one_spot s at mcu spot bytes is each put =
    spot_kept s.shape (bit_for s.pads) (mcu ∷ []) at.spot spot (bytes ++ []) (each, tt) is
    (ap (λ q. then_put q (λ next. mcus_put s.shape (bit_for s.pads) next [])) put)

good_step : (left : ℕ) (s : SegmentFields) (at : Progress) (bytes : List ℕ) (padded : PadSum)
    (r : Result (List ℕ × Progress) StreamCause) → IsSpot at.spot
    → HaveGiven s.grid s.stream at.blocks → Again left s padded → mcu_step s at ≡ r
    → after_step s r (λ next. mcus_output left s next) ≡ (bytes, Good padded)
    → IsGoodWith s at (suc left) bytes padded
good_step left s at bytes padded (Err cause) spot have again e h =
    absurd (let n = ap (λ (o : Output). o.1) h in cc)
good_step left s at bytes padded (Ok made) spot have again e h =
    let m = stepped s at made.0 made.1 have e in
    let next = progress_after s at m.mcu m.spot in
    let rest = (mcus_output left s made.1).0 in
    let outcome : mcus_output left s made.1 ≡ (rest, Good padded) =
    ap (λ (o : Outcome). let p : Output = (rest, o) in p) (ap (λ (o : Output). o.1) h) in
    let later = ap (mcus_output left s) m.at_next ∙ outcome in
    let more = again next rest (one_spot s at m.mcu m.spot made.0 spot m.is m.put) m.given later in
    subst (λ (l : List ℕ). IsGoodWith s at (suc left) l padded) (ap (λ (o : Output). o.0) h)
    (good_more left s at m.mcu m.spot made.0 rest padded m.is m.put more)

good : (left : ℕ) (s : SegmentFields) (at : Progress) (bytes : List ℕ) (padded : PadSum)
    → CanMeet s → IsSpot at.spot → HaveGiven s.grid s.stream at.blocks
    → mcus_output left s at ≡ (bytes, Good padded) → IsGoodWith s at left bytes padded
unfolding mcus_output
good zero s at bytes padded can spot have h = good_none s at bytes padded can spot h
good (suc left) s at bytes padded can spot have h =
    good_step left s at bytes padded (mcu_step s at) spot have
    (λ next rest is given e. good left s next rest padded can is given e) refl h

pub good_has_its_stream : GoodHasItsStream
good_has_its_stream s at left bytes padded can spot have h =
    good left s at bytes padded can spot have h
