-- The next MCU of a segment: its blocks are read, and its bytes are put, or there are none for a cause.
use Rattle.std.proofs.Common.{◌≡◌, ℕ, ◌+◌, ◌-◌, ◌<◌, ◌≤◌, Bool, List, ◌++◌, length, ℤ, Result, Ok, Err, refl, sym, ap, ap₂, subst, ◌∙◌, arith, append_assoc}
use Rattle.std.specs.Prelude.{⊤, Option, Some, None}
use Rattle.coef_block.specs.BlockRows.{block_count}
use Rattle.bool_coder.specs.BoolReading.{IsReading}
use Rattle.adapt_bins.specs.Events.{bools_of}
use Rattle.adapt_bins.specs.GotEvents.{HasGot, GetsEvents}
use Rattle.adapt_bins.specs.declared.get.Get.{Get}
use Rattle.scan_spec.specs.Pads.{PadBits, bit_for, padded_after}
use Rattle.scan_spec.specs.ScanCalls.{ScanWriter, McuIsPut, McuIsPutOn}
use Rattle.scan_spec.specs.Scans.{Mcu}
use Rattle.scan_spec.specs.Slots.{Shape}
use Rattle.scan_spec.specs.Spots.{Spot, Put, mcu_put}
use Rattle.scan_spec.specs.declared.stop.WriteStop.{WriteStop}
use Rattle.scan_spec.specs.declared.stop.WriteStop.TheVariants as stops
use Rattle.handover.specs.declared.pads.PadSum.{PadSum}
use Rattle.handover.specs.declared.outcome.StreamCause.{StreamCause}
use Rattle.block_spec.specs.Grid.{Grid}
use Rattle.block_spec.specs.SegmentEvents.{segment_events}
use Rattle.block_spec.specs.declared.fault.BlockFault.{BlockFault}
use Rattle.block_spec.specs.declared.fault.BlockFault.TheVariants as faults
use Rattle.block_code.specs.SegmentUnderWay.{UnderWay, HoldsUpTo, GetsMore, GetsFault}
use Rattle.block_spec.specs.BlockReading.{and_then, blocks_read}
use Rattle.block_spec.specs.ReadingLaws.{HaveGiven}
use Rattle.block_spec.proofs.BlocksRead.{given_blocks_are_read, fault_is_read}
use Rattle.container_spec.specs.Segments.{SegmentFields, Progress, fault_cause, stop_cause, progress_after, mcu_step}
use Rattle.segment_code.specs.Decoding.{DecoderSeen}
use Rattle.segment_code.specs.DecodedPieces.{IsWithin, McuIsMade}
use Rattle.segment_code.proofs.FirstBlocks.{before_fault}
use Rattle.segment_code.proofs.DecodedSteps.{blocks_joined, got_given, got_more, on_fault, count_more}

-- ---- the blocks

-- more blocks were read from the stream
record HasMore (g : Grid) (stream : List ℕ) (coder : Get) (blocks mcu : List (List ℤ))
    : Type 0 where
  pub given : HaveGiven g stream (blocks ++ mcu)
  pub got : HasGot coder stream (segment_events g (blocks ++ mcu))
  pub read : blocks_read g stream blocks (length mcu) ≡ Ok mcu

module _ (g : Grid) (stream : List ℕ) (blocks : List (List ℤ)) (old new : Get)
    (given : HaveGiven g stream blocks) (got : HasGot old stream (segment_events g blocks)) where
  has_more : (mcu : List (List ℤ)) → GetsMore old g blocks new mcu
      → HasMore g stream new blocks mcu
  has_more mcu gets =
      let more = got_more g stream old new blocks mcu got gets in
      let have : HaveGiven g stream (blocks ++ mcu) = record {
        grid = given.grid;
        each = blocks_joined blocks mcu given.each gets.blocks;
        reading = got_given g stream new (segment_events g (blocks ++ mcu)) more;
      } in
      record {
        given = have;
        got = more;
        read = given_blocks_are_read g stream blocks mcu have;
      }

  fault_read : (count : ℕ) (fault : BlockFault) → count ≡ block_count g.mcu
      → GetsFault old g blocks new fault → blocks_read g stream blocks count ≡ Err fault
  fault_read count fault long f =
      let all = blocks ++ f.more in
      let next =
      on_fault (λ es. GetsEvents old (f.events ++ es) new)
      (λ es. IsReading stream (bools_of (segment_events g all ++ es))) _ _ fault
      (λ es gets. subst (λ (l : List (ℕ × Bool)). IsReading stream (bools_of l))
      (sym (append_assoc (segment_events g blocks) f.events es)
      ∙ ap (λ (l : List (ℕ × Bool)). l ++ es) (sym f.are))
      (got_given g stream new (segment_events g blocks ++ (f.events ++ es))
      (gets.on stream (segment_events g blocks) got))) f.fault in
      fault_is_read g stream blocks count fault (record {
        more = f.more;
        few = (let few = f.few in omega (arith, few, long));
        given = record {
          grid = given.grid;
          each = blocks_joined blocks f.more given.each f.blocks;
          reading = before_fault stream (segment_events g all) _ _ fault next;
        };
        next = next;
      })

-- ---- the MCU's step

abbrev step_by : SegmentFields → Progress → Result (List (List ℤ)) BlockFault
    → Result (List ℕ × Progress) StreamCause
step_by s at read =
    and_then (fault_cause read)
    (λ mcu. and_then (stop_cause (mcu_put s.shape (bit_for s.pads) at.spot mcu))
    (λ put. Ok (put.0, progress_after s at mcu put.1)))

step_is : (s : SegmentFields) (at : Progress) (read : Result (List (List ℤ)) BlockFault)
    → blocks_read s.grid s.stream at.blocks (length s.shape.slots) ≡ read
    → mcu_step s at ≡ step_by s at read
unfolding mcu_step
step_is s at read e = ap (step_by s at) e

abbrev put_by : SegmentFields → Progress → Mcu → Put → Result (List ℕ × Progress) StreamCause
put_by s at mcu put =
    and_then (stop_cause put) (λ put. Ok (put.0, progress_after s at mcu put.1))

-- where causes are told apart, whatever was wanted
fault_told : (s : SegmentFields) (at : Progress) (fault : BlockFault) (cause : StreamCause)
    → fault_cause {A = ⊤} (Err fault) ≡ Err cause → step_by s at (Err fault) ≡ Err cause
fault_told s at faults.BlockCount cause e = cc
fault_told s at faults.DcRange cause e = cc

stop_told : (s : SegmentFields) (at : Progress) (mcu : Mcu) (stop : WriteStop) (cause : StreamCause)
    → stop_cause {A = ⊤} (Err stop) ≡ Err cause → put_by s at mcu (Err stop) ≡ Err cause
stop_told s at mcu stops.NoCode cause e = cc
stop_told s at mcu stops.DiffRange cause e = cc

-- ---- a decoder before and after it

module _ (old : DecoderSeen) (s : SegmentFields) (at : Progress) (is : IsWithin old s old.left at)
    (coder : Get) where
  got_here : HasGot old.coder s.stream (segment_events s.grid at.blocks)
  got_here = let decoded = is.decoded in decoded.got

  given_here : HaveGiven s.grid s.stream at.blocks
  given_here = let decoded = is.decoded in decoded.given

  grid_here : old.segment.grid ≡ s.grid
  grid_here = let decoded = is.decoded in decoded.grid

  put_here : (mcu : Mcu)
      → mcu_put old.writer.shape (bit_for old.writer.pads) old.writer.spot mcu
      ≡ mcu_put s.shape (bit_for s.pads) at.spot mcu
  put_here mcu =
      ap₂ (λ (shape : Shape) (spot : Spot). mcu_put shape (bit_for old.writer.pads) spot mcu)
      is.holds.shape is.holds.spot
      ∙ ap (λ (pads : PadBits). mcu_put s.shape (bit_for pads) at.spot mcu) is.holds.pads

  padded_here : (mcu : Mcu)
      → padded_after old.writer.shape old.writer.pads old.writer.spot mcu old.writer.padded
      ≡ padded_after s.shape s.pads at.spot mcu at.padded
  padded_here mcu =
      ap₂ (λ (pads : PadBits) (padded : PadSum).
      padded_after old.writer.shape pads old.writer.spot mcu padded) is.holds.pads is.holds.padded
      ∙ ap₂ (λ (shape : Shape) (spot : Spot). padded_after shape s.pads spot mcu at.padded)
      is.holds.shape is.holds.spot

  -- a fault among its blocks
  pub fault_made : (fault : BlockFault) (cause : StreamCause) (out : List ℕ) (new : DecoderSeen)
      → GetsFault old.coder old.segment.grid at.blocks coder fault
      → fault_cause {A = ⊤} (Err fault) ≡ Err cause
      → McuIsMade {A = ⊤} s old.left at out (Err cause) new out
  fault_made fault cause out new gets told = (
    step_is s at (Err fault)
        (fault_read s.grid s.stream at.blocks old.coder coder given_here got_here (length s.shape.slots) fault (let suits = is.holds.suits in suits.blocks)
        (subst (λ (g : Grid). GetsFault old.coder g at.blocks coder fault) grid_here gets))
        ∙ fault_told s at fault cause told,
    refl,
  )

  module _ (mcu : Mcu) (long : length mcu ≡ length s.shape.slots)
      (gets : GetsMore old.coder old.segment.grid at.blocks coder mcu) where
    more_here : HasMore s.grid s.stream coder at.blocks mcu
    more_here =
        has_more s.grid s.stream at.blocks old.coder coder given_here got_here mcu
        (subst (λ (g : Grid). GetsMore old.coder g at.blocks coder mcu) grid_here gets)

    -- its step is what is put
    made_here : (put : Put)
        → mcu_put old.writer.shape (bit_for old.writer.pads) old.writer.spot mcu ≡ put
        → mcu_step s at ≡ put_by s at mcu put
    made_here put e =
        step_is s at (Ok mcu)
        (let more = more_here in
        ap (blocks_read s.grid s.stream at.blocks) (sym long) ∙ more.read)
        ∙ ap (put_by s at mcu) (sym (put_here mcu) ∙ e)

    -- it has no bytes
    pub stop_made : (stop : WriteStop) (cause : StreamCause) (out out_new : List ℕ)
        (new : DecoderSeen)
        → mcu_put old.writer.shape (bit_for old.writer.pads) old.writer.spot mcu ≡ Err stop
        → out_new ≡ out → stop_cause {A = ⊤} (Err stop) ≡ Err cause
        → McuIsMade {A = ⊤} s old.left at out (Err cause) new out_new
    stop_made stop cause out out_new new put same told =
        (made_here (Err stop) put ∙ stop_told s at mcu stop cause told, same)

    -- it has these bytes
    pub mcu_made : (segment : UnderWay) (writer : ScanWriter) (left : ℕ) (out out_new : List ℕ)
        → segment.grid ≡ old.segment.grid → HoldsUpTo segment (at.blocks ++ mcu)
        → 0 < old.left → left ≡ old.left - 1
        → McuIsPutOn {A = ⊤} old.writer mcu out (Ok tt) writer out_new
        → McuIsMade {A = ⊤} s old.left at out (Ok tt)
        (record old { coder = coder; segment = segment; writer = writer; left = left }) out_new
    mcu_made segment writer left out out_new grid held some less put =
        let more = more_here in
        let next = progress_after s at mcu writer.spot in
        let counted = count_more s.shape (bit_for s.pads) at.spot writer.spot mcu put.0
        (sym (put_here mcu) ∙ put.1) in
        let before = is.holds.within in (
          put.0,
          next,
          made_here (Ok (put.0, writer.spot)) put.1,
          put.2,
          record {
            holds = record {
              running = is.holds.running;
              within = omega (arith, counted, before, some);
              suits = is.holds.suits;
              number = is.holds.number;
              still = less;
              next = is.holds.next;
              kept = is.holds.kept;
              shape = ap (λ (w : ScanWriter). w.shape) put.3 ∙ is.holds.shape;
              pads = ap (λ (w : ScanWriter). w.pads) put.3 ∙ is.holds.pads;
              spot = refl;
              padded = ap (λ (w : ScanWriter). w.padded) put.3
                  ∙ padded_here mcu;
              unstopped = ap (λ (w : ScanWriter). w.stop) put.3 ∙ is.holds.unstopped;
            };
            started = is.started;
            starts_is = is.starts_is;
            decoded = record {
              given = more.given;
              got = more.got;
              grid = grid ∙ grid_here;
              held = held;
            };
          },
        )

-- ---- what a writer keeps, whatever came of it

pub stop_keeps : (stop : Option WriteStop) (old new : ScanWriter) (mcu : Mcu)
    (out out_new : List ℕ) (cause : WriteStop)
    → McuIsPut {A = ⊤} stop old mcu out (Err cause) new out_new
    → (new.shape ≡ old.shape) × (new.spot ≡ old.spot)
stop_keeps None old new mcu out out_new cause put =
    (ap (λ (w : ScanWriter). w.shape) put.2, ap (λ (w : ScanWriter). w.spot) put.2)
stop_keeps (Some stop) old new mcu out out_new cause put =
    (ap (λ (w : ScanWriter). w.shape) put.2, ap (λ (w : ScanWriter). w.spot) put.2)

pub put_keeps : (stop : Option WriteStop) (old new : ScanWriter) (mcu : Mcu)
    (out out_new : List ℕ) → McuIsPut {A = ⊤} stop old mcu out (Ok tt) new out_new
    → (new.shape ≡ old.shape) × (new.spot.count ≤ old.spot.count + 1)
put_keeps None old new mcu out out_new put =
    let more = count_more old.shape (bit_for old.pads) old.spot new.spot mcu put.0 put.1 in
    (ap (λ (w : ScanWriter). w.shape) put.3, omega (arith, more))
put_keeps (Some stop) old new mcu out out_new put =
    let same = ap (λ (w : ScanWriter). w.spot.count) put.2 in
    (ap (λ (w : ScanWriter). w.shape) put.2, omega (arith, same))
