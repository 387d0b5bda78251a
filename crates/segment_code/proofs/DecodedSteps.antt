-- What a decoder got and put with an MCU more.
use Rattle.std.proofs.Common.{◌≡◌, ℕ, ◌+◌, Bool, true, false, List, [], ◌∷◌, ◌++◌, ℤ, Ok, Err, refl, sym, ap, ◌∙◌, subst}
use Rattle.std.specs.Prelude.{if◌then◌else◌}
use Rattle.std.specs.List.{AllByRecursion}
use Rattle.coef_block.specs.Block.{IsBlock}
use Rattle.bool_coder.specs.BoolReading.{IsReading}
use Rattle.adapt_bins.specs.Events.{bools_of}
use Rattle.adapt_bins.specs.GotEvents.{HasGot}
use Rattle.adapt_bins.specs.declared.get.Get.{Get}
use Rattle.bit_list.specs.Bits.{begun_after}
use Rattle.scan_spec.specs.BlockBits.{Text}
use Rattle.scan_spec.specs.Blocks.{blocks_text, dcs_after}
use Rattle.scan_spec.specs.Scans.{Mcu, no_dcs}
use Rattle.scan_spec.specs.Slots.{Shape}
use Rattle.scan_spec.specs.Spots.{Spot, is_closed, put_bits, put_text, spot_in, mcu_put}
use Rattle.block_spec.specs.Around.{Around}
use Rattle.block_spec.specs.Grid.{Grid}
use Rattle.block_spec.specs.ReadBlocks.{IsRead}
use Rattle.block_spec.specs.SegmentEvents.{segment_events}
use Rattle.block_spec.specs.declared.fault.BlockFault.{BlockFault}
use Rattle.block_spec.specs.declared.fault.BlockFault.TheVariants.{BlockCount, DcRange}
use Rattle.block_code.specs.SegmentUnderWay.{GetsMore}

pub blocks_joined : (xs ys : List (List ℤ)) → AllByRecursion IsBlock xs → AllByRecursion IsBlock ys → AllByRecursion IsBlock (xs ++ ys)
blocks_joined [] ys p q = q
blocks_joined (x ∷ xs) ys p q = (p.0, blocks_joined xs ys p.1 q)

pub got_given : (g : Grid) (bytes : List ℕ) (coder : Get) (events : List (ℕ × Bool)) → HasGot coder bytes events → IsReading bytes (bools_of events)
got_given g bytes coder events got = let r = got.reads in subst (λ (l : List ℕ). IsReading l (bools_of events)) got.source r.given

pub got_more : (g : Grid) (bytes : List ℕ) (old new : Get) (done more : List (List ℤ)) → HasGot old bytes (segment_events g done) → GetsMore old g done new more → HasGot new bytes (segment_events g (done ++ more))
got_more g bytes old new done more got gets =
    let step = gets.gets in
    subst (HasGot new bytes) (sym gets.are) (step.on bytes (segment_events g done) got)

-- what is put by whether an interval ends
abbrev either : Bool → List ℕ → List ℕ → Spot → Spot → List ℕ × Spot
either t x y s u = if t then (x, s) else (y, u)

count_picked : (t : Bool) (x y : List ℕ) (s u : Spot) (n : ℕ) → s.count ≡ n → u.count ≡ n → (either t x y s u).1.count ≡ n
count_picked true x y s u n p q = p
count_picked false x y s u n p q = q

counted_by : (t : Text) (shape : Shape) (pads : ℕ → Bool) (spot last : Spot) (before : List ℤ) (text : List ℕ) → put_text shape pads spot before t ≡ Ok (text, last) → last.count ≡ spot.count + 1
counted_by (Ok bits) shape pads spot last before text e =
    let same : (put_bits shape pads spot before bits).1 ≡ last = ap spot_in e in
    sym (ap (λ (s : Spot). s.count) same) ∙ count_picked (is_closed shape (spot.count + 1)) _ _ (record { begun = []; before = no_dcs; count = spot.count + 1 }) (record { begun = begun_after spot.begun bits; before = before; count = spot.count + 1 }) (spot.count + 1) refl refl
counted_by (Err stop) shape pads spot last before text e = cc

pub count_more : (shape : Shape) (pads : ℕ → Bool) (spot last : Spot) (mcu : Mcu) (text : List ℕ) → mcu_put shape pads spot mcu ≡ Ok (text, last) → last.count ≡ spot.count + 1
unfolding mcu_put
count_more shape pads spot last mcu text e = counted_by (blocks_text shape.slots spot.before mcu) shape pads spot last (dcs_after shape.slots spot.before mcu) text e

pub on_fault : (codes other : List (ℕ × Bool) → Type 0) (class : ℕ) (around : Around) (f : BlockFault) → ((es : List (ℕ × Bool)) → codes es → other es) → IsRead codes class around (Err f) → IsRead other class around (Err f)
on_fault codes other class around BlockCount step r = record { count = r.count; many = r.many; six_bits = r.six_bits; coded = step _ r.coded }
on_fault codes other class around DcRange step r = record { block = r.block; residue = r.residue; is_block = r.is_block; sixteen = r.sixteen; outside = r.outside; coded = step _ r.coded }
