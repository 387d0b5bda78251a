-- The scan of a sample has bytes, and they are few.
use Rattle.std.proofs.Common.{◌≡◌, ℕ, zero, suc, ◌*◌, ◌<◌, ◌≤◌, true, List, [], ◌∷◌, ◌++◌, length, ℤ, Ok, refl, sym, ap, subst, ◌∙◌, arith, length-append}
use Rattle.std.specs.List.{AllByRecursion}
use Rattle.coef_block.specs.Block.{IsBlock}
use Rattle.scan_spec.specs.Scans.{AreMcus, IsMcu, scan_bytes}
use Rattle.scan_spec.specs.ScanLaws.{IsShape, bytes_in}
use Rattle.scan_spec.specs.Slots.{Shape}
use Rattle.scan_spec.specs.Spots.{Spot, first_spot, mcu_put, mcus_put, prefixed_put, then_put}
use Rattle.scan_spec.proofs.PutWhole.{put_whole}
use Rattle.sample_jpeg.specs.DrawnMcus.{drawn_blocks, drawn_mcus}
use Rattle.sample_jpeg.specs.SampleWriting.{AreDrawnDcs, sample_slots}
use Rattle.sample_jpeg.proofs.DrawnBlocks.{IsDrawn, drawn_is_block}
use Rattle.sample_jpeg.proofs.SampleMcus.{AreBytes, all_both, blocks_drawn, length-drawn_blocks, mcu_few}

-- n MCUs have bytes from a spot on, at most 588 each
pub record ArePutFew (n state : ℕ) (shape : Shape) (spot : Spot) : Type 0 where
  pub text : List ℕ
  pub end : Spot
  pub is : mcus_put shape (λ n. true) spot (drawn_mcus n state).value ≡ Ok (text, end)
  pub few : length text ≤ 588 * n
  pub bytes : AreBytes text

-- the first of them, and then the others
pub put_next : (n state : ℕ) (shape : Shape) (spot next : Spot) (text : List ℕ) → mcu_put shape (λ n. true) spot (drawn_blocks 3 state).value ≡ Ok (text, next)
    → mcus_put shape (λ n. true) spot (drawn_mcus (suc n) state).value
    ≡ prefixed_put text (mcus_put shape (λ n. true) next (drawn_mcus n (drawn_blocks 3 state).state).value)
unfolding drawn_mcus mcus_put
put_next n state shape spot next text e =
    ap (λ p. then_put p (λ s. mcus_put shape (λ n. true) s (drawn_mcus n (drawn_blocks 3 state).state).value)) e

pub mcus_few : (n state : ℕ) (shape : Shape) (spot : Spot) → shape.slots ≡ sample_slots → length spot.begun < 8 → AreDrawnDcs spot.before → ArePutFew n state shape spot
unfolding drawn_mcus mcus_put
mcus_few zero state shape spot slots below dcs = record { text = []; end = spot; is = refl; few = omega arith; bytes = tt }
mcus_few (suc n) state shape spot slots below dcs =
    let first = mcu_few shape spot state slots below dcs in
    let text = first.made.0 in
    let next = first.made.1 in
    let rest = mcus_few n (drawn_blocks 3 state).state shape next slots first.few.begun first.few.before in
    record {
      text = text ++ rest.text;
      end = rest.end;
      is = put_next n state shape spot next text first.is ∙ ap (prefixed_put text) rest.is;
      few = omega (arith, length-append text rest.text, first.few.few, rest.few);
      bytes = all_both text rest.text first.few.bytes rest.bytes;
    }

-- ---- the grid

all_blocks : (blocks : List (List ℤ)) → AllByRecursion IsDrawn blocks → AllByRecursion IsBlock blocks
all_blocks [] all = tt
all_blocks (block ∷ blocks) all = (drawn_is_block block all.0, all_blocks blocks all.1)

length-drawn_mcus : (n state : ℕ) → length (drawn_mcus n state).value ≡ n
unfolding drawn_mcus
length-drawn_mcus zero state = refl
length-drawn_mcus (suc n) state = ap suc (length-drawn_mcus n (drawn_blocks 3 state).state)

are_mcus : (n state : ℕ) → AllByRecursion (IsMcu sample_slots) (drawn_mcus n state).value
unfolding drawn_mcus
are_mcus zero state = tt
are_mcus (suc n) state =
    ((length-drawn_blocks 3 state, all_blocks (drawn_blocks 3 state).value (blocks_drawn 3 state)), are_mcus n (drawn_blocks 3 state).state)

pub in_grid : (shape : Shape) (state : ℕ) → shape.slots ≡ sample_slots → AreMcus shape (drawn_mcus shape.mcus state).value
in_grid shape state slots = record {
  count = length-drawn_mcus shape.mcus state;
  each = subst (λ s. AllByRecursion (IsMcu s) (drawn_mcus shape.mcus state).value) (sym slots) (are_mcus shape.mcus state);
}

-- ---- the scan

-- the text of the MCUs is the scan's bytes
pub scan_of : (shape : Shape) (state : ℕ) (text : List ℕ) (end : Spot) → IsShape shape → shape.slots ≡ sample_slots
    → mcus_put shape (λ n. true) first_spot (drawn_mcus shape.mcus state).value ≡ Ok (text, end)
    → scan_bytes shape (λ n. true) (drawn_mcus shape.mcus state).value ≡ Ok text
scan_of shape state text end is slots e =
    sym (put_whole shape (λ n. true) (drawn_mcus shape.mcus state).value is (in_grid shape state slots)) ∙ ap bytes_in e
