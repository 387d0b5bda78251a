-- What bytes give is what is read.
use Rattle.std.proofs.Common.{◌≡◌, ℕ, zero, suc, ◌<◌, List, [], ◌∷◌, ◌++◌, length, refl, sym, ap, ◌∙◌, subst, arith, Result, Ok, Err, append_assoc, append-nil}
use Rattle.std.specs.Prelude.{ℤ}
use Rattle.block_spec.specs.Around.{Around}
use Rattle.block_spec.specs.Grid.{Grid, Cell, cell_at}
use Rattle.block_spec.specs.ReadBlocks.{IsRead}
use Rattle.block_spec.specs.SegmentEvents.{segment_events, around_in, class_of}
use Rattle.block_spec.specs.declared.fault.BlockFault.{BlockFault}
use Rattle.block_spec.specs.declared.fault.BlockFault.TheVariants.{BlockCount, DcRange}
use Rattle.block_spec.proofs.Given.{answers_one}
use Rattle.block_spec.proofs.Predicted.{prediction_fits}
use Rattle.block_spec.proofs.SegmentsOnce.{around_blocks}
use Rattle.block_spec.specs.AskedBlocks.{asked_block}
use Rattle.block_spec.specs.BlockReading.{bit_given, block_read, and_then, blocks_read}
use Rattle.block_spec.specs.ReadingLaws.{HaveGiven, GivesNext, GivesFault, ReadIsGiven, GivenIsRead, BlocksAreGiven, GivenBlocksAreRead, FaultIsRead, FaultIsGiven}
use Rattle.block_spec.proofs.Spelling.{Events, AreRead, told_is_spelled, given_are_read}
use Rattle.block_spec.proofs.BlockSpelled.{block_spelled}
use Rattle.block_spec.proofs.FirstGiven.{given_first, given_next, given_more}

-- what is read of some events is read of others
read_of : (P Q : Events → Type 0) (class : ℕ) (around : Around) (r : Result (List ℤ) BlockFault)
    → ((es : Events) → P es → Q es) → IsRead P class around r → IsRead Q class around r
read_of P Q class around (Ok b) more is = (is.0, more _ is.1)
read_of P Q class around (Err BlockCount) more is =
    record { count = is.count; many = is.many; six_bits = is.six_bits; coded = more _ is.coded }
read_of P Q class around (Err DcRange) more is = record {
  block = is.block;
  residue = is.residue;
  is_block = is.is_block;
  sixteen = is.sixteen;
  outside = is.outside;
  coded = more _ is.coded;
}

pub read_is_given : ReadIsGiven
unfolding block_read
read_is_given g bytes blocks have =
    let cell : Cell = cell_at g (length blocks) in
    let class : ℕ = class_of cell.component in
    let around : Around = around_in g blocks cell in
    let earlier : Events = segment_events g blocks in
    let told = told_is_spelled (bit_given bytes) (asked_block class around) earlier in
    let all = given_are_read bytes earlier told.events have.reading told.given in
    read_of (λ es. es ≡ told.events) (λ es. AreRead bytes (earlier ++ es)) class around _
    (λ es e. subst (λ (xs : Events). AreRead bytes (earlier ++ xs)) (sym e) all)
    (block_spelled class around _ told.events told.spelled)

pub given_is_read : GivenIsRead
given_is_read g bytes blocks result have next =
    let cell : Cell = cell_at g (length blocks) in
    let around : Around = around_in g blocks cell in
    answers_one bytes (segment_events g blocks) (class_of cell.component) around
    (block_read g bytes blocks) result
    (prediction_fits around (around_blocks g blocks cell have.each))
    (read_is_given g bytes blocks have) next

pub given_blocks_are_read : GivenBlocksAreRead
unfolding blocks_read
given_blocks_are_read g bytes blocks [] have = refl
given_blocks_are_read g bytes blocks (b ∷ more) have =
    let first =
    given_is_read g bytes blocks (Ok b) (given_first g bytes blocks (b ∷ more) have)
    (given_next g bytes blocks b more have) in
    let rest =
    given_blocks_are_read g bytes (blocks ++ b ∷ []) more
    (subst (HaveGiven g bytes) (sym (append_assoc blocks (b ∷ []) more)) have) in
    rw (first, rest) refl

-- a fault is read after blocks
fault_read : (g : Grid) (bytes : List ℕ) (blocks more : List (List ℤ)) (count : ℕ)
    (fault : BlockFault) → length more < count → HaveGiven g bytes (blocks ++ more)
    → GivesNext g bytes (blocks ++ more) (Err fault) → blocks_read g bytes blocks count ≡ Err fault
unfolding blocks_read
fault_read g bytes blocks more zero fault few have next = absurd (omega (arith, few))
fault_read g bytes blocks [] (suc count) fault few have next =
    let none = append-nil blocks in
    let first =
    given_is_read g bytes blocks (Err fault) (subst (HaveGiven g bytes) none have)
    (subst (λ (bs : List (List ℤ)). GivesNext g bytes bs (Err fault)) none next) in
    rw first refl
fault_read g bytes blocks (b ∷ more) (suc count) fault few have next =
    let order = sym (append_assoc blocks (b ∷ []) more) in
    let first =
    given_is_read g bytes blocks (Ok b) (given_first g bytes blocks (b ∷ more) have)
    (given_next g bytes blocks b more have) in
    let rest =
    fault_read g bytes (blocks ++ b ∷ []) more count fault (omega (arith, few))
    (subst (HaveGiven g bytes) order have)
    (subst (λ (bs : List (List ℤ)). GivesNext g bytes bs (Err fault)) order next) in
    rw (first, rest) refl

pub fault_is_read : FaultIsRead
fault_is_read g bytes blocks count fault gives =
    fault_read g bytes blocks gives.more count fault gives.few gives.given gives.next

-- a block and those after it, or the first fault
abbrev joined : List ℤ → Result (List (List ℤ)) BlockFault → Result (List (List ℤ)) BlockFault
joined block r = and_then r (λ more. Ok (block ∷ more))

abbrev then_read : Grid → List ℕ → List (List ℤ) → ℕ → Result (List ℤ) BlockFault
    → Result (List (List ℤ)) BlockFault
then_read g bytes blocks count r =
    and_then r (λ block. joined block (blocks_read g bytes (blocks ++ block ∷ []) count))

-- what a list of blocks that was read began with
joined_blocks : (b : List ℤ) (r : Result (List (List ℤ)) BlockFault) (more : List (List ℤ))
    → joined b r ≡ Ok more → (rest : List (List ℤ)) × (r ≡ Ok rest) × (b ∷ rest ≡ more)
joined_blocks b (Ok rest) more e = (rest, refl, cc)
joined_blocks b (Err f) more e = absurd (cc)

joined_fault : (b : List ℤ) (r : Result (List (List ℤ)) BlockFault) (fault : BlockFault)
    → joined b r ≡ Err fault → r ≡ Err fault
joined_fault b (Ok rest) fault e = absurd (cc)
joined_fault b (Err f) fault e = cc

pub blocks_are_given : BlocksAreGiven
unfolding blocks_read
blocks_are_given g bytes blocks more zero have e =
    let none : [] ≡ more = cc in (
      ap length (sym none),
      subst (λ (bs : List (List ℤ)). HaveGiven g bytes (blocks ++ bs)) none
          (subst (HaveGiven g bytes) (sym (append-nil blocks)) have),
    )
blocks_are_given g bytes blocks more (suc count) have e =
    elim (block_read g bytes blocks) as (λ r. GivesNext g bytes blocks r
    → then_read g bytes blocks count r ≡ Ok more
    → (length more ≡ suc count) × HaveGiven g bytes (blocks ++ more)) [
      | Ok b ↦ λ next f.
          let parts = joined_blocks b (blocks_read g bytes (blocks ++ b ∷ []) count) more f in
          let rest =
          blocks_are_given g bytes (blocks ++ b ∷ []) parts.0 count
          (given_more g bytes blocks b have next) parts.1 in (
            ap length (sym parts.2) ∙ ap suc rest.0,
            subst (λ (bs : List (List ℤ)). HaveGiven g bytes (blocks ++ bs)) parts.2
                (subst (HaveGiven g bytes) (append_assoc blocks (b ∷ []) parts.0) rest.1),
          )
      | Err fault ↦ λ next f. absurd (cc)
    ] (read_is_given g bytes blocks have) e

fault_later : (g : Grid) (bytes : List ℕ) (blocks : List (List ℤ)) (b : List ℤ) (count : ℕ)
    (fault : BlockFault) → GivesFault g bytes (blocks ++ b ∷ []) count fault
    → GivesFault g bytes blocks (suc count) fault
fault_later g bytes blocks b count fault later =
    let order = append_assoc blocks (b ∷ []) later.more in
    record {
      more = b ∷ later.more;
      few = omega (arith, later.few);
      given = subst (HaveGiven g bytes) order later.given;
      next = subst (λ (bs : List (List ℤ)). GivesNext g bytes bs (Err fault)) order later.next;
    }

fault_here : (g : Grid) (bytes : List ℕ) (blocks : List (List ℤ)) (count : ℕ) (fault : BlockFault)
    → HaveGiven g bytes blocks → GivesNext g bytes blocks (Err fault)
    → GivesFault g bytes blocks (suc count) fault
fault_here g bytes blocks count fault have next =
    let none = sym (append-nil blocks) in
    record {
      more = [];
      few = omega arith;
      given = subst (HaveGiven g bytes) none have;
      next = subst (λ (bs : List (List ℤ)). GivesNext g bytes bs (Err fault)) none next;
    }

pub fault_is_given : FaultIsGiven
unfolding blocks_read
fault_is_given g bytes blocks zero fault have e = absurd (cc)
fault_is_given g bytes blocks (suc count) fault have e =
    elim (block_read g bytes blocks) as (λ r. GivesNext g bytes blocks r
    → then_read g bytes blocks count r ≡ Err fault
    → GivesFault g bytes blocks (suc count) fault) [
      | Ok b ↦ λ next f.
          let later = joined_fault b (blocks_read g bytes (blocks ++ b ∷ []) count) fault f in
          let more = given_more g bytes blocks b have next in
          fault_later g bytes blocks b count fault
          (fault_is_given g bytes (blocks ++ b ∷ []) count fault more later)
      | Err there ↦ λ next f.
          let same : there ≡ fault = cc in
          fault_here g bytes blocks count fault have
          (subst (λ (other : BlockFault). GivesNext g bytes blocks (Err other)) same next)
    ] (read_is_given g bytes blocks have) e
