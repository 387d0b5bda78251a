-- A block more of a segment.
use Rattle.std.proofs.Common.{◌≡◌, ℕ, ◌+◌, ◌*◌, ◌<◌, arith, refl, ap, ◌∙◌, sym, subst, List, [], ◌∷◌, ◌++◌, length, take, get_or, set, Bool, append_assoc}
use Rattle.std.specs.Prelude.{ℤ, Ok, Err}
use Rattle.std.specs.List.{AllByRecursion}
use Rattle.std.proofs.lemmas.List.{append-nil, length-append, take_more, take_more_set}
use Rattle.coef_block.specs.Block.{IsBlock}
use Rattle.adapt_bins.specs.PutEvents.{PutsEvents, puts_none, puts_joined}
use Rattle.adapt_bins.specs.GotEvents.{GetsEvents, gets_none, gets_joined}
use Rattle.adapt_bins.specs.declared.put.Put.{Put}
use Rattle.adapt_bins.specs.declared.get.Get.{Get}
use Rattle.block_spec.specs.Around.{Around}
use Rattle.block_spec.specs.BlockEvents.{block_events}
use Rattle.block_spec.specs.ReadBlocks.{IsRead}
use Rattle.block_spec.specs.declared.fault.BlockFault.{BlockFault}
use Rattle.block_spec.specs.declared.fault.BlockFault.TheVariants.{BlockCount, DcRange}
use Rattle.coef_block.specs.BlockRows.{block_count}
use Rattle.block_spec.specs.Grid.{Grid, Cell, IsCell, IsGrid, cell_at, cell_in, index_of}
use Rattle.block_spec.specs.SegmentEvents.{around_in, class_of, segment_events}
use Rattle.coef_block.specs.BlockRows.{BlockRows, stored}
use Rattle.block_spec.specs.HeldRows.{HoldBlocks, kept_around}
use Rattle.block_spec.proofs.CellsOfBlocks.{cell_at_index, stands}
use Rattle.block_spec.proofs.Segments.{segment_more}
use Rattle.block_spec.proofs.Keeping.{around_is, one_kept}
use Rattle.block_code.specs.SegmentUnderWay.{PutsMore, GetsMore, GetsFault}

-- block k of an MCU comes next
pub record IsNext (g : Grid) (blocks : List (List ℤ)) (row before k : ℕ) : Type 0 where
  pub grid : IsGrid g
  pub mcu : before < g.across
  pub block : k < block_count g.mcu
  pub count : length blocks ≡ (row * g.across + before) * block_count g.mcu + k

pub next_after : (g : Grid) (done more : List (List ℤ)) (row before k : ℕ) → IsGrid g → before < g.across → k < block_count g.mcu
    → length done ≡ (row * g.across + before) * block_count g.mcu → length more ≡ k → IsNext g (done ++ more) row before k
next_after g done more row before k grid mcu block count some = record {
  grid = grid;
  mcu = mcu;
  block = block;
  count = length-append done more ∙ ap (λ (n : ℕ). length done + n) some ∙ ap (λ (n : ℕ). n + k) count;
}

placed_next : (g : Grid) (blocks : List (List ℤ)) (row before k : ℕ) → IsNext g blocks row before k → IsCell g (cell_in g row before k) × (index_of g (cell_in g row before k) ≡ length blocks)
placed_next g blocks row before k next = let s = stands g row before k next.mcu next.block in (s.cell, s.index ∙ sym next.count)

pub place_next : (g : Grid) (blocks : List (List ℤ)) (row before k : ℕ) → IsNext g blocks row before k → cell_at g (length blocks) ≡ cell_in g row before k
place_next g blocks row before k next =
    let here = placed_next g blocks row before k next in
    ap (cell_at g) (sym here.1) ∙ cell_at_index g (cell_in g row before k) next.grid here.0

pub around_next : (v : BlockRows) (g : Grid) (blocks : List (List ℤ)) (row before k : ℕ) → IsNext g blocks row before k → HoldBlocks v g blocks row →
    kept_around v (cell_in g row before k).component (cell_in g row before k).row (cell_in g row before k).column ≡ around_in g blocks (cell_in g row before k)
around_next v g blocks row before k next held =
    let here = placed_next g blocks row before k next in
    around_is v g blocks (cell_in g row before k) here.0 here.1 held

-- the events of the next block, by what the rows hold
pub events_next : (v : BlockRows) (g : Grid) (blocks : List (List ℤ)) (b : List ℤ) (row before k : ℕ) → IsNext g blocks row before k → HoldBlocks v g blocks row →
    segment_events g (blocks ++ b ∷ []) ≡ segment_events g blocks
    ++ block_events (class_of (cell_in g row before k).component) (kept_around v (cell_in g row before k).component (cell_in g row before k).row (cell_in g row before k).column) b
events_next v g blocks b row before k next held =
    segment_more g blocks b next.grid
    ∙ ap (λ (q : Cell). segment_events g blocks ++ block_events (class_of q.component) (around_in g blocks q) b) (place_next g blocks row before k next)
    ∙ ap (λ (a : Around). segment_events g blocks ++ block_events (class_of (cell_in g row before k).component) a b) (sym (around_next v g blocks row before k next held))

-- and the rows with it
pub held_next : (v : BlockRows) (g : Grid) (blocks : List (List ℤ)) (b : List ℤ) (row before k : ℕ) → IsNext g blocks row before k → HoldBlocks v g blocks row →
    HoldBlocks (stored v (cell_in g row before k).component (cell_in g row before k).row (cell_in g row before k).column b) g (blocks ++ b ∷ []) row
held_next v g blocks b row before k next held =
    let here = placed_next g blocks row before k next in
    one_kept v g blocks (cell_in g row before k) b here.0 here.1 held

-- what is near a block of these rows
abbrev pub near_next : BlockRows → Grid → ℕ → ℕ → Around
near_next v g before k = kept_around v (cell_in g 0 before k).component (cell_in g 0 before k).row (cell_in g 0 before k).column

abbrev pub class_next : Grid → ℕ → ℕ → ℕ
class_next g before k = class_of (cell_in g 0 before k).component

pub puts_nothing : (s : Put) (g : Grid) (done : List (List ℤ)) → PutsMore s g done s []
puts_nothing s g done = record { events = []; are = ap (segment_events g) (append-nil done) ∙ sym (append-nil (segment_events g done)); puts = puts_none s }

events_joined : (g : Grid) (done more : List (List ℤ)) (b : List ℤ) (es fs : List (ℕ × Bool)) → segment_events g (done ++ more) ≡ segment_events g done ++ es
    → segment_events g ((done ++ more) ++ b ∷ []) ≡ segment_events g (done ++ more) ++ fs → segment_events g (done ++ (more ++ b ∷ [])) ≡ segment_events g done ++ (es ++ fs)
events_joined g done more b es fs are next =
    sym (ap (segment_events g) (append_assoc done more (b ∷ []))) ∙ next ∙ ap (λ (xs : List (ℕ × Bool)). xs ++ fs) are ∙ append_assoc (segment_events g done) es fs

pub puts_one : (s t u : Put) (v : BlockRows) (g : Grid) (done more : List (List ℤ)) (b : List ℤ) (row before k : ℕ) → IsNext g (done ++ more) row before k → HoldBlocks v g (done ++ more) row
    → PutsMore s g done t more → PutsEvents t (block_events (class_next g before k) (near_next v g before k) b) u → PutsMore s g done u (more ++ b ∷ [])
puts_one s t u v g done more b row before k next held puts one = record {
  events = puts.events ++ block_events (class_next g before k) (near_next v g before k) b;
  are = events_joined g done more b puts.events _ puts.are (events_next v g (done ++ more) b row before k next held);
  puts = puts_joined s t u puts.events _ puts.puts one;
}

pub gets_nothing : (s : Get) (g : Grid) (done : List (List ℤ)) → GetsMore s g done s []
gets_nothing s g done = record { events = []; are = ap (segment_events g) (append-nil done) ∙ sym (append-nil (segment_events g done)); gets = gets_none s; blocks = tt }

pub one_block_more : (more : List (List ℤ)) (b : List ℤ) → AllByRecursion IsBlock more → IsBlock b → AllByRecursion IsBlock (more ++ b ∷ [])
one_block_more [] b all is = (is, tt)
one_block_more (x ∷ more) b all is = (all.0, one_block_more more b all.1 is)

pub gets_one : (s t u : Get) (v : BlockRows) (g : Grid) (done more : List (List ℤ)) (b : List ℤ) (row before k : ℕ) → IsNext g (done ++ more) row before k → HoldBlocks v g (done ++ more) row
    → GetsMore s g done t more → IsRead (λ es. GetsEvents t es u) (class_next g before k) (near_next v g before k) (Ok b) → GetsMore s g done u (more ++ b ∷ [])
gets_one s t u v g done more b row before k next held gets one = record {
  events = gets.events ++ block_events (class_next g before k) (near_next v g before k) b;
  are = events_joined g done more b gets.events _ gets.are (events_next v g (done ++ more) b row before k next held);
  gets = gets_joined s t u gets.events _ gets.gets one.1;
  blocks = one_block_more more b gets.blocks one.0;
}

on_fault : (codes other : List (ℕ × Bool) → Type 0) (class : ℕ) (around : Around) (f : BlockFault) → ((es : List (ℕ × Bool)) → codes es → other es) → IsRead codes class around (Err f) → IsRead other class around (Err f)
on_fault codes other class around BlockCount step r = record { count = r.count; many = r.many; six_bits = r.six_bits; coded = step _ r.coded }
on_fault codes other class around DcRange step r = record { block = r.block; residue = r.residue; is_block = r.is_block; sixteen = r.sixteen; outside = r.outside; coded = step _ r.coded }

pub gets_fault : (s t u : Get) (v : BlockRows) (g : Grid) (done more : List (List ℤ)) (f : BlockFault) (row before k : ℕ) → IsNext g (done ++ more) row before k → length more ≡ k → HoldBlocks v g (done ++ more) row
    → GetsMore s g done t more → IsRead (λ es. GetsEvents t es u) (class_next g before k) (near_next v g before k) (Err f) → GetsFault s g done u f
gets_fault s t u v g done more f row before k next some held gets read = record {
  more = more;
  few = let b = next.block in omega (arith, some, b);
  blocks = gets.blocks;
  events = gets.events;
  are = gets.are;
  fault =
      subst (λ (q : Cell). IsRead (λ es. GetsEvents s (gets.events ++ es) u) (class_of q.component) (around_in g (done ++ more) q) (Err f)) (sym (place_next g (done ++ more) row before k next))
      (on_fault (λ es. GetsEvents t es u) (λ es. GetsEvents s (gets.events ++ es) u) _ _ f (λ es one. gets_joined s t u gets.events es gets.gets one)
      (subst (λ (a : Around). IsRead (λ es. GetsEvents t es u) (class_next g before k) a (Err f)) (around_next v g (done ++ more) row before k next held) read));
}

-- the blocks of a list up to one more
pub take_one : (blocks : List (List ℤ)) (k : ℕ) (b : List ℤ) → k < length blocks → b ≡ get_or blocks k b → take (k + 1) blocks ≡ take k blocks ++ b ∷ []
take_one blocks k b within is = take_more blocks k b within ∙ ap (λ (x : List ℤ). take k blocks ++ x ∷ []) (sym is)

-- the next block stored, by its cell
pub held_on : (v : BlockRows) (g : Grid) (done more : List (List ℤ)) (b : List ℤ) (row before k : ℕ) → IsNext g (done ++ more) row before k → HoldBlocks v g (done ++ more) row →
    HoldBlocks (stored v (cell_in g 0 before k).component (cell_in g 0 before k).row (cell_in g 0 before k).column b) g (done ++ (more ++ b ∷ [])) row
held_on v g done more b row before k next held =
    subst (λ (bs : List (List ℤ)). HoldBlocks (stored v (cell_in g 0 before k).component (cell_in g 0 before k).row (cell_in g 0 before k).column b) g bs row) (append_assoc done more (b ∷ []))
    (held_next v g (done ++ more) b row before k next held)

-- one more set after the first ones
pub take_set : (out : List (List ℤ)) (k : ℕ) (b : List ℤ) → k < length out → take (k + 1) (set out k b) ≡ take k out ++ b ∷ []
take_set out k b within = take_more_set out k b within

-- the count after one more MCU
pub mcu_more : (done more : List (List ℤ)) (row across before b : ℕ) → length done ≡ (row * across + before) * b → length more ≡ b → length (done ++ more) ≡ (row * across + (before + 1)) * b
mcu_more done more row across before b count some =
    length-append done more ∙ ap (λ (n : ℕ). length done + n) some ∙ ap (λ (n : ℕ). n + b) count ∙ one_more (row * across + before) b ∙ ap (λ (n : ℕ). n * b) (assoc (row * across) before)
  where
    one_more : (n b : ℕ) → n * b + b ≡ (n + 1) * b
    one_more n b = omega arith

    assoc : (n m : ℕ) → n + m + 1 ≡ n + (m + 1)
    assoc n m = omega arith

-- a fault by what is near the cell
pub fault_near : (s t : Get) (v : BlockRows) (g : Grid) (before k class component row column : ℕ) (f : BlockFault) → class ≡ class_of component → component ≡ (cell_in g 0 before k).component
    → row ≡ (cell_in g 0 before k).row → column ≡ (cell_in g 0 before k).column → IsRead (λ es. GetsEvents s es t) class (kept_around v component row column) (Err f)
    → IsRead (λ es. GetsEvents s es t) (class_next g before k) (near_next v g before k) (Err f)
fault_near s t v g before k class component row column f a b c d read =
    let near : kept_around v component row column ≡ near_next v g before k = rw (b, c, d) refl in
    subst (λ (x : Around). IsRead (λ es. GetsEvents s es t) (class_next g before k) x (Err f)) near
    (subst (λ (n : ℕ). IsRead (λ es. GetsEvents s es t) n (kept_around v component row column) (Err f)) (a ∙ ap class_of b) read)
