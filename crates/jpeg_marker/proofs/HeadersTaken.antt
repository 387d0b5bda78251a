-- The plan of every header that is taken.
use Rattle.std.proofs.Common.{◌≡◌, ℕ, zero, suc, ◌+◌, ◌*◌, ◌≤◌, Bool, true, false, List, [], ◌∷◌, ◌++◌, length, take, drop, map, flat_map, Option, Some, None, IfSome, option_map, refl, ap, sym, ◌∙◌, arith, subst, cond, ltb, replicate, length-append}
use Rattle.std.specs.List.{AllByRecursion, list_any}
use Rattle.std.proofs.lemmas.List.{take_at, length-map, length-take-le, length-drop}
use Rattle.std.proofs.lemmas.List.Concat.{flat_map-append}
use Rattle.std.proofs.lemmas.Bool.Decides.{nat_tests}
use Rattle.jpeg_marker.specs.declared.refusal.HeaderRefusal.{HeaderRefusal}
use Rattle.jpeg_marker.specs.declared.refusal.HeaderRefusal.TheVariants.{LengthBad, MultiScan, ScanParams, TooManyBlocks}
use Rattle.jpeg_marker.specs.declared.parameters.FrameComponent.{FrameComponent}
use Rattle.jpeg_marker.specs.declared.parameters.ScanComponent.{ScanComponent}
use Rattle.jpeg_marker.specs.declared.component.Component.{Component}
use Rattle.jpeg_marker.specs.declared.definitions.Definitions.{Definitions}
use Rattle.jpeg_marker.specs.declared.scans.Scans.{Scans}
use Rattle.jpeg_marker.specs.declared.scans.Scans.TheVariants.{One}
use Rattle.jpeg_marker.specs.MarkerSegments.{Segment, segment_text}
use Rattle.jpeg_marker.specs.HuffmanTables.{TableFields}
use Rattle.jpeg_marker.specs.HeldTables.{table_in}
use Rattle.jpeg_marker.specs.Frames.{FrameFields, IsFrame}
use Rattle.jpeg_marker.specs.Plans.{PlanFields, IsPlan, plan_at, part_of, parts_at, plan_with, plan_after, plan_fault, range_fault, order_fault, indexes_fault, scan_fault, scan_selectors, selectors_of, scan_count, scan_components, indexes_from, are_indexes, is_coded, coded_after, components_of, components_at, component_of, component_with, with_prefix, blocks_of, most_blocks}
use Rattle.jpeg_marker.specs.Walks.{Walk, nothing_known, first_walk, next_walk, walk_from, walk_text}
use Rattle.jpeg_marker.specs.GoodSegments.{length_place, body_fault, known_after}
use Rattle.jpeg_marker.specs.HeaderPlan.{Begins, Accepts, Opens}
use Rattle.jpeg_marker.specs.AcceptedPlans.{HasTables, IsKnown, CanScan, HasPlan, BegunHasPlan, AcceptedHasPlan, NextHasPlan}
use Rattle.jpeg_marker.specs.KnownBefore.{AreBytes, IsSound, AreKnown}
use Rattle.jpeg_marker.proofs.Choices.{rising_is, rising_test, rising_more, rising_few, named_rising, named_long, Rising, chosen_are, chosen_within, some_is_one}
use Rattle.jpeg_marker.proofs.TablesTaken.{table_sound, known_sound, bytes_first, bytes_last, bodies_are_bytes}
use Rattle.jpeg_marker.proofs.FramesTaken.{frame_passed, frame_stays, mcus_some, first_within, no_fault}
use Rattle.jpeg_marker.proofs.MovedHeaders.{good_moves, passed_moves}

-- each table that there is, is one
abbrev AreTables : (ℕ → ℕ → Option TableFields) → Type 0
AreTables table = (class number : ℕ) (t : TableFields) → table class number ≡ Some t → IsSound t

-- components with tables, as the frame has them
record AreWhole (indexes : List ℕ) (parts : List FrameComponent) (components : List Component) : Type 0 where
  parts_are : map part_of components ≡ parts
  indexes_are : map (λ (c : Component). c.index) components ≡ indexes
  tables : AllByRecursion HasTables components

-- a component with its tables
record IsOne (index : ℕ) (p : FrameComponent) (c : Component) : Type 0 where
  part : part_of c ≡ p
  at : c.index ≡ index
  tables : HasTables c

one_with : (index : ℕ) (p : FrameComponent) (dc ac : Option TableFields) (c : Component) → ((t : TableFields) → dc ≡ Some t → IsSound t) → ((t : TableFields) → ac ≡ Some t → IsSound t) → component_with index p dc ac ≡ Some c → IsOne index p c
one_with index p None ac c d a is = cc
one_with index p (Some dc) None c d a is = cc
one_with index p (Some dc) (Some ac) c d a is =
    let first = d dc refl in
    let second = a ac refl in
    let one : IsOne index p (record { index = index; id = p.id; h = p.h; v = p.v; dc = dc; ac = ac }) = record {
      part = refl;
      at = refl;
      tables = record { dc = first.table; ac = second.table; dc_bytes = first.bytes; ac_bytes = second.bytes };
    } in
    subst (IsOne index p) (some_is_one _ c is) one

-- one more
whole_more : (index : ℕ) (indexes : List ℕ) (p : FrameComponent) (parts : List FrameComponent) (first : Option Component) (others : Option (List Component)) (components : List Component) → ((c : Component) → first ≡ Some c → IsOne index p c) → ((cs : List Component) → others ≡ Some cs → AreWhole indexes parts cs) → with_prefix first others ≡ Some components → AreWhole (index ∷ indexes) (p ∷ parts) components
whole_more index indexes p parts None others components f o is = cc
whole_more index indexes p parts (Some c) None components f o is = cc
whole_more index indexes p parts (Some c) (Some cs) components f o is =
    let one = f c refl in
    let rest = o cs refl in
    let all : AreWhole (index ∷ indexes) (p ∷ parts) (c ∷ cs) = record { parts_are = rw (one.part, rest.parts_are) refl; indexes_are = rw (one.at, rest.indexes_are) refl; tables = (one.tables, rest.tables) } in
    subst (AreWhole (index ∷ indexes) (p ∷ parts)) (some_is_one (c ∷ cs) components is) all

whole : (table : ℕ → ℕ → Option TableFields) (indexes : List ℕ) (parts : List FrameComponent) (selectors : List ScanComponent) (components : List Component) → AreTables table → length parts ≡ length indexes → length selectors ≡ length indexes → components_of table indexes parts selectors ≡ Some components → AreWhole indexes parts components
whole table [] [] selectors components tables a b is =
    let none : AreWhole [] [] [] = record { parts_are = refl; indexes_are = refl; tables = tt } in
    subst (AreWhole [] []) (some_is_one [] components is) none
whole table [] (p ∷ parts) selectors components tables a b is = absurd (omega arith)
whole table (index ∷ indexes) [] selectors components tables a b is = absurd (omega arith)
whole table (index ∷ indexes) (p ∷ parts) [] components tables a b is = absurd (omega arith)
whole table (index ∷ indexes) (p ∷ parts) (s ∷ selectors) components tables a b is =
    whole_more index indexes p parts (component_of table index p s) (components_of table indexes parts selectors) components (λ c e. one_with index p (table 0 s.dc) (table 1 s.ac) c (tables 0 s.dc) (tables 1 s.ac) e) (λ cs e. whole table indexes parts selectors cs tables (omega arith) (omega arith) e) is

-- what the checks of a scan leave
not_any_of : (a b c : Bool) (x y z : HeaderRefusal) (rest : Option HeaderRefusal) → cond a (Some x) (cond b (Some y) (cond c (Some z) rest)) ≡ None → (a ≡ false) × (b ≡ false) × (c ≡ false) × (rest ≡ None)
not_any_of true b c x y z rest h = cc
not_any_of false true c x y z rest h = cc
not_any_of false false true x y z rest h = cc
not_any_of false false false x y z rest h = (refl, refl, refl, h)

selectors_all : (n : ℕ) (bytes : List ℕ) → length bytes ≡ 2 * n → length (selectors_of bytes) ≡ n
selectors_all zero [] e = refl
selectors_all zero (a ∷ bytes) e = absurd (omega arith)
selectors_all (suc n) [] e = absurd (omega arith)
selectors_all (suc n) (a ∷ []) e = absurd (omega arith)
selectors_all (suc n) (a ∷ b ∷ bytes) e = ap suc (selectors_all n bytes (omega arith))

record IsOrdered (coded : List Bool) (parts : List FrameComponent) (body : List ℕ) : Type 0 where
  some : 1 ≤ scan_count body
  few : scan_count body ≤ length parts
  long : length (scan_selectors body) ≡ scan_count body
  fresh : indexes_fault coded (indexes_from 0 parts (scan_selectors body)) ≡ None

ordered : (scans : Scans) (coded : List Bool) (parts : List FrameComponent) (at : ℕ) (body : List ℕ) → order_fault scans coded parts at body ≡ None → IsOrdered coded parts body
ordered scans coded parts at body none =
    let h = not_any_of _ _ _ (LengthBad at) MultiScan ScanParams (indexes_fault coded (indexes_from 0 parts (scan_selectors body))) none in
    let long : length body ≡ 4 + 2 * scan_count body = (let a = h.0 in grind (arith, nat_tests)) in
    let size : length (take (2 * scan_count body) (drop 1 body)) ≡ 2 * scan_count body = length-take-le (2 * scan_count body) (drop 1 body) (omega (arith, length-drop 1 body)) in
    record {
      some = let c = h.2 in grind (arith, nat_tests);
      few = let c = h.2 in grind (arith, nat_tests);
      long = selectors_all (scan_count body) (take (2 * scan_count body) (drop 1 body)) size;
      fresh = h.3;
    }

-- the components that a scan has
record AreChosen (coded : List Bool) (parts : List FrameComponent) (size : ℕ) (components : List Component) : Type 0 where
  indexes : List ℕ
  size_is : length indexes ≡ size
  some : 1 ≤ length indexes
  rising : are_indexes 0 (length parts) indexes ≡ true
  fresh : list_any (is_coded coded) indexes ≡ false
  whole : AreWhole indexes (parts_at parts indexes) components

not_coded : (b : Bool) (r : HeaderRefusal) → cond b (Some r) None ≡ None → b ≡ false
not_coded true r h = cc
not_coded false r h = refl

chosen_by : (table : ℕ → ℕ → Option TableFields) (coded : List Bool) (parts : List FrameComponent) (selectors : List ScanComponent) (found : Option (List ℕ)) (components : List Component) → AreTables table → 1 ≤ length selectors → indexes_from 0 parts selectors ≡ found → indexes_fault coded found ≡ None → components_at table parts found selectors ≡ Some components → AreChosen coded parts (length selectors) components
chosen_by table coded parts selectors None components tables some is fresh e = cc
chosen_by table coded parts selectors (Some indexes) components tables some is fresh e =
    let long = named_long parts selectors indexes is in
    record {
      indexes = indexes;
      size_is = long;
      some = omega arith;
      rising = named_rising parts selectors indexes is;
      fresh = not_coded (list_any (is_coded coded) indexes) MultiScan fresh;
      whole = whole table indexes (parts_at parts indexes) selectors components tables (length-map indexes _) (sym long) e;
    }

not_many : (n : ℕ) → cond (ltb most_blocks n) (Some TooManyBlocks) None ≡ None → n ≤ most_blocks
not_many n none = grind (arith, nat_tests)

few_blocks : (before : ℕ) (f : FrameFields) (components : List Component) → plan_fault before f (Some components) ≡ None → before + blocks_of f (map part_of components) ≤ most_blocks
few_blocks before f components none = not_many (before + blocks_of f (map part_of components)) none

-- what holds of a plan, after what is known and the header having a length
record IsPlanned (known : Definitions) (f : FrameFields) (size : ℕ) (plan : PlanFields) (header_length : ℕ) : Type 0 where
  is : IsPlan plan
  tables : AllByRecursion HasTables plan.components
  long : plan.header_length ≡ header_length
  frame : plan.known.frame ≡ known.frame
  kept : plan.known.tables ≡ known.tables
  fresh : list_any (is_coded known.coded) (map (λ (c : Component). c.index) plan.components) ≡ false
  rising : Rising 0 (length f.parts) (map (λ (c : Component). c.index) plan.components)
  size_is : length (map (λ (c : Component). c.index) plan.components) ≡ size
  coded : plan.known.coded ≡ coded_after known.coded (map (λ (c : Component). c.index) plan.components)
  blocks : plan.known.blocks ≡ known.blocks + plan.blocks
  few : plan.known.blocks ≤ most_blocks

planned : (known : Definitions) (f : FrameFields) (size header_length : ℕ) (components : List Component) → IsFrame f → AreChosen known.coded f.parts size components → known.blocks + blocks_of f (map part_of components) ≤ most_blocks → IsPlanned known f size (plan_with known f header_length components) header_length
planned known f size header_length components frame chosen few =
    let whole = chosen.whole in
    let rising = rising_is 0 (length f.parts) chosen.indexes chosen.rising in
    let count : length components ≡ length chosen.indexes = sym (length-map components (λ (c : Component). c.index)) ∙ ap length whole.indexes_are in
    let small = rising_few 0 (length f.parts) chosen.indexes (omega arith) rising in
    let some = chosen.some in
    let four = frame.few in
    let within = chosen_within f.parts chosen.indexes chosen.rising frame.components in
    let wide = mcus_some (λ p. p.h) f.width f.parts (map part_of components) frame.wide (λ one. (first_within f.parts (map part_of components) (rw whole.parts_are within) one).wide) in
    let high = mcus_some (λ p. p.v) f.height f.parts (map part_of components) frame.high (λ one. (first_within f.parts (map part_of components) (rw whole.parts_are within) one).high) in
    record {
      is = record {
        some = omega arith;
        few = omega arith;
        indexes = rw whole.indexes_are (rising_test 0 4 chosen.indexes (rising_more 0 (length f.parts) 4 chosen.indexes frame.few rising));
        components = rw whole.parts_are (chosen_are f.parts chosen.indexes chosen.some chosen.rising frame.components);
        grid = refl;
        blocks = omega arith;
        wide = wide;
        high = high;
      };
      tables = whole.tables;
      long = refl;
      frame = refl;
      kept = refl;
      fresh = rw whole.indexes_are chosen.fresh;
      rising = rw whole.indexes_are rising;
      size_is = ap length whole.indexes_are ∙ chosen.size_is;
      coded = refl;
      blocks = refl;
      few = few;
    }

plan_found : (known : Definitions) (f : FrameFields) (size header_length : ℕ) (found : Option (List Component)) (plan : PlanFields) → IsFrame f → ((cs : List Component) → found ≡ Some cs → AreChosen known.coded f.parts size cs) → plan_fault known.blocks f found ≡ None → option_map (plan_with known f header_length) found ≡ Some plan → IsPlanned known f size plan header_length
plan_found known f size header_length None plan frame all none says = cc
plan_found known f size header_length (Some cs) plan frame all none says =
    subst (λ (p : PlanFields). IsPlanned known f size p header_length) (some_is_one _ plan says) (planned known f size header_length cs frame (all cs refl) (few_blocks known.blocks f cs none))

-- a plan after what is known, whose frame it has
record IsFound (scans : Scans) (known : Definitions) (at : ℕ) (body : List ℕ) (plan : PlanFields) (header_length : ℕ) : Type 0 where
  frame : FrameFields
  there : known.frame ≡ Some frame
  is_frame : IsFrame frame
  order : order_fault scans known.coded frame.parts at body ≡ None
  planned : IsPlanned known frame (scan_count body) plan header_length

plan_is : (scans : Scans) (known : Definitions) (frame : Option FrameFields) (at header_length : ℕ) (body : List ℕ) (plan : PlanFields) → known.frame ≡ frame → IfSome frame IsFrame → AreTables (table_in known.tables) → scan_fault scans known frame at body ≡ None → plan_after known frame header_length body ≡ Some plan → IsFound scans known at body plan header_length
plan_is scans known None at header_length body plan is frame tables none says = cc
plan_is scans known (Some f) at header_length body plan is frame tables none says =
    let parts = no_fault (order_fault scans known.coded f.parts at body) _ none in
    let ranged = no_fault (range_fault body) _ parts.1 in
    let order = ordered scans known.coded f.parts at body parts.0 in
    let long = order.long in
    let some = order.some in
    record {
      frame = f;
      there = is;
      is_frame = frame;
      order = parts.0;
      planned = plan_found known f (scan_count body) header_length (scan_components known f body) plan frame (λ cs e. subst (λ n. AreChosen known.coded f.parts n cs) order.long (chosen_by (table_in known.tables) known.coded f.parts (scan_selectors body) (indexes_from 0 f.parts (scan_selectors body)) cs tables (omega arith) refl order.fresh e)) ranged.1 says;
    }

scan_checked : (scans : Scans) (known : Definitions) (at code : ℕ) (body : List ℕ) → code ≡ 218 → body_fault scans known at code body ≡ None → scan_fault scans known known.frame at body ≡ None
scan_checked scans known at code body is none = subst (λ (n : ℕ). body_fault scans known at n body ≡ None) is none

-- the segments before the scan's
before_bytes : (w : Walk) (bytes rest : List ℕ) (before : List Segment) (scan : Segment) → AreBytes bytes → bytes ≡ walk_text w (before ++ scan ∷ []) ++ rest → AreBytes (flat_map segment_text before)
before_bytes w bytes rest before scan all text =
    let header = bytes_first (walk_text w (before ++ scan ∷ [])) rest (subst AreBytes text all) in
    bytes_first (flat_map segment_text before) (flat_map segment_text (scan ∷ [])) (subst AreBytes (flat_map-append segment_text before (scan ∷ [])) (bytes_last w.start (flat_map segment_text (before ++ scan ∷ [])) header))

-- what holds of a header that is accepted
record IsTaken (w : Walk) (bytes : List ℕ) (plan : PlanFields) : Type 0 where
  known : Definitions
  frame : FrameFields
  there : known.frame ≡ Some frame
  is_frame : IsFrame frame
  tables : AllByRecursion (λ t. IfSome t IsSound) known.tables
  coded : known.coded ≡ w.known.coded
  blocks : known.blocks ≡ w.known.blocks
  stays : (f : FrameFields) → w.known.frame ≡ Some f → known.frame ≡ w.known.frame
  at : ℕ
  body : List ℕ
  order : order_fault w.scans known.coded frame.parts at body ≡ None
  planned : IsPlanned known frame (scan_count body) plan plan.header_length
  within : plan.header_length ≤ length bytes
  alone : (place : ℕ) (rest : List ℕ) → Begins (walk_from w.known w.scans place w.start) (take plan.header_length bytes ++ rest) plan

taken : (w : Walk) (bytes : List ℕ) (plan : PlanFields) → AreBytes bytes → IfSome w.known.frame IsFrame → AllByRecursion (λ t. IfSome t IsSound) w.known.tables → Begins w bytes plan → IsTaken w bytes plan
taken w bytes plan all frame tables is =
    let before = is.before in
    let scan = is.scan in
    let header = walk_text w (before ++ scan ∷ []) in
    let good = is.header.passed.good in
    let bodies = bodies_are_bytes before (before_bytes w bytes is.rest before scan all is.text) in
    let known = known_after w.known before in
    let sound = known_sound w before good bodies tables in
    let found = plan_is w.scans known known.frame (length_place w before scan) (length header) scan.body plan refl (frame_passed w before good frame) (λ class number t e. table_sound known.tables class number t sound e) (scan_checked w.scans known (length_place w before scan) scan.code scan.body is.header.last is.header.good.checked) is.says in
    let long = found.planned.long in
    let prefix : take plan.header_length bytes ≡ header = ap (take plan.header_length) is.text ∙ take_at header is.rest plan.header_length (sym long) in
    record {
      known = known;
      frame = found.frame;
      there = found.there;
      is_frame = found.is_frame;
      tables = sound;
      coded = refl;
      blocks = refl;
      stays = λ f here. frame_stays w before f here good;
      at = length_place w before scan;
      body = scan.body;
      order = found.order;
      planned = subst (IsPlanned known found.frame (scan_count scan.body) plan) (sym long) found.planned;
      within = omega (arith, long, ap length is.text, length-append header is.rest);
      alone = λ place rest. record {
        before = before;
        scan = scan;
        rest = rest;
        header = record { passed = passed_moves w place before is.header.passed; good = good_moves w place before scan is.header.good; last = is.header.last };
        text = ap (λ (xs : List ℕ). xs ++ rest) prefix;
        says = is.says;
      };
    }

known_is : (w : Walk) (bytes : List ℕ) (plan : PlanFields) → IsTaken w bytes plan → IsKnown plan.known
known_is w bytes plan is = record {
  frame = is.frame;
  there = is.planned.frame ∙ is.there;
  is_frame = is.is_frame;
  tables = subst (AllByRecursion (λ t. IfSome t IsSound)) (sym is.planned.kept) is.tables;
}

pub begun_has_plan : BegunHasPlan
begun_has_plan w bytes plan all known is =
    let has = taken w bytes plan all known.frame known.tables is in
    record {
      is_plan = has.planned.is;
      tables = has.planned.tables;
      within = has.within;
      alone = has.alone;
      known = known_is w bytes plan has;
      fresh = ap (λ (coded : List Bool). list_any (is_coded coded) (map (λ (c : Component). c.index) plan.components)) (sym has.coded) ∙ has.planned.fresh;
      coded = has.planned.coded ∙ ap (λ (coded : List Bool). coded_after coded (map (λ (c : Component). c.index) plan.components)) has.coded;
      blocks = has.planned.blocks ∙ ap (λ n. n + plan.blocks) has.blocks;
      few = has.planned.few;
    }

pub bytes_from : (n : ℕ) (xs : List ℕ) → AreBytes xs → AreBytes (drop n xs)
bytes_from zero xs all = all
bytes_from (suc n) [] all = tt
bytes_from (suc n) (x ∷ xs) all = bytes_from n xs all.1

-- so its scan can follow it
pub can_scan : (w : Walk) (bytes : List ℕ) (plan : PlanFields) → AreBytes bytes → AreKnown w.known → Begins w bytes plan → CanScan bytes plan
can_scan w bytes plan all known is =
    let has = begun_has_plan w bytes plan all known is in
    record { is_plan = has.is_plan; tables = has.tables; within = has.within }

-- the same of a header at a place
pub can_scan_at : (w : Walk) (bytes : List ℕ) (place : ℕ) (plan : PlanFields) → AreBytes bytes → AreKnown w.known → place ≤ length bytes → Begins w (drop place bytes) plan → CanScan bytes (plan_at place plan)
can_scan_at w bytes place plan all known here is =
    let can = can_scan w (drop place bytes) plan (bytes_from place bytes all) known is in
    let p = can.is_plan in
    record {
      is_plan = record { some = p.some; few = p.few; indexes = p.indexes; components = p.components; grid = p.grid; blocks = p.blocks; wide = p.wide; high = p.high };
      tables = can.tables;
      within = (let h = can.within in omega (arith, h, here, length-drop place bytes));
    }

-- nothing is known before a file's first header
pub none_known : AreKnown nothing_known
none_known = record { frame = tt; tables = (tt, (tt, (tt, (tt, (tt, (tt, (tt, (tt, tt)))))))) }

pub opened_has_plan : AcceptedHasPlan
opened_has_plan scans bytes plan all is =
    let has = taken (first_walk scans) bytes plan all tt (tt, (tt, (tt, (tt, (tt, (tt, (tt, (tt, tt)))))))) is in
    record {
      is_plan = has.planned.is;
      tables = has.planned.tables;
      within = has.within;
      alone = has.alone 0;
      known = known_is (first_walk scans) bytes plan has;
    }

pub accepted_has_plan : (bytes : List ℕ) (plan : PlanFields) → AreBytes bytes → Accepts bytes plan → HasPlan bytes plan
accepted_has_plan bytes plan all is = opened_has_plan One bytes plan all is

if_known : (o : Option FrameFields) (f : FrameFields) → o ≡ Some f → IsFrame f → IfSome o IsFrame
if_known None f is frame = tt
if_known (Some g) f is frame = subst IsFrame (sym (some_is_one g f is)) frame

-- a frame and tables are known before a further header
pub next_known : (known : Definitions) → IsKnown known → AreKnown known
next_known known is = record { frame = if_known known.frame is.frame is.there is.is_frame; tables = is.tables }

pub next_has_plan : NextHasPlan
next_has_plan plan bytes place next all known is =
    let w = next_walk plan.known place in
    let has = taken w (drop place bytes) next (bytes_from place bytes all) (if_known plan.known.frame known.frame known.there known.is_frame) known.tables is in
    record {
      is_plan = has.planned.is;
      tables = has.planned.tables;
      within = has.within;
      alone = has.alone 0;
      known = known_is w (drop place bytes) next has;
      frame = has.planned.frame ∙ has.stays known.frame known.there;
      fresh = ap (λ (coded : List Bool). list_any (is_coded coded) (map (λ (c : Component). c.index) next.components)) (sym has.coded) ∙ has.planned.fresh;
      coded = has.planned.coded ∙ ap (λ (coded : List Bool). coded_after coded (map (λ (c : Component). c.index) next.components)) has.coded;
      blocks = has.planned.blocks ∙ ap (λ n. n + next.blocks) has.blocks;
    }

-- what holds of the header of a file of one scan
pub record HasAll (bytes : List ℕ) (plan : PlanFields) : Type 0 where
  pub frame : FrameFields
  pub there : plan.known.frame ≡ Some frame
  pub few : length frame.parts ≤ 4
  pub rising : Rising 0 (length frame.parts) (map (λ (c : Component). c.index) plan.components)
  pub long : length (map (λ (c : Component). c.index) plan.components) ≡ length frame.parts
  pub coded : plan.known.coded ≡ coded_after (replicate 4 false) (map (λ (c : Component). c.index) plan.components)

one_whole : (coded : List Bool) (parts : List FrameComponent) (at : ℕ) (body : List ℕ) → order_fault One coded parts at body ≡ None → scan_count body ≡ length parts
one_whole coded parts at body none =
    let h = not_any_of _ _ _ (LengthBad at) MultiScan ScanParams (indexes_fault coded (indexes_from 0 parts (scan_selectors body))) none in
    let b = h.1 in
    let c = h.2 in
    grind (arith, nat_tests)

pub accepted_has_all : (bytes : List ℕ) (plan : PlanFields) → AreBytes bytes → Accepts bytes plan → HasAll bytes plan
accepted_has_all bytes plan all is =
    let has = taken (first_walk One) bytes plan all tt (tt, (tt, (tt, (tt, (tt, (tt, (tt, (tt, tt)))))))) is in
    record {
      frame = has.frame;
      there = has.planned.frame ∙ has.there;
      few = has.is_frame.few;
      rising = has.planned.rising;
      long = has.planned.size_is ∙ one_whole has.known.coded has.frame.parts has.at has.body has.order;
      coded = has.planned.coded ∙ ap (λ (coded : List Bool). coded_after coded (map (λ (c : Component). c.index) plan.components)) has.coded;
    }

-- what holds of a first header, whatever scans the file may have
pub record HasSome (scans : Scans) (bytes : List ℕ) (plan : PlanFields) (is : Opens scans bytes plan) : Type 0 where
  pub frame : FrameFields
  pub found : (known_after nothing_known is.before).frame ≡ Some frame
  pub there : plan.known.frame ≡ Some frame
  pub few : length frame.parts ≤ 4
  pub long : length (map (λ (c : Component). c.index) plan.components) ≡ scan_count is.scan.body
  pub coded : plan.known.coded ≡ coded_after (replicate 4 false) (map (λ (c : Component). c.index) plan.components)

pub opened_has_some : (scans : Scans) (bytes : List ℕ) (plan : PlanFields) → AreBytes bytes → (is : Opens scans bytes plan) → HasSome scans bytes plan is
unfolding taken
opened_has_some scans bytes plan all is =
    let has = taken (first_walk scans) bytes plan all tt (tt, (tt, (tt, (tt, (tt, (tt, (tt, (tt, tt)))))))) is in
    record {
      frame = has.frame;
      found = has.there;
      there = has.planned.frame ∙ has.there;
      few = has.is_frame.few;
      long = has.planned.size_is;
      coded = has.planned.coded;
    }
