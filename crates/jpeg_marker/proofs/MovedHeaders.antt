-- A header that passes its checks passes them at any place.
use Rattle.std.proofs.Common.{◌≡◌, ℕ, zero, suc, ◌+◌, ◌*◌, Bool, true, false, not, ◌||◌, List, [], ◌∷◌, ◌++◌, length, get_or, take, drop, sum, Option, Some, None, refl, cond, eqb, ltb, ◌/◌, ◌%◌}
use Rattle.std.specs.Option.{option_or}
use Rattle.jpeg_marker.specs.declared.refusal.HeaderRefusal.{HeaderRefusal}
use Rattle.jpeg_marker.specs.declared.refusal.HeaderRefusal.TheVariants.{LengthBad, TableBad, PrecisionBad, SizeZero, ComponentsBad, MultiScan, ScanParams}
use Rattle.jpeg_marker.specs.declared.parameters.FrameComponent.{FrameComponent}
use Rattle.jpeg_marker.specs.declared.definitions.Definitions.{Definitions}
use Rattle.jpeg_marker.specs.declared.scans.Scans.{Scans}
use Rattle.jpeg_marker.specs.MarkerSegments.{Segment, number_at}
use Rattle.jpeg_marker.specs.HuffmanTables.{fields_at}
use Rattle.jpeg_marker.specs.TableFaults.{is_table, table_fault, tables_fault}
use Rattle.jpeg_marker.specs.Frames.{FrameFields, parts_of, numbers_fault, components_fault, frame_fault}
use Rattle.jpeg_marker.specs.Plans.{order_fault, range_fault, plan_fault, scan_components, scan_fault, scan_count, scan_selectors, indexes_from, indexes_fault, leaves_out}
use Rattle.jpeg_marker.specs.Walks.{Walk, walk_from}
use Rattle.jpeg_marker.specs.GoodSegments.{interval_fault, segment_fault, body_fault, known_after, length_place, IsGood, AreGoodAfter, ArePassed}

-- a check that passes, whatever it would say else
moved : (b : Bool) (x y : HeaderRefusal) (rest other : Option HeaderRefusal) → (rest ≡ None → other ≡ None) → cond b (Some x) rest ≡ None → cond b (Some y) other ≡ None
moved true x y rest other f h = cc
moved false x y rest other f h = f h

both_moved : (a b c d : Option HeaderRefusal) → (a ≡ None → c ≡ None) → (b ≡ None → d ≡ None) → option_or a b ≡ None → option_or c d ≡ None
both_moved (Some r) b c d f g h = cc
both_moved None b c d f g h = rw (f refl) (g h)

chosen : (b : Bool) (x y u v : Option HeaderRefusal) → (x ≡ None → u ≡ None) → (y ≡ None → v ≡ None) → cond b x y ≡ None → cond b u v ≡ None
chosen true x y u v f g h = f h
chosen false x y u v f g h = g h

same : (x : Option HeaderRefusal) → x ≡ None → x ≡ None
same x h = h

table_moves : (at place by goes byte : ℕ) (bytes : List ℕ) → table_fault at place byte bytes ≡ None → table_fault by goes byte bytes ≡ None
table_moves at place by goes byte bytes h =
    moved (ltb (length bytes) 16) (LengthBad at) (LengthBad by) _ _
    (moved (ltb 1 (byte / 16) || ltb 3 (byte % 16)) (TableBad place) (TableBad goes) _ _
    (moved (ltb (length bytes) (16 + sum (take 16 bytes))) (LengthBad at) (LengthBad by) _ _
    (chosen (is_table (fields_at bytes)) None (Some (TableBad place)) None (Some (TableBad goes)) (λ n. refl) (λ n. cc)))) h

tables_move : (at place by goes skipped : ℕ) (bytes : List ℕ) → tables_fault at place skipped bytes ≡ None → tables_fault by goes skipped bytes ≡ None
tables_move at place by goes skipped [] h = refl
tables_move at place by goes (suc skipped) (byte ∷ bytes) h = tables_move at (place + 1) by (goes + 1) skipped bytes h
tables_move at place by goes zero (byte ∷ bytes) h =
    both_moved (table_fault at place byte bytes) (tables_fault at (place + 1) (16 + sum (take 16 bytes)) bytes) (table_fault by goes byte bytes) (tables_fault by (goes + 1) (16 + sum (take 16 bytes)) bytes)
    (table_moves at place by goes byte bytes) (tables_move at (place + 1) by (goes + 1) (16 + sum (take 16 bytes)) bytes) h

-- what is checked of a frame's numbers after its length
abbrev sizes_fault : List ℕ → Option HeaderRefusal
sizes_fault body =
    cond (not (eqb (get_or body 0 0) 8)) (Some PrecisionBad)
    (cond (eqb (number_at (drop 1 body)) 0 || eqb (number_at (drop 3 body)) 0) (Some SizeZero)
    (cond (ltb (get_or body 5 0) 1 || ltb 4 (get_or body 5 0)) (Some ComponentsBad) None))

frame_moves : (at by : ℕ) (frame : Option FrameFields) (body : List ℕ) → frame_fault frame at body ≡ None → frame_fault frame by body ≡ None
frame_moves at by (Some f) body h = cc
frame_moves at by None body h =
    both_moved (numbers_fault at body) (components_fault (parts_of (drop 6 body))) (numbers_fault by body) (components_fault (parts_of (drop 6 body)))
    (moved (ltb (length body) 6 || not (eqb (length body) (6 + 3 * get_or body 5 0))) (LengthBad at) (LengthBad by) (sizes_fault body) (sizes_fault body) (same (sizes_fault body))) (same (components_fault (parts_of (drop 6 body)))) h

interval_moves : (at by : ℕ) (body : List ℕ) → interval_fault at body ≡ None → interval_fault by body ≡ None
interval_moves at by body h = chosen (eqb (length body) 2) None (Some (LengthBad at)) None (Some (LengthBad by)) (λ n. refl) (λ n. cc) h

-- what is checked of a scan's components after its length
abbrev names_fault : Scans → List Bool → List FrameComponent → List ℕ → Option HeaderRefusal
names_fault scans coded parts body =
    cond (leaves_out scans (scan_count body) (length parts)) (Some MultiScan)
    (cond (eqb (scan_count body) 0 || ltb (length parts) (scan_count body)) (Some ScanParams)
    (indexes_fault coded (indexes_from 0 parts (scan_selectors body))))

scan_moves : (scans : Scans) (known : Definitions) (frame : Option FrameFields) (at by : ℕ) (body : List ℕ) → scan_fault scans known frame at body ≡ None → scan_fault scans known frame by body ≡ None
scan_moves scans known None at by body h = cc
scan_moves scans known (Some f) at by body h =
    both_moved (order_fault scans known.coded f.parts at body) (option_or (range_fault body) (plan_fault known.blocks f (scan_components known f body))) (order_fault scans known.coded f.parts by body) (option_or (range_fault body) (plan_fault known.blocks f (scan_components known f body)))
    (moved (ltb (length body) 1 || not (eqb (length body) (4 + 2 * scan_count body))) (LengthBad at) (LengthBad by) (names_fault scans known.coded f.parts body) (names_fault scans known.coded f.parts body) (same (names_fault scans known.coded f.parts body))) (same (option_or (range_fault body) (plan_fault known.blocks f (scan_components known f body)))) h

body_moves : (scans : Scans) (known : Definitions) (at by code : ℕ) (body : List ℕ) → body_fault scans known at code body ≡ None → body_fault scans known by code body ≡ None
body_moves scans known at by code body h =
    chosen (eqb code 218) (scan_fault scans known known.frame at body) (segment_fault known at code body) (scan_fault scans known known.frame by body) (segment_fault known by code body)
    (scan_moves scans known known.frame at by body)
    (chosen (eqb code 192) (frame_fault known.frame at body) _ (frame_fault known.frame by body) _ (frame_moves at by known.frame body)
    (chosen (eqb code 196) (tables_fault at (at + 2) 0 body) _ (tables_fault by (by + 2) 0 body) _ (tables_move at (at + 2) by (by + 2) 0 body)
    (chosen (eqb code 221) (interval_fault at body) None (interval_fault by body) None (interval_moves at by body) (same None)))) h

-- the same walk at another place
abbrev pub at_place : Walk → ℕ → Walk
at_place w place = walk_from w.known w.scans place w.start

pub good_moves : (w : Walk) (place : ℕ) (before : List Segment) (s : Segment) → IsGood w before s → IsGood (at_place w place) before s
good_moves w place before s good = record { whole = good.whole; checked = body_moves w.scans (known_after w.known before) (length_place w before s) (length_place (at_place w place) before s) s.code s.body good.checked }

are_good_move : (w : Walk) (place : ℕ) (before segments : List Segment) → AreGoodAfter w before segments → AreGoodAfter (at_place w place) before segments
are_good_move w place before [] good = tt
are_good_move w place before (s ∷ segments) good = (good_moves w place before s good.0, are_good_move w place (before ++ s ∷ []) segments good.1)

pub passed_moves : (w : Walk) (place : ℕ) (segments : List Segment) → ArePassed w segments → ArePassed (at_place w place) segments
passed_moves w place segments passed = record { good = are_good_move w place [] segments passed.good; no_scan = passed.no_scan }
